use Rattle.sk_vector_laws.proofs.Operators.{standing_operators}
use Rattle.sk_vector_laws.proofs.laws.standing_operators_are_true.Goals as goal

pub returns : goal.returns
returns c = standing_operators
