use Rattle.sk_vector_laws.proofs.Marks.{standing_safe}
use Rattle.sk_vector_laws.proofs.laws.standing_marks_are_safe.Goals as goal

pub returns : goal.returns
returns c = standing_safe
