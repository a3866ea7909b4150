use Rattle.sk_vector_laws.proofs.Assembly.{standing_runnable}
use Rattle.sk_vector_laws.proofs.laws.standing_vectors_are_runnable.Goals as goal

pub returns : goal.returns
returns c = standing_runnable
