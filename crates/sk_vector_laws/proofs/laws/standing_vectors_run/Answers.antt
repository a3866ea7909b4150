use Rattle.sk_vector_laws.proofs.Assembly.{standing_runs}
use Rattle.sk_vector_laws.proofs.laws.standing_vectors_run.Goals as goal

pub returns : goal.returns
returns c = standing_runs
