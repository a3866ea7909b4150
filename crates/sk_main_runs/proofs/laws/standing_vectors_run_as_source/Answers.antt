use Rattle.sk_main_runs.proofs.UnmarkedEnds.{standing_vectors_run}
use Rattle.sk_main_runs.proofs.laws.standing_vectors_run_as_source.Goals as goal

pub returns : goal.returns
returns c = standing_vectors_run
