use Rattle.sk_main_runs.proofs.VectorRuns.{vectors_run}
use Rattle.sk_main_runs.proofs.laws.vectors_run_as_source.Goals as goal

pub returns : goal.returns
returns c = vectors_run
