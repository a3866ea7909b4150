use Rattle.sk_main_runs.proofs.VectorRuns.{compiled_vectors_run}
use Rattle.sk_main_runs.proofs.laws.compiled_vectors_run_as_source.Goals as goal

pub returns : goal.returns
returns c = compiled_vectors_run
