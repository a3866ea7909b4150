use Rattle.sk_main_runs.proofs.UnmarkedEnds.{unmarked_run}
use Rattle.sk_main_runs.proofs.laws.unmarked_run_alike.Goals as goal

pub returns : goal.returns
returns c = unmarked_run
