use Rattle.sk_main_runs.proofs.UnmarkedEnds.{standing_run}
use Rattle.sk_main_runs.proofs.laws.vectors_run.Goals as goal

pub returns : goal.returns
returns c = standing_run
