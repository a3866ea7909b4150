use Rattle.sk_main_runs.proofs.Whole.{main_runs_alike}
use Rattle.sk_main_runs.proofs.laws.main_runs_alike.Goals as goal

pub returns : goal.returns
returns c = main_runs_alike
