use Rattle.sk_main_laws.proofs.Runs.{run_ends}
use Rattle.sk_main_laws.proofs.laws.main_ends.Goals as goal

pub returns : goal.returns
returns c = run_ends
