use Rattle.sk_main_laws.proofs.Running.{runs_on}
use Rattle.sk_main_laws.proofs.laws.main_runs_to_its_meaning.Goals as goal

pub returns : goal.returns
returns c = runs_on
