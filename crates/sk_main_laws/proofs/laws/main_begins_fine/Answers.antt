use Rattle.sk_main_laws.proofs.Runs.{begins_fine}
use Rattle.sk_main_laws.proofs.laws.main_begins_fine.Goals as goal

pub returns : goal.returns
returns c = begins_fine
