use Rattle.sk_main_laws.proofs.Called.{calls_are_fine}
use Rattle.sk_main_laws.proofs.laws.main_calls_are_fine.Goals as goal

pub returns : goal.returns
returns c = calls_are_fine
