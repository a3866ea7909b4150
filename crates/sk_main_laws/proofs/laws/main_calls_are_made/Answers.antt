use Rattle.sk_main_laws.proofs.Finds.{calls_are_made}
use Rattle.sk_main_laws.proofs.laws.main_calls_are_made.Goals as goal

pub returns : goal.returns
returns c = calls_are_made
