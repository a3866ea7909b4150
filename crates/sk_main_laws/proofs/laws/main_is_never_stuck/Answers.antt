use Rattle.sk_main_laws.proofs.Instructions.{steps_are_fine}
use Rattle.sk_main_laws.proofs.laws.main_is_never_stuck.Goals as goal

pub returns : goal.returns
returns c = steps_are_fine
