use Rattle.sk_isa_laws.proofs.Runs.{steps_are_fine}
use Rattle.sk_isa_laws.proofs.laws.sound_code_is_never_stuck.Goals as goal

pub returns : goal.returns
returns c = steps_are_fine
