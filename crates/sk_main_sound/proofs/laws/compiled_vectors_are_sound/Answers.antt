use Rattle.sk_main_sound.proofs.Objects.{compiled_are_sound}
use Rattle.sk_main_sound.proofs.laws.compiled_vectors_are_sound.Goals as goal

pub returns : goal.returns
returns c = compiled_are_sound
