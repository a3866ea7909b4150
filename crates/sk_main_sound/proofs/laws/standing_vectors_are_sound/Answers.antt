use Rattle.sk_main_sound.proofs.Objects.{standing_are_sound}
use Rattle.sk_main_sound.proofs.laws.standing_vectors_are_sound.Goals as goal

pub returns : goal.returns
returns c = standing_are_sound
