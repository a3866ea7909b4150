use Rattle.sk_scheme_sound.proofs.SoundObjects.{plain_is_sound, plain_takes_scalars}
use Rattle.sk_scheme_sound.proofs.laws.plain_programs_are_sound.Goals as goal

pub returns : goal.returns
returns c = record { sound = plain_is_sound; scalars = plain_takes_scalars }
