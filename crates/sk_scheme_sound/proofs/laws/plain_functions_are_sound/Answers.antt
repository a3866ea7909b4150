use Rattle.sk_scheme_sound.proofs.SoundObjects.{codes_are_sound, alone_is_sound}
use Rattle.sk_scheme_sound.proofs.laws.plain_functions_are_sound.Goals as goal

pub returns : goal.returns
returns c = record { codes = codes_are_sound; alone = alone_is_sound }
