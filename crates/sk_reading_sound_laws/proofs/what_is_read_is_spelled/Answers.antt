use Rattle.sk_reading_sound_laws.proofs.Programs.{program_sound}
use Rattle.sk_reading_sound_laws.proofs.what_is_read_is_spelled.Goals as goal

pub returns : goal.returns
returns c = λ tokens program read. program_sound tokens program.functions read
