use Rattle.sk_reading_complete_laws.proofs.Programs.{program-read}
use Rattle.sk_reading_complete_laws.proofs.what_is_spelled_is_read.Goals as goal

pub returns : goal.returns
returns c = program-read
