use Rattle.sk_reading_complete_laws.proofs.Programs.{one-program}
use Rattle.sk_reading_complete_laws.proofs.reads_as_one_program.Goals as goal

pub returns : goal.returns
returns c = one-program
