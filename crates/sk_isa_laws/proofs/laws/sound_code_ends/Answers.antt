use Rattle.sk_isa_laws.proofs.Runs.{run_ends}
use Rattle.sk_isa_laws.proofs.laws.sound_code_ends.Goals as goal

pub returns : goal.returns
returns c = run_ends
