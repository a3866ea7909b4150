use Rattle.sk_refusal_laws.proofs.OneFault.{no-fault}
use Rattle.sk_refusal_laws.proofs.laws.a_program_has_no_fault.Goals as goal

pub returns : goal.returns
returns c = no-fault
