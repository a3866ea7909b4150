use Rattle.sk_refusal_laws.proofs.OneFault.{one-fault}
use Rattle.sk_refusal_laws.proofs.laws.a_list_has_one_fault.Goals as goal

pub returns : goal.returns
returns c = one-fault
