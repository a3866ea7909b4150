use Rattle.sk_vm_rows.proofs.Taking.{dividing-takes}
use Rattle.sk_vm_rows.proofs.calls.dividing.Goals as goal

pub returns : goal.returns
returns c = dividing-takes
