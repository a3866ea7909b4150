use Rattle.sk_vm_rows.proofs.Taking.{well-compiled}
use Rattle.sk_vm_rows.proofs.calls.compiled.Goals as goal

pub returns : goal.returns
returns c =
    well-compiled c.in_ok-program.program c.in_ok-program.ensures c.compiled.result c.compiled.ensures
