use Rattle.sk_vm_rows.proofs.Taking.{instance-there, kernel-maps}
use Rattle.sk_vm_rows.proofs.sharing.applied.Goals as goal

pub new-requires-clause-there : goal.new-requires-clause-there
new-requires-clause-there c = instance-there c.args.object.now c.args.instance c.requires.compiled c.requires.there

pub applied_by-requires-clause-maps : goal.applied_by-requires-clause-maps
applied_by-requires-clause-maps c =
    kernel-maps c.args.object.now c.args.instance c.in_ok-kernel.kernel c.requires.compiled c.in_ok-kernel.ensures.made c.requires.there
