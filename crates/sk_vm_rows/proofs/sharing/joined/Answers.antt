use Rattle.std.proofs.Common.{arith}
use Rattle.sk_vm_rows.proofs.Taking.{instance-there, kernel-joins}
use Rattle.sk_vm_rows.proofs.sharing.joined.Goals as goal

pub new-requires-clause-there : goal.new-requires-clause-there
new-requires-clause-there c = instance-there c.args.object.now 1 c.requires.compiled (omega arith)

pub joined_by-requires : goal.joined_by-requires
joined_by-requires c = kernel-joins c.args.object.now c.in_ok-kernel.kernel c.requires.compiled c.in_ok-kernel.ensures.made
