use Rattle.sk_vm_rows.proofs.Taking.{function-there}
use Rattle.sk_vm_rows.proofs.calls.frame.Goals as goal

pub new-requires-clause-there : goal.new-requires-clause-there
new-requires-clause-there c = function-there c.args.object.now c.args.function c.requires.compiled c.requires.there
