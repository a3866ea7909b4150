use Rattle.sk_vm_rows.proofs.Taking.{function-there}
use Rattle.sk_vm_rows.proofs.sharing.divided.Goals as goal

pub turn-requires-clause-there : goal.turn-requires-clause-there
turn-requires-clause-there c = function-there c.args.object.now c.dividing-function.result c.requires.compiled c.dividing-function.ensures.there
