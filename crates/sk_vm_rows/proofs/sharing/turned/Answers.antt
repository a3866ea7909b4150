use Rattle.sk_vm_rows.proofs.Taking.{function-there}
use Rattle.sk_vm_rows.proofs.sharing.turned.Goals as goal

pub turn-requires-clause-there : goal.turn-requires-clause-there
turn-requires-clause-there c = function-there c.args.object.now c.number-function.result c.requires.compiled c.number-function.ensures.there
