use Rattle.sk_host.proofs.Turning.{calls, does}
use Rattle.sk_host.proofs.act.act.Goals as goal

pub returns-in-Call : goal.returns-in-Call
returns-in-Call c =
    calls c.args.program.now.object.now c.in-Call.function c.args.instr.now c.args.stand c.args.stack.now c.args.slots.now c.call.new.stack c.args.store.now c.call.result c.in-Call.is c.call.ensures

pub returns-in_default : goal.returns-in_default
returns-in_default c world mirrors unset =
    does c.args.program.now.object.now world c.args.instr.now c.args.stand c.args.stack.now c.args.slots.now c.share.new.stack c.share.new.slots c.args.store.now c.share.result mirrors
    (c.share.ensures c.args.program.now.object.now world)
