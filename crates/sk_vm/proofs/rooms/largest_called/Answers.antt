use Rattle.std.proofs.Common.{◌∙◌, ap}
use Rattle.sk_vm.specs.Rooms.{called_room, larger}
use Rattle.sk_vm.proofs.Chains.{largest-more}
use Rattle.sk_vm.proofs.rooms.largest_called.Goals as goal

pub loop-instr-preserved : goal.loop-instr-preserved
loop-instr-preserved c =
    c.larger-room.ensures ∙ ap (larger c.loop-instr.room) (c.called_room.ensures ∙ ap (called_room c.args.before.now) c.instr-item.is)
    ∙ largest-more (called_room c.args.before.now) c.args.instrs.now c.loop-instr.instr-index c.instr-item.result c.loop-instr.room c.loop-instr-test.true c.loop-instr.invariant
