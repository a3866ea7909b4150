use Rattle.std.proofs.Common.{◌∙◌, ap}
use Rattle.sk_vm.specs.Rooms.{larger, room_of}
use Rattle.sk_vm.proofs.Chains.{largest-more}
use Rattle.sk_vm.proofs.instance.room_of_each.Goals as goal

pub loop-function-preserved : goal.loop-function-preserved
loop-function-preserved c =
    c.larger-room.ensures ∙ ap (larger c.loop-function.room) c.in_ok-room_of.ensures
    ∙ largest-more (room_of c.args.codes.now) c.args.functions.now c.loop-function.function-index 0 c.loop-function.room c.loop-function-test.true c.loop-function.invariant
