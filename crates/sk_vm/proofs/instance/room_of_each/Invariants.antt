use Rattle.std.proofs.Common.{◌≡◌, map, take}
use Rattle.sk_vm.specs.Rooms.{largest, room_of}
use Rattle.sk_vm.proofs.instance.room_of_each.Given as goal

abbrev pub invariant-loop-function : goal.invariant-loop-function
invariant-loop-function l = l.room ≡ largest (map (room_of l.codes) (take l.function-index l.functions))
