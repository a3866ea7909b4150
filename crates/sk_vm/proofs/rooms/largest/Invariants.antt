use Rattle.std.proofs.Common.{◌≡◌, map, take}
use Rattle.sk_vm.specs.Rooms.{largest}
use Rattle.sk_vm.specs.declared.rooms.Room.{Room}
use Rattle.sk_vm.proofs.rooms.largest.Given as goal

abbrev pub invariant-loop-other : goal.invariant-loop-other
invariant-loop-other l = l.room ≡ largest (map (λ (room : Room). room) (take l.other-index l.rooms))
