use Rattle.std.proofs.Common.{◌≡◌, map, take}
use Rattle.sk_vm.specs.Rooms.{called_room, largest}
use Rattle.sk_vm.proofs.rooms.largest_called.Given as goal

abbrev pub invariant-loop-instr : goal.invariant-loop-instr
invariant-loop-instr l = l.room ≡ largest (map (called_room l.before) (take l.instr-index l.instrs))
