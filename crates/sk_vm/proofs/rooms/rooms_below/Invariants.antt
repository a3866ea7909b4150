use Rattle.std.proofs.Common.{◌≡◌}
use Rattle.sk_vm.specs.Rooms.{rooms_below}
use Rattle.sk_vm.proofs.rooms.rooms_below.Given as goal

abbrev pub invariant-loop-k : goal.invariant-loop-k
invariant-loop-k l = l.rooms.items ≡ rooms_below l.codes l.k
