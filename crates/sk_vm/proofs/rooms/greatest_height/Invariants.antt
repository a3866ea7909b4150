use Rattle.std.proofs.Common.{◌≤◌}
use Rattle.sk_vm.proofs.rooms.greatest_height.Given as goal

abbrev pub invariant-loop-code : goal.invariant-loop-code
invariant-loop-code l = l.height ≤ 64
