use Rattle.std.proofs.Common.{◌≡◌, take, pos, replicate}
use Rattle.sk_vm.proofs.run.clear.Given as goal

abbrev pub invariant-loop-k : goal.invariant-loop-k
invariant-loop-k l = take l.k l.slots ≡ replicate l.k (pos 0)
