use Rattle.std.proofs.Common.{◌≡◌, map, take, unsigned_abs}
use Rattle.sk_base.proofs.shape.numbers.Given as goal

abbrev pub invariant-loop-size : goal.invariant-loop-size
invariant-loop-size l = (l.list.items ≡ map unsigned_abs (take l.size-index l.sizes)) × (l.list.capacity ≡ 4)
