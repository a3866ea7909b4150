use Rattle.std.proofs.Common.{◌≡◌, ◌+◌, ◌^◌, min, take}
use Rattle.sk_base.specs.Shape.{cells_of}
use Rattle.sk_base.proofs.shape.bounded_product.Given as goal

abbrev pub invariant-loop-size : goal.invariant-loop-size
invariant-loop-size l = l.product ≡ min (cells_of (take l.size-index l.sizes)) (2 ^ 24 + 1)
