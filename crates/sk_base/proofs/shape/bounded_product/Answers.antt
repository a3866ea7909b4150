use Rattle.std.proofs.Common.{◌∙◌, ap, min, ◌*◌, ◌+◌, ◌^◌, ◌<◌, take, get_or, length, arith, ◌≡◌, sym}
use Rattle.sk_base.specs.Shape.{cells_of}
use Rattle.sk_base.proofs.Shapes.{cells_of-more, min-step}
use Rattle.sk_base.proofs.shape.bounded_product.Goals as goal

pub loop-size-preserved : goal.loop-size-preserved
loop-size-preserved c =
    let sizes = c.args.sizes.now in
    let i = c.loop-size.size-index in
    let bound = 2 ^ 24 + 1 in
    let within : i < length sizes = omega arith in
    let exact : min (c.loop-size.product * c.from.result) (c.from-in-loop-size.result + 1) ≡ min (min (cells_of (take i sizes)) bound * get_or sizes i 0) bound =
    ap (λ n. min (n * c.from.result) (c.from-in-loop-size.result + 1)) c.loop-size.invariant
    ∙ ap (λ n. min (min (cells_of (take i sizes)) bound * n) (c.from-in-loop-size.result + 1)) c.from.ensures
    ∙ ap (λ n. min (min (cells_of (take i sizes)) bound * get_or sizes i 0) (n + 1)) c.from-in-loop-size.ensures in
    c.min-product.ensures ∙ exact ∙ min-step (cells_of (take i sizes)) (get_or sizes i 0) bound ∙ ap (λ n. min n bound) (sym (cells_of-more sizes i within))
