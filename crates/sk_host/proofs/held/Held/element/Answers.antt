use Rattle.std.proofs.Common.{◌∙◌, ap, sym, length, arith}
use Rattle.sk_host.proofs.Shaped.{flat_inside}
use Rattle.sk_host.proofs.held.Held.element.Goals as goal

pub bounds-as_slice-index : goal.bounds-as_slice-index
bounds-as_slice-index c =
    let under = flat_inside _ c.args.place.now c.in-Some.index (sym c.flat.ensures ∙ c.in-Some.is) in
    let count = c.self.invariant in
    let same = ap length c.as_slice.ensures.value in
    omega arith
