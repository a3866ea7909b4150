use Rattle.std.proofs.Common.{◌∙◌, ap, sym, length, arith}
use Rattle.sk_host.proofs.Shaped.{flat_inside}
use Rattle.sk_host.proofs.held.Held.poke.Goals as goal

pub bounds-as_mut_slice-index : goal.bounds-as_mut_slice-index
bounds-as_mut_slice-index c =
    let under = flat_inside _ c.args.place.now c.in-Some.index (sym c.flat.ensures ∙ c.in-Some.is) in
    let count = c.self.invariant in
    let same = ap length c.as_mut_slice.ensures.value in
    omega arith
