use Rattle.std.proofs.Common.{◌∙◌, ap, sym, subst, w64, List, ℕ, rules, get_or, pos, SFits, ◌<◌, length, arith, None, ◌≡◌}
use Rattle.std.proofs.lemmas.Int.{to_z-of_z}
use Rattle.sk_base.specs.Shape.{flat_of, IsShape}
use Rattle.sk_base.proofs.shape.flat.Goals as goal
use Rattle.sk_base.proofs.shape.flat.Goals.{then-at-lt0-via-then-at-lt0, then-at-lt0-via-else-at-lt0+then-at-from}
use Rattle.sk_base.proofs.Shapes.{flat_from-lengths, walked-none, walked-next, walked-low, walked-high, walked-all, IsWalked}

pub returns-then-place-sizes : goal.returns-then-place-sizes
returns-then-place-sizes c =
    flat_from-lengths 0 c.args.shape.now c.args.place.now (λ e. c.if-place-sizes.true (e ∙ ap length (sym c.sizes-sizes.ensures.value)))

pub loop-axis-init : goal.loop-axis-init
loop-axis-init c = walked-none c.sizes-sizes.result.now c.args.place.now

pub loop-axis-preserved : goal.loop-axis-preserved
loop-axis-preserved c =
    let sizes = c.sizes-sizes.result.now in
    let place = c.args.place.now in
    let i = c.loop-axis.axis in
    let fits : SFits w64 (get_or place i (pos 0)) = search rules in
    let fits_size : SFits w64 c.from.result = record { sfits = c.from.type_inv } in
    walked-next c.loop-axis.index i sizes place _ _ c.loop-axis.invariant c.loop-axis-test.true (omega arith)
    (sym (to_z-of_z w64 (get_or place i (pos 0)) fits)) (to_z-of_z w64 c.from.result fits_size ∙ c.from.ensures)
    c.if-at-lt0.false c.if-at-from.false

pub returns-then-at-lt0 : goal.returns-then-at-lt0
returns-then-at-lt0 c =
    let sizes = c.sizes-sizes.result.now in
    let place = c.args.place.now in
    let i = c.loop-axis.axis in
    let fits : SFits w64 (get_or place i (pos 0)) = search rules in
    let at_is = sym (to_z-of_z w64 (get_or place i (pos 0)) fits) in
    let within : i < length place = omega arith in
    let none : None ≡ flat_of sizes place =
    elim c.then-at-lt0.branch [
      | then-at-lt0-via-then-at-lt0 w ↦ walked-low c.loop-axis.index i sizes place _ c.loop-axis.invariant c.loop-axis-test.true within at_is w.if-at-lt0.true
      | then-at-lt0-via-else-at-lt0+then-at-from w ↦
          let fits_size : SFits w64 w.from.result = record { sfits = w.from.type_inv } in
          walked-high c.loop-axis.index i sizes place _ _ c.loop-axis.invariant c.loop-axis-test.true within at_is
          (to_z-of_z w64 w.from.result fits_size ∙ w.from.ensures) w.if-at-from.true
    ] in
    none ∙ ap (λ (s : List ℕ). flat_of s place) c.sizes-sizes.ensures.value

pub returns : goal.returns
returns c =
    let sizes = c.sizes-sizes.result.now in
    let place = c.args.place.now in
    let end : c.loop-axis.axis ≡ length sizes = omega arith in
    let walked = subst (λ i. IsWalked c.loop-axis.index i sizes place) end c.loop-axis.invariant in
    walked-all c.loop-axis.index sizes place walked c.if-place-sizes.false (subst IsShape (sym c.sizes-sizes.ensures.value) c.sizes-sizes.ensures.shape)
    ∙ ap (λ (s : List ℕ). flat_of s place) c.sizes-sizes.ensures.value
