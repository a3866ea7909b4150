use Rattle.std.proofs.Common.{◌≡◌, ◌+◌, ◌-◌, ◌*◌, ◌^◌, ◌≤◌, ℕ, refl, ap, sym, ◌∙◌, arith}
use Rattle.std.proofs.lemmas.Nat.{pow-add}
use Rattle.sk_columns.proofs.Scaling.{scales}
use Rattle.sk_columns.proofs.divide.scale_of.Goals as goal
use Rattle.sk_columns.proofs.divide.scale_of.Goals.{then-loop-power-test+else-places-lt63, else-loop-power-test}

pub loop-power-preserved : goal.loop-power-preserved
loop-power-preserved c =
    let at = c.loop-power in
    let before = at.invariant.0 in
    let least = at.invariant.1 in
    let below = c.loop-power-test.true in
    let next : at.places + 1 - 31 ≡ at.places - 31 + 1 = omega (arith, least) in (
      ap (λ (n : ℕ). n * 2) before ∙ sym (pow-add 2 (at.places - 31) 1) ∙ ap (λ (n : ℕ). 2 ^ n) (sym next),
      omega (arith, least),
      omega (arith, c.if-places-lt63.true),
      omega (arith, below),
    )

pub returns-clause-scales : goal.returns-clause-scales
returns-clause-scales c =
    let at = c.loop-power in
    let enough : c.args.divisor ≤ at.power = elim c.loop-power-test.branch [
      | then-loop-power-test+else-places-lt63 w ↦
          let last : at.places ≡ 63 = omega (arith, at.invariant.2, w.if-places-lt63.false) in
          let full : at.power ≡ 2 ^ (63 - 31) = at.invariant.0 ∙ ap (λ (n : ℕ). 2 ^ (n - 31)) last in
          omega (arith, full, c.requires.high)
      | else-loop-power-test w ↦ w.loop-power-test.false
    ] in
    scales c.args.divisor at.power at.places _ c.requires.low c.requires.high enough at.invariant.3 at.invariant.1 (omega (arith, at.invariant.2)) at.invariant.0 refl
