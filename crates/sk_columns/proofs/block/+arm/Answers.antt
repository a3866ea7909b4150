use Rattle.std.proofs.Common.{rules, ◌≡◌, ◌<◌, ◌+◌, ◌-◌, ◌*◌, ◌∷◌, ◌++◌, ℕ, ℤ, List, Some, suc, length, pos, refl, ap, subst, sym, ◌∙◌, arith}
use Rattle.std.specs.Prelude.{if◌then◌else◌, slice_set, slice_index_or}
use Rattle.sk_meaning.specs.Expressions.{holds}
use Rattle.sk_columns.specs.Blocks.{Reaches, stack_of}
use Rattle.sk_columns.specs.declared.level.Level.TheVariants.{Here}
use Rattle.sk_columns.proofs.Choices.{chosen, chosen_on, jumped, level_here, levels_below, turned_above, turned_among, turned_first}
use Rattle.sk_columns.proofs.Rows.{kept_above}
use Rattle.sk_columns.proofs.Standing.{joined, led, one_level}
use Rattle.sk_columns.proofs.block.+arm.Goals as goal

pub choose-returns-clause-chosen : goal.choose-returns-clause-chosen
choose-returns-clause-chosen g t c = record {
  reaches = λ place inside rest.
      let none = c.if-height-eq0.false in
      let upper : c.args.height ≡ suc (c.args.height - 1) = omega (arith, none) in
      let front = c.split_at_mut-fresh.result.0.now in
      let long : length front ≡ c.args.height = c.split_at_mut-fresh.ensures.front_len in
      chosen_on c.args.code.now.instrs.now (g.L.Lanes.known c.args.code.now.lanes.now place) c.args.at c.in_ok-end.end (length c.args.first.now) place
      c.args.levels.now (slice_set (front ++ c.choose_at.new.levels) (c.args.height - 1) Here)
      (c.args.first.now ++ c.args.above.now) (c.choose_at.new.first ++ c.choose_at.new.above) rest c.args.height (c.args.height - 1) inside upper
      (level_here front c.choose_at.new.levels c.args.height (c.args.height - 1) long upper)
      (λ k less. levels_below c.args.levels.now front c.split_at_mut-fresh.result.1.now c.choose_at.new.levels c.args.height (c.args.height - 1) k c.split_at_mut-fresh.ensures.value long upper less)
      (c.if-not-choose_at.ensures.below refl) (λ others. c.if-not-choose_at.ensures.here refl place inside others);
}

pub choose_above-returns-clause-here : goal.choose_above-returns-clause-here
choose_above-returns-clause-here g t c = λ done place inside rest.
    let base : length c.split_at_mut-from.result.0.now ≡ c.in-Some.base = c.split_at_mut-from.ensures.front_len in
    let size : c.in-Some.base ≡ c.args.row * c.args.block = search rules in
    let long : length c.split_at_mut-to.result.0.now ≡ c.args.block = c.split_at_mut-to.ensures.front_len in
    let here : length c.split_at_mut-from.result.0.now + place ≡ c.args.row * c.args.block + place = ap (λ (n : ℕ). n + place) (base ∙ size) in
    let within : place < length c.split_at_mut-to.result.0.now = omega (arith, long, inside) in
    turned_among c.args.code.now.instrs.now (g.L.Lanes.known c.args.code.now.lanes.now place) c.args.choice.at c.args.choice.end rest c.args.test c.args.rows.now
    c.split_at_mut-from.result.0.now c.split_at_mut-from.result.1.now c.split_at_mut-to.result.0.now c.split_at_mut-to.result.1.now c.choose_in.new.to c.choose_in.new.above
    (c.args.row * c.args.block + place) place c.split_at_mut-from.ensures.value c.split_at_mut-to.ensures.value here c.choose_in.auto.to within
    (c.choose_in.ensures done place within rest)

pub choose_at-returns-then-row-eq0-clause-here : goal.choose_at-returns-then-row-eq0-clause-here
choose_at-returns-then-row-eq0-clause-here g t c = λ done place inside rest.
    turned_first c.args.code.now.instrs.now (g.L.Lanes.known c.args.code.now.lanes.now place) c.args.choice.at c.args.choice.end rest c.args.test c.args.first.now c.args.above.now
    c.choose_in.new.to c.choose_in.new.above c.args.row place c.if-row-eq0.true inside c.choose_in.auto.to (c.choose_in.ensures done place inside rest)

pub choose_at-returns-else-row-eq0-clause-below : goal.choose_at-returns-else-row-eq0-clause-below
choose_at-returns-else-row-eq0-clause-below g t c = λ done index less.
    let none = c.if-row-eq0.false in
    let upper : c.args.row ≡ suc (c.args.row - 1) = omega (arith, none) in
    kept_above c.args.first.now c.args.above.now c.choose_above.new.rows c.args.row (c.args.row - 1) upper (c.choose_above.ensures.below done) index less

pub choose_at-returns-else-row-eq0-clause-here : goal.choose_at-returns-else-row-eq0-clause-here
choose_at-returns-else-row-eq0-clause-here g t c = λ done place inside rest.
    let none = c.if-row-eq0.false in
    let upper : c.args.row ≡ suc (c.args.row - 1) = omega (arith, none) in
    turned_above c.args.code.now.instrs.now (g.L.Lanes.known c.args.code.now.lanes.now place) c.args.choice.at c.args.choice.end rest c.args.test c.args.first.now c.args.above.now
    c.choose_above.new.rows c.args.row (c.args.row - 1) place upper (c.choose_above.ensures.here done place inside rest)

pub choose_in-returns : goal.choose_in-returns
choose_in-returns g t c = λ done place inside rest.
    let known = g.L.Lanes.known c.args.code.now.lanes.now place in
    let one_long : length c.split_at_mut-one.result.0.now ≡ length c.args.to.now = c.split_at_mut-one.ensures.front_len in
    let two_long : length c.split_at_mut-two.result.0.now ≡ length c.args.to.now = c.split_at_mut-two.ensures.front_len in
    let row_long : length c.settle.new.row ≡ length c.args.to.now = c.settle.auto.row in
    let test = c.if-not-settle.ensures refl place inside in
    let one = c.if-not-arm.ensures refl place (omega (arith, one_long, inside)) rest in
    let two = c.if-not-arm-2.ensures refl place (omega (arith, two_long, inside)) rest in
    let x = slice_index_or c.arm.new.row place (pos 0) in
    let y = slice_index_or c.arm-2.new.row place (pos 0) in
    let value : (if holds (slice_index_or c.settle.new.row place (pos 0)) then x else y) ≡ slice_index_or c.select.new.to place (pos 0) =
    sym (c.select.ensures place (omega (arith, row_long, inside))) in
    subst (λ (z : ℤ). Reaches c.args.code.now.instrs.now known c.args.choice.at (z ∷ rest) c.args.choice.end (slice_index_or c.select.new.to place (pos 0) ∷ rest)) (sym test)
    (subst (λ (z : ℤ). Reaches c.args.code.now.instrs.now known c.args.choice.at (slice_index_or c.settle.new.row place (pos 0) ∷ rest) c.args.choice.end (z ∷ rest)) value
    (chosen c.args.code.now.instrs.now known c.args.choice.at c.args.choice.other c.args.choice.end (slice_index_or c.settle.new.row place (pos 0)) x y rest c.requires.found one two))

pub walk-loop-at-preserved-in-Jump : goal.walk-loop-at-preserved-in-Jump
walk-loop-at-preserved-in-Jump g t c = (
  omega (arith, c.loop-at.invariant.0, c.loop-at-test.true, c.if-target-to.false),
  c.loop-at.invariant.1,
  λ place inside rest.
      let known = g.L.Lanes.known c.args.code.now.lanes.now place in
      jumped c.args.code.now.instrs.now known c.args.from c.loop-at.at c.in-Jump.target rest
      (stack_of c.loop-at.levels (c.loop-at.first ++ c.loop-at.above) (length c.loop-at.first) place known rest c.loop-at.height)
      (c.instr_at.ensures ∙ ap Some c.in-Jump.is) (c.loop-at.invariant.2 place inside rest),
)

pub walk-loop-at-preserved-in-Some : goal.walk-loop-at-preserved-in-Some
walk-loop-at-preserved-in-Some g t c =
    let long : length c.choose.new.first ≡ length c.loop-at.first = c.choose.auto.first in
    let ahead = c.in-Some.ensures.ahead.0 in (
      omega (arith, c.loop-at.invariant.0, ahead),
      omega (arith, c.loop-at.invariant.1, c.choose.auto.levels),
      λ place inside rest.
          let known = g.L.Lanes.known c.args.code.now.lanes.now place in
          let before : place < length c.loop-at.first = omega (arith, long, inside) in
          let middle = stack_of c.loop-at.levels (c.loop-at.first ++ c.loop-at.above) (length c.loop-at.first) place known rest c.loop-at.height in
          let after = stack_of c.choose.new.levels (c.choose.new.first ++ c.choose.new.above) (length c.loop-at.first) place known rest c.loop-at.height in
          subst (λ (n : ℕ). Reaches c.args.code.now.instrs.now known c.args.from rest c.in-Some.end (stack_of c.choose.new.levels (c.choose.new.first ++ c.choose.new.above) n place known rest c.loop-at.height))
          (sym long)
          (joined c.args.code.now.instrs.now known c.args.from c.loop-at.at c.in-Some.end rest middle after (c.loop-at.invariant.2 place before rest)
          (c.in-Some.ensures.chosen.reaches place before rest)),
    )

pub walk-loop-at-preserved : goal.walk-loop-at-preserved
walk-loop-at-preserved g t c = (
  omega (arith, c.loop-at.invariant.0),
  c.in-Some-step.ensures.inside,
  λ place inside rest.
      let long : length c.step.new.first ≡ length c.loop-at.first = c.step.auto.first in
      let before : place < length c.loop-at.first = omega (arith, long, inside) in
      let known = g.L.Lanes.known c.args.code.now.lanes.now place in
      let middle = stack_of c.loop-at.levels (c.loop-at.first ++ c.loop-at.above) (length c.loop-at.first) place known rest c.loop-at.height in
      let after = stack_of c.step.new.levels (c.step.new.first ++ c.step.new.above) (length c.loop-at.first) place known rest c.in-Some-step.after in
      subst (λ (n : ℕ). Reaches c.args.code.now.instrs.now known c.args.from rest (c.loop-at.at + 1) (stack_of c.step.new.levels (c.step.new.first ++ c.step.new.above) n place known rest c.in-Some-step.after))
      (sym long)
      (led c.args.code.now.instrs.now known c.args.from c.loop-at.at rest middle after c.instr_at.result.now c.instr_at.ensures
      (c.loop-at.invariant.2 place before rest) (c.in-Some-step.ensures.leads place before rest)),
)

pub walk-returns-then-at-to-clause-reaches : goal.walk-returns-then-at-to-clause-reaches
walk-returns-then-at-to-clause-reaches g t c = λ single place inside rest.
    let long : length c.loop-at.first ≡ length c.args.first.now = c.loop-at.auto.first in
    let here : place < length c.loop-at.first = omega (arith, long, inside) in
    let known = g.L.Lanes.known c.args.code.now.lanes.now place in
    let one : c.loop-at.height ≡ 1 = search rules in
    let level = one_level c.loop-at.levels c.loop-at.first c.loop-at.above (length c.loop-at.first) place known rest c.loop-at.height one here in
    subst (λ (xs : List ℤ). Reaches c.args.code.now.instrs.now known c.args.from rest c.args.to xs) level
    (subst (λ (n : ℕ). Reaches c.args.code.now.instrs.now known c.args.from rest n (stack_of c.loop-at.levels (c.loop-at.first ++ c.loop-at.above) (length c.loop-at.first) place known rest c.loop-at.height))
    c.if-at-to.true (c.loop-at.invariant.2 place here rest))
