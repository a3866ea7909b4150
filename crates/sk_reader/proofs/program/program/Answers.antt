use Rattle.std.proofs.Common.{rules, arith}
use Rattle.std.proofs.lemmas.Grind.{common_steps}
use Rattle.sk_reading.specs.ReadingPrograms.{functions_from}
use Rattle.sk_reader.proofs.Turns.{one_more, no_more}
use Rattle.sk_reader.proofs.program.program.Goals as goal

pub returns-then-is_at_end : goal.returns-then-is_at_end
unfolding functions_from
returns-then-is_at_end c =
    let e = one_more (λ n. functions_from n c.loop-turn.found c.loop-turn.cursor) _ c.loop-turn._turn c.loop-turn-test.true c.loop-turn.invariant in
    first_of (search rules, grind (arith, common_steps))

pub returns-in_err-count_function : goal.returns-in_err-count_function
unfolding functions_from
returns-in_err-count_function c =
    let e = one_more (λ n. functions_from n c.loop-turn.found c.loop-turn.cursor) _ c.loop-turn._turn c.loop-turn-test.true c.loop-turn.invariant in
    first_of (search rules, grind (arith, common_steps))

pub returns-in_err-function : goal.returns-in_err-function
unfolding functions_from
returns-in_err-function c =
    let e = one_more (λ n. functions_from n c.loop-turn.found c.loop-turn.cursor) _ c.loop-turn._turn c.loop-turn-test.true c.loop-turn.invariant in
    first_of (search rules, grind (arith, common_steps))

pub loop-turn-preserved : goal.loop-turn-preserved
unfolding functions_from
loop-turn-preserved c =
    let e = one_more (λ n. functions_from n c.loop-turn.found c.loop-turn.cursor) _ c.loop-turn._turn c.loop-turn-test.true c.loop-turn.invariant in
    first_of (search rules, grind (arith, common_steps))

pub returns-then-not-is_at_end : goal.returns-then-not-is_at_end
unfolding functions_from
returns-then-not-is_at_end c =
    let e = no_more (λ n. functions_from n c.loop-turn.found c.loop-turn.cursor) _ c.loop-turn._turn c.loop-turn-test.false c.loop-turn.invariant in
    first_of (search rules, grind (arith, common_steps))

pub returns : goal.returns
unfolding functions_from
returns c =
    let e = no_more (λ n. functions_from n c.loop-turn.found c.loop-turn.cursor) _ c.loop-turn._turn c.loop-turn-test.false c.loop-turn.invariant in
    first_of (search rules, grind (arith, common_steps))
