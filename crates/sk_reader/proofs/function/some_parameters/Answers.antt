use Rattle.std.proofs.Common.{rules, arith}
use Rattle.std.proofs.lemmas.Grind.{common_steps}
use Rattle.sk_reading.specs.ReadingPrograms.{parameters_from}
use Rattle.sk_reader.proofs.Turns.{one_more, no_more}
use Rattle.sk_reader.proofs.function.some_parameters.Goals as goal

pub returns-in_err-count_parameter : goal.returns-in_err-count_parameter
unfolding parameters_from
returns-in_err-count_parameter c =
    let e = one_more (λ n. parameters_from n c.loop-turn.found c.loop-turn.cursor) _ c.loop-turn._turn c.loop-turn-test.true c.loop-turn.invariant in
    first_of (search rules, grind (arith, common_steps))

pub returns-in_err-parameter : goal.returns-in_err-parameter
unfolding parameters_from
returns-in_err-parameter c =
    let e = one_more (λ n. parameters_from n c.loop-turn.found c.loop-turn.cursor) _ c.loop-turn._turn c.loop-turn-test.true c.loop-turn.invariant in
    first_of (search rules, grind (arith, common_steps))

pub returns-then-not-eat : goal.returns-then-not-eat
unfolding parameters_from
returns-then-not-eat c =
    let e = one_more (λ n. parameters_from n c.loop-turn.found c.loop-turn.cursor) _ c.loop-turn._turn c.loop-turn-test.true c.loop-turn.invariant in
    first_of (search rules, grind (arith, common_steps))

pub loop-turn-preserved : goal.loop-turn-preserved
unfolding parameters_from
loop-turn-preserved c =
    let e = one_more (λ n. parameters_from n c.loop-turn.found c.loop-turn.cursor) _ c.loop-turn._turn c.loop-turn-test.true c.loop-turn.invariant in
    first_of (search rules, grind (arith, common_steps))

pub returns : goal.returns
unfolding parameters_from
returns c =
    let e = no_more (λ n. parameters_from n c.loop-turn.found c.loop-turn.cursor) _ c.loop-turn._turn c.loop-turn-test.false c.loop-turn.invariant in
    first_of (search rules, grind (arith, common_steps))
