use Rattle.std.proofs.Common.{rules, arith}
use Rattle.std.proofs.lemmas.Grind.{common_steps}
use Rattle.sk_reading.specs.declared.reach.Reach.TheVariants.{Whole}
use Rattle.sk_reading.specs.ReadingExpressions.{arguments, arguments_from, own, below}
use Rattle.sk_reader.proofs.Turns.{one_more, no_more}
use Rattle.sk_reader.proofs.expression.Expressions.arguments.Goals as goal

pub loop-turn-init : goal.loop-turn-init
unfolding arguments
loop-turn-init g c = first_of (search rules, grind (arith, common_steps))

pub returns-in_err-argument : goal.returns-in_err-argument
unfolding arguments_from
returns-in_err-argument g c =
    let e = one_more (λ n. arguments_from (own c.args.are_own (below c.args.self.now.left Whole)) n c.loop-turn.found c.loop-turn.cursor) _ c.loop-turn._turn c.loop-turn-test.true c.loop-turn.invariant in
    first_of (search rules, grind (arith, common_steps))

pub returns-then-not-eat : goal.returns-then-not-eat
unfolding arguments_from
returns-then-not-eat g c =
    let e = one_more (λ n. arguments_from (own c.args.are_own (below c.args.self.now.left Whole)) n c.loop-turn.found c.loop-turn.cursor) _ c.loop-turn._turn c.loop-turn-test.true c.loop-turn.invariant in
    first_of (search rules, grind (arith, common_steps))

pub loop-turn-preserved : goal.loop-turn-preserved
unfolding arguments_from
loop-turn-preserved g c =
    let e = one_more (λ n. arguments_from (own c.args.are_own (below c.args.self.now.left Whole)) n c.loop-turn.found c.loop-turn.cursor) _ c.loop-turn._turn c.loop-turn-test.true c.loop-turn.invariant in
    first_of (search rules, grind (arith, common_steps))

pub returns : goal.returns
unfolding arguments_from
returns g c =
    let e = no_more (λ n. arguments_from (own c.args.are_own (below c.args.self.now.left Whole)) n c.loop-turn.found c.loop-turn.cursor) _ c.loop-turn._turn c.loop-turn-test.false c.loop-turn.invariant in
    first_of (search rules, grind (arith, common_steps))
