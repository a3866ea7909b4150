use Rattle.std.proofs.Common.{rules, arith}
use Rattle.std.proofs.lemmas.Grind.{common_steps}
use Rattle.std.specs.Prelude.{reverse}
use Rattle.sk_reading.specs.ReadingExpressions.{choice, choice_from, below}
use Rattle.sk_reader.proofs.Turns.{one_more, no_more}
use Rattle.sk_reader.proofs.expression.Expressions.choice.Goals as goal

pub returns-in_err-value : goal.returns-in_err-value
unfolding choice
returns-in_err-value g c = first_of (search rules, grind (arith, common_steps))

pub loop-turn-init : goal.loop-turn-init
unfolding choice
loop-turn-init g c = first_of (search rules, grind (arith, common_steps))

pub returns-then-not-sees : goal.returns-then-not-sees
unfolding choice_from
returns-then-not-sees g c =
    let left = c.args.self.now.left in
    let e = one_more (λ n. choice_from left (below left) n (reverse c.loop-turn.tests.items) c.loop-turn.value c.loop-turn.cursor) _ c.loop-turn._turn c.loop-turn-test.true c.loop-turn.invariant in
    first_of (search rules, grind (arith, common_steps))

pub returns-in_err-count_node : goal.returns-in_err-count_node
unfolding choice_from
returns-in_err-count_node g c =
    let left = c.args.self.now.left in
    let e = one_more (λ n. choice_from left (below left) n (reverse c.loop-turn.tests.items) c.loop-turn.value c.loop-turn.cursor) _ c.loop-turn._turn c.loop-turn-test.true c.loop-turn.invariant in
    first_of (search rules, grind (arith, common_steps))

pub returns-in_err-value-2 : goal.returns-in_err-value-2
unfolding choice_from
returns-in_err-value-2 g c =
    let left = c.args.self.now.left in
    let e = one_more (λ n. choice_from left (below left) n (reverse c.loop-turn.tests.items) c.loop-turn.value c.loop-turn.cursor) _ c.loop-turn._turn c.loop-turn-test.true c.loop-turn.invariant in
    first_of (search rules, grind (arith, common_steps))

pub loop-turn-preserved : goal.loop-turn-preserved
unfolding choice_from
loop-turn-preserved g c =
    let left = c.args.self.now.left in
    let e = one_more (λ n. choice_from left (below left) n (reverse c.loop-turn.tests.items) c.loop-turn.value c.loop-turn.cursor) _ c.loop-turn._turn c.loop-turn-test.true c.loop-turn.invariant in
    first_of (search rules, grind (arith, common_steps))

pub returns : goal.returns
unfolding choice_from
returns g c =
    let left = c.args.self.now.left in
    let e = no_more (λ n. choice_from left (below left) n (reverse c.loop-turn.tests.items) c.loop-turn.value c.loop-turn.cursor) _ c.loop-turn._turn c.loop-turn-test.false c.loop-turn.invariant in
    first_of (search rules, grind (arith, common_steps))
