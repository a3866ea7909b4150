use Rattle.std.proofs.Common.{◌-◌, rules, arith}
use Rattle.std.proofs.lemmas.Grind.{common_steps}
use Rattle.sk_reading.specs.ReadingExpressions.{operators, more, below}
use Rattle.sk_reader.proofs.Turns.{one_more, no_more, operators-some}
use Rattle.sk_reader.proofs.expression.Expressions.+operators.Goals as goal

pub returns-then-reach-eq0 : goal.returns-then-reach-eq0
unfolding operators
returns-then-reach-eq0 g t c = rw c.if-reach-eq0.true c.operand.ensures

pub returns-in_err-first : goal.returns-in_err-first
returns-in_err-first g t c =
    let left = c.args.self.now.left in
    let e = operators-some left (below left) c.args.reach c.args.cursor.now (omega arith) in
    first_of (search rules, grind (arith, common_steps))

pub loop-turn-init : goal.loop-turn-init
loop-turn-init g t c =
    let left = c.args.self.now.left in
    let e = operators-some left (below left) c.args.reach c.args.cursor.now (omega arith) in
    first_of (search rules, grind (arith, common_steps))

pub returns-in_default : goal.returns-in_default
unfolding more
returns-in_default g t c =
    let left = c.args.self.now.left in
    let e = one_more (λ n. more left (below left) (operators left (below left) (c.args.reach - 1)) (c.args.reach - 1) n c.loop-turn.first c.loop-turn.cursor) _ c.loop-turn._turn c.loop-turn-test.true c.loop-turn.invariant in
    first_of (search rules, grind (arith, common_steps))

pub returns-in_err-count_node : goal.returns-in_err-count_node
unfolding more
returns-in_err-count_node g t c =
    let left = c.args.self.now.left in
    let e = one_more (λ n. more left (below left) (operators left (below left) (c.args.reach - 1)) (c.args.reach - 1) n c.loop-turn.first c.loop-turn.cursor) _ c.loop-turn._turn c.loop-turn-test.true c.loop-turn.invariant in
    first_of (search rules, grind (arith, common_steps))

pub returns-in_err-second : goal.returns-in_err-second
unfolding more
returns-in_err-second g t c =
    let left = c.args.self.now.left in
    let e = one_more (λ n. more left (below left) (operators left (below left) (c.args.reach - 1)) (c.args.reach - 1) n c.loop-turn.first c.loop-turn.cursor) _ c.loop-turn._turn c.loop-turn-test.true c.loop-turn.invariant in
    first_of (search rules, grind (arith, common_steps))

pub loop-turn-preserved : goal.loop-turn-preserved
unfolding more
loop-turn-preserved g t c =
    let left = c.args.self.now.left in
    let e = one_more (λ n. more left (below left) (operators left (below left) (c.args.reach - 1)) (c.args.reach - 1) n c.loop-turn.first c.loop-turn.cursor) _ c.loop-turn._turn c.loop-turn-test.true c.loop-turn.invariant in
    first_of (search rules, grind (arith, common_steps))

pub returns : goal.returns
unfolding more
returns g t c =
    let left = c.args.self.now.left in
    let e = no_more (λ n. more left (below left) (operators left (below left) (c.args.reach - 1)) (c.args.reach - 1) n c.loop-turn.first c.loop-turn.cursor) _ c.loop-turn._turn c.loop-turn-test.false c.loop-turn.invariant in
    first_of (search rules, grind (arith, common_steps))
