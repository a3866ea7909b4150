use Rattle.std.proofs.Common.{rules, arith}
use Rattle.std.proofs.lemmas.Grind.{common_steps}
use Rattle.sk_reading.specs.ReadingStatements.{statements_from, part_below}
use Rattle.sk_reader.proofs.Turns.{one_more, no_more}
use Rattle.sk_reader.proofs.statement.Statements.statements.Goals as goal

pub returns-then-sees : goal.returns-then-sees
unfolding statements_from
returns-then-sees g c =
    let left = c.args.self.now.left in
    let e = one_more (λ n. statements_from left (part_below left) n c.loop-turn.found c.loop-turn.cursor) _ c.loop-turn._turn c.loop-turn-test.true c.loop-turn.invariant in
    first_of (search rules, grind (arith, common_steps))

pub returns-in_err-statement : goal.returns-in_err-statement
unfolding statements_from
returns-in_err-statement g c =
    let left = c.args.self.now.left in
    let e = one_more (λ n. statements_from left (part_below left) n c.loop-turn.found c.loop-turn.cursor) _ c.loop-turn._turn c.loop-turn-test.true c.loop-turn.invariant in
    first_of (search rules, grind (arith, common_steps))

pub loop-turn-preserved : goal.loop-turn-preserved
unfolding statements_from
loop-turn-preserved g c =
    let left = c.args.self.now.left in
    let e = one_more (λ n. statements_from left (part_below left) n c.loop-turn.found c.loop-turn.cursor) _ c.loop-turn._turn c.loop-turn-test.true c.loop-turn.invariant in
    first_of (search rules, grind (arith, common_steps))

pub returns : goal.returns
unfolding statements_from
returns g c =
    let left = c.args.self.now.left in
    let e = no_more (λ n. statements_from left (part_below left) n c.loop-turn.found c.loop-turn.cursor) _ c.loop-turn._turn c.loop-turn-test.false c.loop-turn.invariant in
    first_of (search rules, grind (arith, common_steps))
