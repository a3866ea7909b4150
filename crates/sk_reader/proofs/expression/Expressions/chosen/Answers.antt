use Rattle.std.proofs.Common.{rules, arith, ◌∙◌}
use Rattle.std.proofs.lemmas.Grind.{common_steps}
use Rattle.std.specs.Prelude.{reverse}
use Rattle.sk_reading.specs.ReadingExpressions.{below}
use Rattle.sk_reader.proofs.Turns.{chosen_pop, chosen_turn, chosen_none}
use Rattle.sk_reader.proofs.expression.Expressions.chosen.Goals as goal

pub returns-in_err-other : goal.returns-in_err-other
returns-in_err-other g c =
    let left = c.args.self.now.left in
    let e = c.loop-test.invariant
    ∙ chosen_pop left (below left) c.loop-test.tests.items c.pop.new.self.items c.in-Some.test c.loop-test.value c.loop-test.cursor c.in-Some.ensures.items
    ∙ chosen_turn left (below left) (reverse c.pop.new.self.items) c.in-Some.test c.loop-test.value c.loop-test.cursor in
    first_of (search rules, grind (arith, common_steps))

pub loop-test-preserved : goal.loop-test-preserved
loop-test-preserved g c =
    let left = c.args.self.now.left in
    let e = c.loop-test.invariant
    ∙ chosen_pop left (below left) c.loop-test.tests.items c.pop.new.self.items c.in-Some.test c.loop-test.value c.loop-test.cursor c.in-Some.ensures.items
    ∙ chosen_turn left (below left) (reverse c.pop.new.self.items) c.in-Some.test c.loop-test.value c.loop-test.cursor in
    first_of (search rules, grind (arith, common_steps))

pub returns : goal.returns
returns g c =
    let left = c.args.self.now.left in
    let none = c.in_default.ensures.cases.0 in
    c.loop-test.invariant
    ∙ chosen_none left (below left) c.loop-test.tests.items c.loop-test.value c.loop-test.cursor (omega (arith, none, c.loop-test.tests.ok.0))
