use Rattle.std.proofs.Common.{◌≡◌, length}
use Rattle.std.specs.Prelude.{reverse}
use Rattle.sk_reading.specs.ReadingExpressions.{chosen, below}
use Rattle.sk_reader.proofs.expression.Expressions.chosen.Given as goal

abbrev pub invariant-loop-test : goal.invariant-loop-test
invariant-loop-test g l =
    chosen l.self.left (below l.self.left) (reverse l.fn.tests.items) l.fn.value l.fn.cursor
    ≡ chosen l.self.left (below l.self.left) (reverse l.tests.items) l.value l.cursor

abbrev pub decreases-loop-test : goal.decreases-loop-test
decreases-loop-test g l = length l.tests.items
