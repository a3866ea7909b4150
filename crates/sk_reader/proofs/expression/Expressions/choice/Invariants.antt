use Rattle.std.proofs.Common.{◌≡◌, ◌-◌}
use Rattle.std.specs.Prelude.{reverse}
use Rattle.sk_reading.specs.ReadingExpressions.{choice, choice_from, below}
use Rattle.sk_reader.proofs.expression.Expressions.choice.Given as goal

abbrev pub invariant-loop-turn : goal.invariant-loop-turn
invariant-loop-turn g l =
    choice l.self.left (below l.self.left) l.fn.cursor
    ≡ choice_from l.self.left (below l.self.left) (l.turns - l._turn) (reverse l.tests.items) l.value l.cursor
