use Rattle.std.proofs.Common.{◌≡◌, ◌-◌}
use Rattle.sk_reading.specs.ReadingExpressions.{operators, more, below}
use Rattle.sk_reader.proofs.expression.Expressions.+operators.Given as goal

abbrev pub decreases-operators : goal.decreases-operators
decreases-operators g l = l.reach

abbrev pub invariant-loop-turn : goal.invariant-loop-turn
invariant-loop-turn g l =
    operators l.self.left (below l.self.left) l.reach l.fn.cursor
    ≡ more l.self.left (below l.self.left) (operators l.self.left (below l.self.left) l.tighter) l.tighter (l._turn-end - l._turn) l.first l.cursor
