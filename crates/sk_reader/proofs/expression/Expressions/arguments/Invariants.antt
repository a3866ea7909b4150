use Rattle.std.proofs.Common.{◌≡◌, ◌-◌}
use Rattle.sk_reading.specs.declared.reach.Reach.TheVariants.{Whole}
use Rattle.sk_reading.specs.ReadingExpressions.{arguments, arguments_from, own, below}
use Rattle.sk_reader.proofs.expression.Expressions.arguments.Given as goal

abbrev pub invariant-loop-turn : goal.invariant-loop-turn
invariant-loop-turn g l =
    arguments l.are_own (below l.self.left Whole) l.fn.cursor
    ≡ arguments_from (own l.are_own (below l.self.left Whole)) (l._turn-end - l._turn) l.found l.cursor
