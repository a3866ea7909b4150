use Rattle.std.proofs.Common.{◌≡◌, ◌-◌, [], length}
use Rattle.sk_reading.specs.ReadingStatements.{statements_from, part_below}
use Rattle.sk_reader.proofs.statement.Statements.statements.Given as goal

abbrev pub invariant-loop-turn : goal.invariant-loop-turn
invariant-loop-turn g l =
    statements_from l.self.left (part_below l.self.left) (length l.fn.cursor.rest) [] l.fn.cursor
    ≡ statements_from l.self.left (part_below l.self.left) (l._turn-end - l._turn) l.found l.cursor
