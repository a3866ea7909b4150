use Rattle.std.proofs.Common.{◌≡◌, ◌-◌, [], length}
use Rattle.sk_reading.specs.ReadingPrograms.{functions_from}
use Rattle.sk_reader.proofs.program.program.Given as goal

abbrev pub invariant-loop-turn : goal.invariant-loop-turn
invariant-loop-turn l = functions_from (length l.fn.cursor.rest) [] l.fn.cursor ≡ functions_from (l._turn-end - l._turn) l.found l.cursor
