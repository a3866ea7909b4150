use Rattle.std.proofs.Common.{◌≡◌, ◌-◌, [], length}
use Rattle.sk_reading.specs.ReadingPrograms.{parameters_from}
use Rattle.sk_reader.proofs.function.some_parameters.Given as goal

abbrev pub invariant-loop-turn : goal.invariant-loop-turn
invariant-loop-turn l = parameters_from (length l.fn.cursor.rest) [] l.fn.cursor ≡ parameters_from (l._turn-end - l._turn) l.found l.cursor
