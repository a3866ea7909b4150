use Rattle.std.proofs.Common.{◌≡◌, ◌-◌, [], length}
use Rattle.sk_reading.specs.ReadingForms.{numbers_from}
use Rattle.sk_reader.proofs.forms.numbers_inside.Given as goal

abbrev pub invariant-loop-turn : goal.invariant-loop-turn
invariant-loop-turn l = numbers_from (length l.fn.cursor.rest) [] l.fn.cursor ≡ numbers_from (l._turn-end - l._turn) l.found l.cursor
