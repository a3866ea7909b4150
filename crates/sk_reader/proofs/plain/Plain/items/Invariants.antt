use Rattle.std.proofs.Common.{◌≡◌, ◌-◌, [], length}
use Rattle.sk_reading.specs.ReadingForms.{items_from}
use Rattle.sk_reader.proofs.plain.Plain.items.Given as goal

abbrev pub invariant-loop-turn : goal.invariant-loop-turn
invariant-loop-turn l = items_from l.self.left (length l.fn.cursor.rest) [] l.fn.cursor ≡ items_from l.self.left (l._turn-end - l._turn) l.found l.cursor
