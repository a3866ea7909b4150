use Rattle.std.proofs.Common.{◌≡◌, ◌-◌}
use Rattle.sk_reading.specs.ReadingForms.{names, names_from}
use Rattle.sk_reader.proofs.forms.names.Given as goal

abbrev pub invariant-loop-turn : goal.invariant-loop-turn
invariant-loop-turn l = names l.fn.cursor ≡ names_from (l._turn-end - l._turn) l.found l.cursor
