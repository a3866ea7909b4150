use Rattle.std.proofs.Common.{ℕ, ◌<◌, slice_index}
use Rattle.sk_copy_states.specs.Copies.{held_in, home_in, LiesAmong}
use Rattle.sk_copy_states.proofs.copies.find_among.Given as goal

abbrev pub invariant-ids : goal.invariant-ids
invariant-ids l = (k : ℕ) → k < l.at → LiesAmong l.store l.range.lo l.range.hi (home_in (held_in l.copies.entries (slice_index l.ids k))) → ⊥
