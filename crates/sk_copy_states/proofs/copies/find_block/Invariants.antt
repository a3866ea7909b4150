use Rattle.std.proofs.Common.{◌≢◌, ℕ, ◌<◌, slice_index, Some}
use Rattle.sk_copy_states.specs.Copies.{held_in, home_in}
use Rattle.sk_copy_states.proofs.copies.find_block.Given as goal

abbrev pub invariant-ids : goal.invariant-ids
invariant-ids l = (k : ℕ) → k < l.at → home_in (held_in l.copies.entries (slice_index l.ids k)) ≢ Some (record { store = l.store; space = l.space; lo = l.block.lo; hi = l.block.hi })
