use Rattle.std.proofs.Common.{◌≡◌, ℕ, ◌<◌, slice_index}
use Rattle.sk_copy_states.specs.Copies.{held_in, pins_in, KeepsStates}
use Rattle.sk_copy_states.specs.Copies.{HasRoomIn}
use Rattle.sk_copy_states.proofs.copies.reserve_listed.Given as goal

abbrev pub invariant-ids : goal.invariant-ids
invariant-ids l = record {
  done : (k : ℕ) → k < l.at → HasRoomIn l.n (held_in l.copies.entries (slice_index l.ids k));
  states : (q : ℕ) → KeepsStates (held_in l.fn.copies.entries q) (held_in l.copies.entries q);
  pins : (q : ℕ) → pins_in (held_in l.copies.entries q) ≡ pins_in (held_in l.fn.copies.entries q);
}
