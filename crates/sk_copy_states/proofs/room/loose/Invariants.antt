use Rattle.std.proofs.Common.{◌≡◌, ℕ, ◌<◌, ◌++◌, true, length, slice_index, IsSomeAnd}
use Rattle.sk_copy_states.specs.Copies.{held_in}
use Rattle.sk_copy_states.specs.Loose.{is_loose, loose_in}
use Rattle.sk_copy_states.proofs.room.loose.Given as goal

abbrev pub invariant-copies : goal.invariant-copies
invariant-copies l = record {
  list : l.ids.items ++ loose_in l.space l.id-iterator ≡ loose_in l.space l.copies.entries;
  each : (k : ℕ) → k < length l.ids.items → IsSomeAnd (held_in l.copies.entries (slice_index l.ids.items k)) (λ held. is_loose l.space held ≡ true);
}
