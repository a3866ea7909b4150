use Rattle.std.proofs.Common.{◌≢◌, ℕ, ◌<◌, slice_index}
use Rattle.sk_ranges.specs.declared.state.State.TheVariants.{Owner}
use Rattle.sk_copy_states.specs.Copies.{held_in, state_in}
use Rattle.sk_copy_states.proofs.owners.is_owned.Given as goal

abbrev pub invariant-ids : goal.invariant-ids
invariant-ids l = (k : ℕ) → k < l.at → (i : ℕ) → state_in (held_in l.copies.entries (slice_index l.ids k)) i ≢ Owner
