use Rattle.std.proofs.Common.{◌≢◌, ℕ, ◌<◌, slice_index}
use Rattle.sk_copy_states.proofs.store.place_of.Given as goal

abbrev pub invariant-ids : goal.invariant-ids
invariant-ids l = (k : ℕ) → k < l.at → slice_index l.ids k ≢ l.id
