use Rattle.std.proofs.Common.{◌≢◌, ℕ, ◌<◌, slice_index}
use Rattle.sk_ranges.specs.declared.state.State.TheVariants.{Owner}
use Rattle.sk_copy_states.specs.Copies.{held_in, state_in}
use Rattle.sk_copy_states.proofs.sources.owner.Given as goal

abbrev pub invariant-ids : goal.invariant-ids
invariant-ids l = record {
  done : (k : ℕ) → k < l.at → state_in (held_in l.copies.entries (slice_index l.ids k)) l.range.lo ≢ Owner;
}
