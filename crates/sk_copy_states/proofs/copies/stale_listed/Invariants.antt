use Rattle.std.proofs.Common.{◌≡◌, ◌≢◌, ℕ, ◌<◌, slice_index}
use Rattle.sk_ranges.specs.declared.state.State.TheVariants.{Stale}
use Rattle.sk_copy_states.specs.Copies.{held_in, SetsAt}
use Rattle.sk_copy_states.proofs.copies.stale_listed.Given as goal

abbrev pub invariant-ids : goal.invariant-ids
invariant-ids l = record {
  done : (k : ℕ) → k < l.at → slice_index l.ids k ≢ l.by → SetsAt (held_in l.fn.copies.entries (slice_index l.ids k)) (held_in l.copies.entries (slice_index l.ids k)) l.range.lo l.range.hi Stale;
  others : (q : ℕ) → ((k : ℕ) → k < l.at → slice_index l.ids k ≢ q) → held_in l.copies.entries q ≡ held_in l.fn.copies.entries q;
  writer : held_in l.copies.entries l.by ≡ held_in l.fn.copies.entries l.by;
}
