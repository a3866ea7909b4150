use Rattle.std.proofs.Common.{ℕ, ◌<◌, ◌≤◌, slice_index}
use Rattle.sk_copy_states.specs.Copies.{held_in}
use Rattle.sk_copy_states.specs.Sources.{LiesIn, AllStale}
use Rattle.sk_copy_states.proofs.sources.near.Given as goal

abbrev pub invariant-ids : goal.invariant-ids
invariant-ids l = record {
  above : l.range.lo < l.hi;
  below : l.hi ≤ l.range.hi;
  done : (k : ℕ) → k < l.at → LiesIn l.space (held_in l.copies.entries (slice_index l.ids k)) → AllStale (held_in l.copies.entries (slice_index l.ids k)) l.range.lo l.hi;
}
