use Rattle.std.proofs.Common.{◌-◌, ◌≢◌, ℕ, ◌<◌, ◌≤◌, length, take, slice_index_or}
use Rattle.sk_ranges.specs.declared.pieces.Piece.{Piece}
use Rattle.sk_ranges.specs.declared.state.State.TheVariants.{Stale}
use Rattle.sk_ranges.specs.Pieces.{end_of, state_of}
use Rattle.sk_ranges.proofs.pieces.missing.Given as goal

abbrev pub invariant-pieces : goal.invariant-pieces
invariant-pieces l = record {
  from : l.range.lo ≤ l.lo;
  within : l.at ≤ length l.pieces;
  before : end_of 0 (take l.at l.pieces) ≤ l.lo;
  after : (d : Piece) → l.at < length l.pieces → l.lo < (slice_index_or l.pieces l.at d).end;
  earlier : (i : ℕ) → l.range.lo ≤ i → i < l.lo → state_of l.pieces i ≢ Stale;
}

abbrev pub decreases-pieces : goal.decreases-pieces
decreases-pieces l = l.range.hi - l.lo
