use Rattle.std.proofs.Common.{◌≡◌, ◌≤◌, IfNone, max, take, drop, vec_len, vec_capacity}
use Rattle.sk_ranges.specs.Pieces.{end_of}
use Rattle.sk_ranges.specs.Sides.{IsFilled, pieces_before}
use Rattle.sk_ranges.proofs.filling.fill_before.Given as goal

abbrev pub invariant-pieces : goal.invariant-pieces
invariant-pieces l = record {
  filled : IsFilled l.fn.pieces.items l.lo (max l.lo (end_of 0 (take l.at l.fn.pieces.items))) (pieces_before l.pieces.items l.side);
  empty : IfNone l.side.piece (l.side.place ≡ 0);
  place : l.side.place ≤ l.at;
  after : drop l.at l.pieces.items ≡ drop l.at l.fn.pieces.items;
  len : vec_len l.pieces ≡ vec_len l.fn.pieces;
  capacity : vec_capacity l.pieces ≡ vec_capacity l.fn.pieces;
}
