use Rattle.std.proofs.Common.{take, drop, ◌++◌, option_to_list, arith}
use Rattle.sk_ranges.specs.Sides.{IsLeft, IsRight, pieces_before, pieces_after}
use Rattle.sk_ranges.specs.declared.pieces.Piece.{Piece}
use Rattle.sk_ranges.specs.declared.state.State.TheVariants.{Stale}
use Rattle.sk_ranges.proofs.SideLemmas.{sides_set, sides_tidy, sides_end, places_ordered}
use Rattle.sk_ranges.proofs.change.set.Goals as goal

pub replace-requires-clause-ordered : goal.replace-requires-clause-ordered
replace-requires-clause-ordered c =
    let d : Piece = record { end = 0; state = Stale } in
    places_ordered c.args.pieces.now.items c.left_of-left.result.place c.right_of-right.result.place c.args.range.lo c.args.range.hi d c.requires.tidy (omega arith) (rw c.deref.ensures.value at c.left_of-left.ensures.within) (rw c.deref-2.ensures.value at c.right_of-right.ensures.within) (rw c.deref.ensures.value at c.left_of-left.ensures.below) (rw c.deref-2.ensures.value at (c.right_of-right.ensures.above d))

-- the two sides, of the pieces as they were
left : (c : goal.After-replace) → IsLeft c.args.pieces.now.items c.args.range.lo c.args.state (take c.left_of-left.result.place c.args.pieces.now.items ++ option_to_list c.left_of-left.result.piece)
left c = rw c.deref.ensures.value at c.left_of-left.ensures.left

right : (c : goal.After-replace) → IsRight c.args.pieces.now.items c.args.range.hi c.args.state (option_to_list c.right_of-right.result.piece ++ drop c.right_of-right.result.place c.args.pieces.now.items)
right c = rw c.deref-2.ensures.value at c.right_of-right.ensures.right

pub returns-clause-tidy : goal.returns-clause-tidy
returns-clause-tidy c = rw c.replace.ensures.items (sides_tidy c.args.pieces.now.items c.args.pieces.now.items _ _ c.args.range.lo c.args.range.hi c.args.state c.requires.some (left c) (right c))

pub returns-clause-end : goal.returns-clause-end
returns-clause-end c = rw c.replace.ensures.items (sides_end c.args.pieces.now.items (pieces_before c.args.pieces.now.items c.left_of-left.result) (pieces_after c.args.pieces.now.items c.right_of-right.result) c.args.range.hi c.args.state (right c))

pub returns-clause-states : goal.returns-clause-states
returns-clause-states c = rw c.replace.ensures.items (sides_set c.args.pieces.now.items _ _ c.args.range.lo c.args.range.hi c.args.state c.requires.some (left c) (right c))
