use Rattle.std.proofs.Common.{◌≡◌, ◌++◌, ◌-◌, ◌<◌, ◌≤◌, List, length, max, take, option_to_list, get_or, sym, ap, subst, ◌∙◌, arith}
use Rattle.sk_ranges.specs.Pieces.{end_of}
use Rattle.sk_ranges.specs.Sides.{IsLeft, IsRight, pieces_before, pieces_after}
use Rattle.sk_ranges.specs.States.{filled}
use Rattle.sk_ranges.specs.declared.pieces.Piece.{Piece}
use Rattle.sk_ranges.specs.declared.state.State.TheVariants.{Stale}
use Rattle.sk_ranges.proofs.SideLemmas.{sides_tidy, sides_end, places_ordered}
use Rattle.sk_ranges.proofs.ReadLemmas.{state_of-at}
use Rattle.sk_ranges.proofs.FillLemmas.{sides_filled}
use Rattle.sk_ranges.proofs.VecLemmas.{same_rest}
use Rattle.sk_ranges.proofs.filling.fill.Goals as goal
use Rattle.sk_ranges.proofs.filling.fill.Goals.{After-without-left}

-- the range's last piece comes before what is behind the range
ordered : (c : After-without-left) → c.place-last.result ≤ c.right_of-right.result.place
ordered c =
    let d : Piece = record { end = 0; state = Stale } in
    let old = c.args.pieces.now.items in
    let last = c.place-last.result in
    places_ordered old last c.right_of-right.result.place (c.args.range.hi - 1) c.args.range.hi d c.requires.tidy (omega arith) (omega arith) (omega arith) (rw c.deref.ensures.value at c.place-last.ensures.before) (rw c.deref-2.ensures.value at (c.right_of-right.ensures.above d))

pub replace-requires-clause-ordered : goal.replace-requires-clause-ordered
replace-requires-clause-ordered c = omega (arith, ordered (goal.at.replace-requires-clause-ordered c).After-without-left)

-- the two sides, of the pieces that are filled and of the pieces as they were
left : (c : After-without-left) → IsLeft (pieces_before c.fill_before-side.new.pieces.items c.fill_before-side.result) (end_of 0 (pieces_before c.fill_before-side.new.pieces.items c.fill_before-side.result)) c.filled-state.result (pieces_before c.fill_before-side.new.pieces.items c.without-left.result)
left c = c.without-left.ensures.left c.fill_before-side.new.pieces.items c.fill_before-side.ensures.filled.tidy

right : (c : After-without-left) → IsRight c.args.pieces.now.items c.args.range.hi c.filled-state.result (pieces_after c.fill_before-side.new.pieces.items c.right_of-right.result)
right c =
    let old = c.args.pieces.now.items in
    let new = c.fill_before-side.new.pieces.items in
    let side = c.right_of-right.result in
    subst (λ (rest : List Piece). IsRight old c.args.range.hi c.filled-state.result (option_to_list side.piece ++ rest)) (sym (same_rest new old c.place-last.result side.place (ordered c) c.fill_before-side.ensures.after))
    (rw c.deref-2.ensures.value at c.right_of-right.ensures.right)

-- the pieces before the last one end in the range
short : (c : After-without-left) → max c.args.range.lo (end_of 0 (take c.place-last.result c.args.pieces.now.items)) < c.args.range.hi
short c = omega (arith, rw c.deref.ensures.value at c.place-last.ensures.before)

pub returns-clause-tidy : goal.returns-clause-tidy
returns-clause-tidy c =
    let at = (goal.at.returns-clause-tidy c).After-without-left in
    rw c.replace.ensures.items (sides_tidy _ c.args.pieces.now.items _ _ _ c.args.range.hi c.filled-state.result (omega (arith, short at, c.fill_before-side.ensures.filled.ends)) (left at) (right at))

pub returns-clause-end : goal.returns-clause-end
returns-clause-end c =
    let at = (goal.at.returns-clause-end c).After-without-left in
    rw c.replace.ensures.items (sides_end c.args.pieces.now.items (pieces_before c.fill_before-side.new.pieces.items c.without-left.result) (pieces_after c.fill_before-side.new.pieces.items c.right_of-right.result) c.args.range.hi c.filled-state.result (right at))

pub returns-clause-fills : goal.returns-clause-fills
returns-clause-fills c =
    let at = (goal.at.returns-clause-fills c).After-without-left in
    let old = c.args.pieces.now.items in
    let last = c.place-last.result in
    let d = c.index.result.now in
    let inside : last < length old = omega (arith, rw c.deref.ensures.value at c.place-last.ensures.inside) in
    let ends : c.args.range.hi - 1 < (get_or old last d).end = (rw c.deref.ensures.value at (c.place-last.ensures.after d)) inside in
    let same : filled (get_or old last d).state ≡ c.filled-state.result = sym (c.filled-state.ensures ∙ ap (λ (p : Piece). filled p.state) c.index.ensures) in
    rw c.replace.ensures.items (sides_filled old _ _ _ c.args.range.lo (max c.args.range.lo (end_of 0 (take last old))) c.args.range.hi c.filled-state.result (omega arith) (short at) c.fill_before-side.ensures.filled (left at) (right at)
    (λ i a b. ap filled (state_of-at old last i d c.requires.tidy inside (omega arith) (omega arith)) ∙ same))
