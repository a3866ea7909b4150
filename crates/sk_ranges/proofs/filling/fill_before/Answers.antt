use Rattle.std.proofs.Common.{◌≡◌, ◌<◌, ◌≤◌, ◌+◌, None, length, max, take, drop, get_or, refl, ap, subst, ◌∙◌, arith}
use Rattle.sk_ranges.specs.Pieces.{end_of}
use Rattle.sk_ranges.specs.Sides.{IsFilled, pieces_before}
use Rattle.sk_ranges.specs.States.{filled}
use Rattle.sk_ranges.specs.declared.pieces.Piece.{Piece}
use Rattle.sk_ranges.specs.declared.state.State.TheVariants.{Stale}
use Rattle.sk_ranges.proofs.PieceLemmas.{ends_rise, ends_within}
use Rattle.sk_ranges.proofs.SideLemmas.{places_ordered}
use Rattle.sk_ranges.proofs.FillLemmas.{begins_before, filled_more}
use Rattle.sk_ranges.proofs.VecLemmas.{get_or-same_rest, same_rest}
use Rattle.sk_ranges.proofs.filling.fill_before.Goals as goal
use Rattle.sk_ranges.proofs.filling.fill_before.Goals.{After-filled}

pub before-side-requires-clause-inside : goal.before-side-requires-clause-inside
before-side-requires-clause-inside c =
    let d : Piece = record { end = 0; state = Stale } in
    rw c.deref-2.ensures.value (omega (arith, ends_within c.args.pieces.now.items c.args.to d c.requires.tidy (omega arith), c.requires.begins d))

pub pieces-init : goal.pieces-init
pieces-init c =
    let d : Piece = record { end = 0; state = Stale } in
    let old = c.args.pieces.now.items in
    let from = c.place-from.result in
    let none : max c.args.lo (end_of 0 (take from old)) ≡ c.args.lo = omega (arith, rw c.deref.ensures.value at c.place-from.ensures.before) in
    record {
      filled = rw none (rw c.deref-2.ensures.value at c.before-side.ensures.before);
      empty = c.before-side.ensures.empty;
      place = places_ordered old c.before-side.result.place from c.args.lo c.args.lo d c.requires.tidy (omega arith) (omega arith) (omega arith) (rw c.deref-2.ensures.value at c.before-side.ensures.below) (rw c.deref.ensures.value at (c.place-from.ensures.after d));
      after = refl;
      len = refl;
      capacity = refl;
    }

-- the piece that is read, as it was
read : (c : After-filled) → c.index-piece.result.now ≡ get_or c.args.pieces.now.items c.pieces.at c.index-piece.result.now
read c = c.index-piece.ensures ∙ get_or-same_rest c.pieces.pieces.items c.args.pieces.now.items c.pieces.at c.index-piece.result.now c.pieces.invariant.after

-- it reaches into the range
reaches : (c : After-filled) → c.args.lo < (get_or c.args.pieces.now.items c.pieces.at c.index-piece.result.now).end
reaches c =
    let old = c.args.pieces.now.items in
    let d = c.index-piece.result.now in
    let inside : c.place-from.result < length old = omega arith in
    omega (arith, ends_rise 0 None old c.place-from.result c.pieces.at d c.requires.tidy (omega arith) (omega arith), (rw c.deref.ensures.value at (c.place-from.ensures.after d)) inside)

pub add-side-requires-clause-rises : goal.add-side-requires-clause-rises
add-side-requires-clause-rises c =
    let at = (goal.at.add-side-requires-clause-rises c).After-filled in
    let begins = begins_before c.args.pieces.now.items c.pieces.at c.index-piece.result.now c.requires.tidy (omega arith) in
    omega (arith, begins, reaches at, c.pieces.invariant.filled.ends, ap (λ (p : Piece). p.end) (read at))

pub pieces-preserved : goal.pieces-preserved
pieces-preserved c =
    let at = (goal.at.pieces-preserved c).After-filled in
    let old = c.args.pieces.now.items in
    let d = c.index-piece.result.now in
    let all = c.pieces.invariant in
    let piece : Piece = record { end = d.end; state = c.filled.result } in
    record {
      filled = filled_more old (pieces_before c.pieces.pieces.items c.pieces.side) (pieces_before c.add-side.new.pieces.items c.add-side.result) c.args.lo c.pieces.at d piece c.requires.tidy (omega arith) (reaches at)
          (ap (λ (p : Piece). p.end) (read at)) (c.filled.ensures ∙ ap (λ (p : Piece). filled p.state) (read at)) all.filled c.add-side.ensures.added;
      empty = rw c.add-side.ensures.piece tt;
      place = omega arith;
      after = same_rest c.add-side.new.pieces.items c.pieces.pieces.items (c.pieces.side.place + 1) (c.pieces.at + 1) (omega arith) c.add-side.ensures.after
          ∙ same_rest c.pieces.pieces.items old c.pieces.at (c.pieces.at + 1) (omega arith) all.after;
      len = omega arith;
      capacity = omega arith;
    }

-- the walk ends at the place
reached : (c : goal.After-pieces) → c.pieces.at ≡ c.args.to
reached c =
    let d : Piece = record { end = 0; state = Stale } in
    let ordered : c.place-from.result ≤ c.args.to = places_ordered c.args.pieces.now.items c.place-from.result c.args.to c.args.lo c.args.lo d c.requires.tidy (omega arith) (omega arith) (omega arith) (rw c.deref.ensures.value at c.place-from.ensures.before) (λ more. c.requires.begins d) in
    omega arith

pub returns-clause-filled : goal.returns-clause-filled
returns-clause-filled c =
    let old = c.args.pieces.now.items in
    subst (λ n. IsFilled old c.args.lo (max c.args.lo (end_of 0 (take n old))) (pieces_before c.pieces.pieces.items c.pieces.side)) (reached c) c.pieces.invariant.filled

pub returns-clause-place : goal.returns-clause-place
returns-clause-place c = omega (arith, reached c)

pub returns-clause-after : goal.returns-clause-after
returns-clause-after c = subst (λ n. drop n c.pieces.pieces.items ≡ drop n c.args.pieces.now.items) (reached c) c.pieces.invariant.after
