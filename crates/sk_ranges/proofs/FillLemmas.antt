-- The pieces of a range that are filled one after another.
use Rattle.std.proofs.Common.{◌≡◌, ◌≢◌, ℕ, ◌+◌, ◌<◌, ◌≤◌, List, [], ◌∷◌, ◌++◌, Option, Some, None, option_to_list, ⊎_elim, get_or, length, max, set, take, drop, sym, ap, subst, ◌∙◌, add-one, arith}
use Rattle.std.proofs.lemmas.Bool.{cases_lt}
use Rattle.std.proofs.lemmas.List.{take_more_set}
use Rattle.sk_ranges.specs.declared.change.Side.{Side}
use Rattle.sk_ranges.specs.declared.state.State.{State}
use Rattle.sk_ranges.specs.declared.pieces.Piece.{Piece}
use Rattle.sk_ranges.specs.Pieces.{AreTidy, end_of, last_of, state_of}
use Rattle.sk_ranges.specs.Sides.{IsAdded, IsFilled, IsLeft, IsRight, pieces_before}
use Rattle.sk_ranges.specs.States.{FillsIn, filled}
use Rattle.sk_ranges.proofs.PieceLemmas.{end_of-append, end_of-take, AreTidy-append, AreTidy-left, AreTidy-right, state_of-here, state_of-left, state_of-right}
use Rattle.sk_ranges.proofs.SideLemmas.{split_at, last_of-push, state_of-middle}
use Rattle.sk_ranges.proofs.ReadLemmas.{state_of-at}

-- a piece begins before it ends
pub begins_before : (ps : List Piece) (k : ℕ) (d : Piece) → AreTidy 0 None ps → k < length ps → end_of 0 (take k ps) < (get_or ps k d).end
begins_before ps k d t h =
    (AreTidy-right 0 None (take k ps) (get_or ps k d ∷ drop (k + 1) ps) (subst (AreTidy 0 None) (sym (split_at ps k d h)) t)).0

-- a piece of another state than the last one
pub added_behind : (xs : List Piece) (piece : Piece) → AreTidy 0 None xs → end_of 0 xs < piece.end → last_of None xs ≢ Some piece.state → IsAdded xs (xs ++ piece ∷ []) piece
added_behind xs piece t h n = record {
  tidy = AreTidy-append 0 None xs (piece ∷ []) t (h, n, tt);
  ends = end_of-append 0 xs (piece ∷ []);
  before = λ i b. state_of-left 0 xs (piece ∷ []) i (omega arith) b;
  inside = λ i a b. state_of-right 0 None xs (piece ∷ []) i t a ∙ state_of-here piece [] i b;
}

-- a piece of the state of the last one, which goes
pub added_joined : (xs : List Piece) (last piece : Piece) → AreTidy 0 None (xs ++ last ∷ []) → end_of 0 (xs ++ last ∷ []) < piece.end → last.state ≡ piece.state → IsAdded (xs ++ last ∷ []) (xs ++ piece ∷ []) piece
added_joined xs last piece t h e =
    let ends : end_of 0 (xs ++ last ∷ []) ≡ last.end = end_of-append 0 xs (last ∷ []) in
    let right = AreTidy-right 0 None xs (last ∷ []) t in
    let begins : end_of 0 xs < piece.end = omega (arith, right.0) in
    let tidy : AreTidy 0 None (xs ++ piece ∷ []) = AreTidy-append 0 None xs (piece ∷ []) (AreTidy-left 0 None xs (last ∷ []) t) (begins, subst (λ (s : State). last_of None xs ≢ Some s) e right.1, tt) in
    record {
      tidy = tidy;
      ends = end_of-append 0 xs (piece ∷ []);
      before = λ i b. ⊎_elim
          (λ below. state_of-left 0 xs (piece ∷ []) i (omega arith) below ∙ sym (state_of-left 0 xs (last ∷ []) i (omega arith) below))
          (λ above. state_of-middle xs piece [] i tidy above (omega arith) ∙ sym e ∙ sym (state_of-middle xs last [] i t above (omega arith)))
          (cases_lt i (end_of 0 xs));
      inside = λ i a b. state_of-middle xs piece [] i tidy (omega (arith, right.0)) b;
    }

-- the same of a side with a last piece
pub side_joined : (ps : List Piece) (side : Side) (last piece : Piece) → side.piece ≡ Some last → AreTidy 0 None (pieces_before ps side) → end_of 0 (pieces_before ps side) < piece.end → last.state ≡ piece.state → IsAdded (pieces_before ps side) (take side.place ps ++ piece ∷ []) piece
side_joined ps side last piece is t h e =
    subst (λ (p : Option Piece). AreTidy 0 None (take side.place ps ++ option_to_list p) → end_of 0 (take side.place ps ++ option_to_list p) < piece.end → IsAdded (take side.place ps ++ option_to_list p) (take side.place ps ++ piece ∷ []) piece) (sym is)
    (λ u g. added_joined (take side.place ps) last piece u g e) t h

pub side_behind : (ps : List Piece) (side : Side) (last piece : Piece) → side.piece ≡ Some last → side.place < length ps → AreTidy 0 None (pieces_before ps side) → end_of 0 (pieces_before ps side) < piece.end → last.state ≢ piece.state → IsAdded (pieces_before ps side) (take (side.place + 1) (set ps side.place last) ++ piece ∷ []) piece
side_behind ps side last piece is inside t h n =
    subst (λ (p : Option Piece). AreTidy 0 None (take side.place ps ++ option_to_list p) → end_of 0 (take side.place ps ++ option_to_list p) < piece.end → IsAdded (take side.place ps ++ option_to_list p) (take (side.place + 1) (set ps side.place last) ++ piece ∷ []) piece) (sym is)
    (λ u g. subst (λ (written : List Piece). IsAdded (take side.place ps ++ last ∷ []) (written ++ piece ∷ []) piece) (sym (take_more_set ps side.place last inside))
    (added_behind (take side.place ps ++ last ∷ []) piece u g (λ e. n (cc (e, last_of-push None (take side.place ps) last))))) t h

-- one more piece is filled
pub filled_more : (ps out new : List Piece) (lo k : ℕ) (d piece : Piece) → AreTidy 0 None ps → k < length ps → lo < (get_or ps k d).end → piece.end ≡ (get_or ps k d).end → piece.state ≡ filled (get_or ps k d).state → IsFilled ps lo (max lo (end_of 0 (take k ps))) out → IsAdded out new piece → IsFilled ps lo (max lo (end_of 0 (take (k + 1) ps))) new
filled_more ps out new lo k d piece t h b e s f a =
    let ends : end_of 0 (take (k + 1) ps) ≡ (get_or ps k d).end = rw add-one (end_of-take 0 ps k d h) in
    record {
      tidy = a.tidy;
      ends = omega (arith, a.ends);
      before = λ i below. a.before i (omega (arith, f.ends)) ∙ f.before i below;
      inside = λ i from within. ⊎_elim
          (λ below. a.before i below ∙ f.inside i from (omega (arith, f.ends)))
          (λ above. a.inside i above (omega arith) ∙ s ∙ ap filled (sym (state_of-at ps k i d t h (omega (arith, f.ends)) (omega arith))))
          (cases_lt i (end_of 0 out));
    }

-- what is filled, a run behind it, and what comes behind the range
pub sides_filled : (ps out xs ys : List Piece) (lo to hi : ℕ) (target : State) → lo ≤ to → to < hi → IsFilled ps lo to out → IsLeft out (end_of 0 out) target xs → IsRight ps hi target ys → ((i : ℕ) → to ≤ i → i < hi → filled (state_of ps i) ≡ target) → FillsIn (state_of ps) (state_of (xs ++ ys)) lo hi
sides_filled ps out xs ys lo to hi target a b f l r run = record {
  before = λ i h. ⊎_elim
      (λ below. state_of-left 0 xs ys i (omega arith) below ∙ l.same i below ∙ f.before i h)
      (λ above. state_of-right 0 None xs ys i l.tidy above ∙ r.within i (omega arith) ∙ sym (l.joined i above (omega (arith, f.ends))) ∙ f.before i h)
      (cases_lt i (end_of 0 xs));
  inside = λ i g h. ⊎_elim
      (λ below. state_of-left 0 xs ys i (omega arith) below ∙ l.same i below ∙ f.inside i g (omega (arith, f.ends, l.until)))
      (λ above. state_of-right 0 None xs ys i l.tidy above ∙ r.within i h ∙ ⊎_elim
      (λ (short : i < to). sym (l.joined i above (omega (arith, f.ends))) ∙ f.inside i g short)
      (λ far. sym (run i far h))
      (cases_lt i to))
      (cases_lt i (end_of 0 xs));
  after = λ i h. state_of-right 0 None xs ys i l.tidy (omega (arith, l.until, f.ends)) ∙ r.beyond i h;
}
