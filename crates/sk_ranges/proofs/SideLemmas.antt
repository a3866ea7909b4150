-- The sides of a range, by the piece that stands at its beginning or its end, and what they are when they are joined.
use Rattle.std.proofs.Common.{◌≡◌, ◌≢◌, ℕ, zero, suc, ◌+◌, ◌<◌, ◌≤◌, List, [], ◌∷◌, ◌++◌, Option, Some, None, option_to_list, ⊎_elim, get_or, length, take, drop, refl, sym, ap, subst, ◌∙◌, arith}
use Rattle.std.proofs.lemmas.Bool.{cases_lt}
use Rattle.std.proofs.lemmas.List.{take-append-drop, drop_more, take_all, drop_all}
use Rattle.sk_ranges.specs.declared.change.Side.{Side}
use Rattle.sk_ranges.specs.declared.state.State.{State}
use Rattle.sk_ranges.specs.declared.pieces.Piece.{Piece}
use Rattle.sk_ranges.specs.Pieces.{AreTidy, end_of, last_of, state_of}
use Rattle.sk_ranges.specs.Sides.{IsFilled, IsLeft, IsRight, pieces_before}
use Rattle.sk_ranges.specs.States.{SetsIn}
use Rattle.sk_ranges.proofs.PieceLemmas.{end_of-append, end_of-take, ends_rise, AreTidy-append, AreTidy-left, AreTidy-right, state_of-here, state_of-later, state_of-left, state_of-right, state_of-past}

-- the pieces are those below a place, the one there, and those above it
pub split_at : (ps : List Piece) (k : ℕ) (d : Piece) → k < length ps → take k ps ++ get_or ps k d ∷ drop (k + 1) ps ≡ ps
split_at ps k d h = ap (λ qs. take k ps ++ qs) (sym (drop_more ps k d h)) ∙ take-append-drop k ps

pub last_of-push : (before : Option State) (xs : List Piece) (p : Piece) → last_of before (xs ++ p ∷ []) ≡ Some p.state
last_of-push before [] p = refl
last_of-push before (x ∷ xs) p = last_of-push (Some x.state) xs p

-- the state of a piece between others
pub state_of-middle : (xs : List Piece) (p : Piece) (ys : List Piece) (i : ℕ) → AreTidy 0 None (xs ++ p ∷ ys) → end_of 0 xs ≤ i → i < p.end → state_of (xs ++ p ∷ ys) i ≡ p.state
state_of-middle xs p ys i t a b = state_of-right 0 None xs (p ∷ ys) i (AreTidy-left 0 None xs (p ∷ ys) t) a ∙ state_of-here p ys i b

-- what stays before a run of this state, of pieces that end with it and of others
pub left_joined : (xs : List Piece) (last : Piece) (target : State) → AreTidy 0 None (xs ++ last ∷ []) → last.state ≡ target → IsLeft (xs ++ last ∷ []) (end_of 0 (xs ++ last ∷ [])) target xs
left_joined xs last target t e =
    let ends : end_of 0 (xs ++ last ∷ []) ≡ last.end = end_of-append 0 xs (last ∷ []) in
    let right = AreTidy-right 0 None xs (last ∷ []) t in
    record {
      tidy = AreTidy-left 0 None xs (last ∷ []) t;
      until = omega (arith, right.0);
      other = subst (λ (s : State). last_of None xs ≢ Some s) e right.1;
      same = λ i h. sym (state_of-left 0 xs (last ∷ []) i (omega arith) h);
      joined = λ i f h. state_of-middle xs last [] i t f (omega arith) ∙ e;
    }

pub left_whole : (xs : List Piece) (target : State) → AreTidy 0 None xs → last_of None xs ≢ Some target → IsLeft xs (end_of 0 xs) target xs
left_whole xs target t n = record {
  tidy = t;
  until = omega arith;
  other = n;
  same = λ i h. refl;
  joined = λ i f h. absurd (omega arith);
}

-- the same of a side with a last piece
pub without_joined : (ps : List Piece) (side : Side) (last : Piece) (target : State) → side.piece ≡ Some last → last.state ≡ target → AreTidy 0 None (pieces_before ps side) → IsLeft (pieces_before ps side) (end_of 0 (pieces_before ps side)) target (take side.place ps)
without_joined ps side last target is e t =
    subst (λ (p : Option Piece). AreTidy 0 None (take side.place ps ++ option_to_list p) → IsLeft (take side.place ps ++ option_to_list p) (end_of 0 (take side.place ps ++ option_to_list p)) target (take side.place ps)) (sym is)
    (λ u. left_joined (take side.place ps) last target u e) t

pub without_kept : (ps : List Piece) (side : Side) (last : Piece) (target : State) → side.piece ≡ Some last → last.state ≢ target → AreTidy 0 None (pieces_before ps side) → IsLeft (pieces_before ps side) (end_of 0 (pieces_before ps side)) target (pieces_before ps side)
without_kept ps side last target is n t =
    left_whole (pieces_before ps side) target t
    (subst (λ (p : Option Piece). last_of None (take side.place ps ++ option_to_list p) ≢ Some target) (sym is) (λ e. n (cc (e, last_of-push None (take side.place ps) last))))

-- the pieces before an index that stands in one of them, or at its end
before_in : (xs : List Piece) (p : Piece) (ys : List Piece) (lo : ℕ) → AreTidy 0 None (xs ++ p ∷ ys) → end_of 0 xs < lo → lo ≤ p.end → IsFilled (xs ++ p ∷ ys) lo lo (xs ++ record { end = lo; state = p.state } ∷ [])
before_in xs p ys lo t a b =
    let q : Piece = record { end = lo; state = p.state } in
    let tidy : AreTidy 0 None (xs ++ q ∷ []) = AreTidy-append 0 None xs (q ∷ []) (AreTidy-left 0 None xs (p ∷ ys) t) (a, (AreTidy-right 0 None xs (p ∷ ys) t).1, tt) in
    record {
      tidy = tidy;
      ends = end_of-append 0 xs (q ∷ []);
      before = λ i h. ⊎_elim
          (λ below. state_of-left 0 xs (q ∷ []) i (omega arith) below ∙ sym (state_of-left 0 xs (p ∷ ys) i (omega arith) below))
          (λ above. state_of-middle xs q [] i tidy above h ∙ sym (state_of-middle xs p ys i t above (omega arith)))
          (cases_lt i (end_of 0 xs));
      inside = λ i f h. absurd (omega arith);
    }

right_joined : (xs : List Piece) (p : Piece) (ys : List Piece) (hi : ℕ) (target : State) → AreTidy 0 None (xs ++ p ∷ ys) → end_of 0 xs ≤ hi → hi < p.end → p.state ≡ target → IsRight (xs ++ p ∷ ys) hi target (p ∷ ys)
right_joined xs p ys hi target t a b e = record {
  tidy = λ s before h n. (omega arith, subst (λ (w : State). before ≢ Some w) (sym e) n, (AreTidy-right 0 None xs (p ∷ ys) t).2);
  ends = λ s. sym (end_of-append 0 xs (p ∷ ys));
  within = λ i h. state_of-here p ys i (omega arith) ∙ e;
  beyond = λ i h. sym (state_of-right 0 None xs (p ∷ ys) i (AreTidy-left 0 None xs (p ∷ ys) t) (omega arith));
}

right_kept : (xs : List Piece) (p : Piece) (ys : List Piece) (hi : ℕ) (target : State) → AreTidy 0 None (xs ++ p ∷ ys) → end_of 0 xs ≤ hi → hi < p.end → p.state ≢ target → IsRight (xs ++ p ∷ ys) hi target (record { end = hi; state = target } ∷ p ∷ ys)
right_kept xs p ys hi target t a b n =
    let q : Piece = record { end = hi; state = target } in
    record {
      tidy = λ s before h o. (h, o, (b, (λ e. n (cc (e))), (AreTidy-right 0 None xs (p ∷ ys) t).2));
      ends = λ s. sym (end_of-append 0 xs (p ∷ ys));
      within = λ i h. state_of-here q (p ∷ ys) i h;
      beyond = λ i h. state_of-later q (p ∷ ys) i h ∙ sym (state_of-right 0 None xs (p ∷ ys) i (AreTidy-left 0 None xs (p ∷ ys) t) (omega arith));
    }

right_end : (ps : List Piece) (hi : ℕ) (target : State) → AreTidy 0 None ps → end_of 0 ps ≡ hi → IsRight ps hi target (record { end = hi; state = target } ∷ [])
right_end ps hi target t e =
    let q : Piece = record { end = hi; state = target } in
    record {
      tidy = λ s before h o. (h, o, tt);
      ends = λ s. sym e;
      within = λ i h. state_of-here q [] i h;
      beyond = λ i h. state_of-later q [] i h ∙ sym (state_of-past 0 None ps i t (omega arith));
    }

-- the pieces from the sides together
pub sides_set : (ps xs ys : List Piece) (lo hi : ℕ) (target : State) → lo < hi → IsLeft ps lo target xs → IsRight ps hi target ys → SetsIn (state_of ps) (state_of (xs ++ ys)) lo hi target
sides_set ps xs ys lo hi target o l r = record {
  before = λ i h. ⊎_elim
      (λ below. state_of-left 0 xs ys i (omega arith) below ∙ l.same i below)
      (λ above. state_of-right 0 None xs ys i l.tidy above ∙ r.within i (omega arith) ∙ sym (l.joined i above h))
      (cases_lt i (end_of 0 xs));
  inside = λ i f h. state_of-right 0 None xs ys i l.tidy (omega (arith, l.until)) ∙ r.within i h;
  after = λ i h. state_of-right 0 None xs ys i l.tidy (omega (arith, l.until)) ∙ r.beyond i h;
}

pub sides_tidy : (ps qs xs ys : List Piece) (lo hi : ℕ) (target : State) → lo < hi → IsLeft ps lo target xs → IsRight qs hi target ys → AreTidy 0 None (xs ++ ys)
sides_tidy ps qs xs ys lo hi target o l r = AreTidy-append 0 None xs ys l.tidy (r.tidy (end_of 0 xs) (last_of None xs) (omega (arith, l.until)) l.other)

pub sides_end : (ps xs ys : List Piece) (hi : ℕ) (target : State) → IsRight ps hi target ys → end_of 0 (xs ++ ys) ≡ end_of 0 ps
sides_end ps xs ys hi target r = end_of-append 0 xs ys ∙ r.ends (end_of 0 xs)

-- the left side stops at or before the place where the right one goes on
pub places_ordered : (ps : List Piece) (from to lo hi : ℕ) (d : Piece) → AreTidy 0 None ps → lo ≤ hi → from ≤ length ps → to ≤ length ps → end_of 0 (take from ps) ≤ lo → (to < length ps → hi < (get_or ps to d).end) → from ≤ to
places_ordered ps zero to lo hi d t o a b below above = omega arith
places_ordered ps (suc k) to lo hi d t o a b below above =
    ⊎_elim
    (λ (lt : to < suc k). absurd (omega (arith, end_of-take 0 ps k d a, ends_rise 0 None ps to k d t (omega arith) a, above (omega arith))))
    (λ ge. ge)
    (cases_lt to (suc k))

-- the pieces before an index, by the piece below it
pub before_at : (ps : List Piece) (k lo : ℕ) (d : Piece) → AreTidy 0 None ps → k < length ps → end_of 0 (take k ps) < lo → lo ≤ (get_or ps k d).end → IsFilled ps lo lo (take k ps ++ record { end = lo; state = (get_or ps k d).state } ∷ [])
before_at ps k lo d t h a b =
    let whole = split_at ps k d h in
    subst (λ (qs : List Piece). IsFilled qs lo lo (take k ps ++ record { end = lo; state = (get_or ps k d).state } ∷ [])) whole (before_in (take k ps) (get_or ps k d) (drop (k + 1) ps) lo (subst (AreTidy 0 None) (sym whole) t) a b)

-- before the first index there are none
pub before_none : (ps : List Piece) → IsFilled ps 0 0 []
before_none ps = record {
  tidy = tt;
  ends = refl;
  before = λ i h. absurd (omega arith);
  inside = λ i f h. absurd (omega arith);
}

-- the left side of a range, by the pieces before it
pub left_before : (ps out xs : List Piece) (lo : ℕ) (target : State) → IsFilled ps lo lo out → IsLeft out (end_of 0 out) target xs → IsLeft ps lo target xs
left_before ps out xs lo target f l = record {
  tidy = l.tidy;
  until = omega (arith, l.until, f.ends);
  other = l.other;
  same = λ i h. l.same i h ∙ f.before i (omega (arith, l.until, f.ends));
  joined = λ i a h. sym (f.before i h) ∙ l.joined i a (omega (arith, f.ends));
}

-- the right side, by the piece that the range's end stands in
pub right_joined_at : (ps : List Piece) (k hi : ℕ) (target : State) (d : Piece) → AreTidy 0 None ps → k < length ps → end_of 0 (take k ps) ≤ hi → hi < (get_or ps k d).end → (get_or ps k d).state ≡ target → IsRight ps hi target (drop k ps)
right_joined_at ps k hi target d t h a b e =
    let whole = split_at ps k d h in
    subst (λ (qs : List Piece). IsRight ps hi target qs) (sym (drop_more ps k d h))
    (subst (λ (qs : List Piece). IsRight qs hi target (get_or ps k d ∷ drop (k + 1) ps)) whole (right_joined (take k ps) (get_or ps k d) (drop (k + 1) ps) hi target (subst (AreTidy 0 None) (sym whole) t) a b e))

pub right_kept_at : (ps : List Piece) (k hi : ℕ) (target : State) (d : Piece) → AreTidy 0 None ps → k < length ps → end_of 0 (take k ps) ≤ hi → hi < (get_or ps k d).end → (get_or ps k d).state ≢ target → IsRight ps hi target (record { end = hi; state = target } ∷ drop k ps)
right_kept_at ps k hi target d t h a b n =
    let whole = split_at ps k d h in
    subst (λ (qs : List Piece). IsRight ps hi target (record { end = hi; state = target } ∷ qs)) (sym (drop_more ps k d h))
    (subst (λ (qs : List Piece). IsRight qs hi target (record { end = hi; state = target } ∷ get_or ps k d ∷ drop (k + 1) ps)) whole (right_kept (take k ps) (get_or ps k d) (drop (k + 1) ps) hi target (subst (AreTidy 0 None) (sym whole) t) a b n))

pub right_end_at : (ps : List Piece) (k hi : ℕ) (target : State) → AreTidy 0 None ps → length ps ≤ k → end_of 0 (take k ps) ≤ hi → hi ≤ end_of 0 ps → IsRight ps hi target (record { end = hi; state = target } ∷ drop k ps)
right_end_at ps k hi target t h a b =
    subst (λ (qs : List Piece). IsRight ps hi target (record { end = hi; state = target } ∷ qs)) (sym (drop_all k ps h))
    (right_end ps hi target t (omega (arith, ap (end_of 0) (take_all k ps h))))
