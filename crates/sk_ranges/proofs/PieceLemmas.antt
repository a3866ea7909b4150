-- Lists of pieces that are joined, cut and read at an index.
use Rattle.std.proofs.Common.{◌≡◌, ℕ, suc, zero, ◌-◌, ◌<◌, ◌≤◌, List, [], ◌∷◌, ◌++◌, Option, Some, None, ⊎_elim, cond, get_or, length, take, refl, sym, ap, ◌∙◌, arith}
use Rattle.std.proofs.lemmas.Bool.{cases_lt, lt-ltb, le-ltb}
use Rattle.std.proofs.lemmas.List.{take_all}
use Rattle.sk_ranges.specs.declared.state.State.{State}
use Rattle.sk_ranges.specs.declared.state.State.TheVariants.{Stale}
use Rattle.sk_ranges.specs.declared.pieces.Piece.{Piece}
use Rattle.sk_ranges.specs.Pieces.{AreTidy, end_of, last_of, state_of}

pub end_of-above : (start : ℕ) (before : Option State) (ps : List Piece) → AreTidy start before ps → start ≤ end_of start ps
end_of-above start before [] t = omega arith
end_of-above start before (p ∷ ps) t = omega (arith, t.0, end_of-above p.end (Some p.state) ps t.2)

pub end_of-append : (start : ℕ) (xs ys : List Piece) → end_of start (xs ++ ys) ≡ end_of (end_of start xs) ys
end_of-append start [] ys = refl
end_of-append start (x ∷ xs) ys = end_of-append x.end xs ys

pub AreTidy-append : (start : ℕ) (before : Option State) (xs ys : List Piece) → AreTidy start before xs → AreTidy (end_of start xs) (last_of before xs) ys → AreTidy start before (xs ++ ys)
AreTidy-append start before [] ys t u = u
AreTidy-append start before (x ∷ xs) ys t u = (t.0, t.1, AreTidy-append x.end (Some x.state) xs ys t.2 u)

pub AreTidy-left : (start : ℕ) (before : Option State) (xs ys : List Piece) → AreTidy start before (xs ++ ys) → AreTidy start before xs
AreTidy-left start before [] ys t = tt
AreTidy-left start before (x ∷ xs) ys t = (t.0, t.1, AreTidy-left x.end (Some x.state) xs ys t.2)

pub AreTidy-right : (start : ℕ) (before : Option State) (xs ys : List Piece) → AreTidy start before (xs ++ ys) → AreTidy (end_of start xs) (last_of before xs) ys
AreTidy-right start before [] ys t = t
AreTidy-right start before (x ∷ xs) ys t = AreTidy-right x.end (Some x.state) xs ys t.2

-- the state within a first piece, and past it
pub state_of-here : (p : Piece) (ps : List Piece) (i : ℕ) → i < p.end → state_of (p ∷ ps) i ≡ p.state
state_of-here p ps i h = ap (λ b. cond b p.state (state_of ps i)) (lt-ltb i p.end h)

pub state_of-later : (p : Piece) (ps : List Piece) (i : ℕ) → p.end ≤ i → state_of (p ∷ ps) i ≡ state_of ps i
state_of-later p ps i h = ap (λ b. cond b p.state (state_of ps i)) (le-ltb i p.end h)

pub state_of-left : (start : ℕ) (xs ys : List Piece) (i : ℕ) → start ≤ i → i < end_of start xs → state_of (xs ++ ys) i ≡ state_of xs i
state_of-left start [] ys i s h = absurd (omega arith)
state_of-left start (x ∷ xs) ys i s h =
    ⊎_elim
    (λ below. state_of-here x (xs ++ ys) i below ∙ sym (state_of-here x xs i below))
    (λ above. state_of-later x (xs ++ ys) i above ∙ state_of-left x.end xs ys i above h ∙ sym (state_of-later x xs i above))
    (cases_lt i x.end)

pub state_of-right : (start : ℕ) (before : Option State) (xs ys : List Piece) (i : ℕ) → AreTidy start before xs → end_of start xs ≤ i → state_of (xs ++ ys) i ≡ state_of ys i
state_of-right start before [] ys i t h = refl
state_of-right start before (x ∷ xs) ys i t h =
    state_of-later x (xs ++ ys) i (omega (arith, end_of-above x.end (Some x.state) xs t.2)) ∙ state_of-right x.end (Some x.state) xs ys i t.2 h

pub state_of-past : (start : ℕ) (before : Option State) (ps : List Piece) (i : ℕ) → AreTidy start before ps → end_of start ps ≤ i → state_of ps i ≡ Stale
state_of-past start before [] i t h = refl
state_of-past start before (p ∷ ps) i t h =
    state_of-later p ps i (omega (arith, end_of-above p.end (Some p.state) ps t.2)) ∙ state_of-past p.end (Some p.state) ps i t.2 h

-- pieces that are cut after one of them end where it ends
pub end_of-take : (start : ℕ) (ps : List Piece) (k : ℕ) (d : Piece) → k < length ps → end_of start (take (suc k) ps) ≡ (get_or ps k d).end
end_of-take start [] k d h = absurd (omega arith)
end_of-take start (p ∷ ps) zero d h = refl
end_of-take start (p ∷ ps) (suc k) d h = end_of-take p.end ps k d (omega arith)

-- each piece ends above the start, and none ends above a later one
pub ends_above : (start : ℕ) (before : Option State) (ps : List Piece) (k : ℕ) (d : Piece) → AreTidy start before ps → k < length ps → start < (get_or ps k d).end
ends_above start before [] k d t h = absurd (omega arith)
ends_above start before (p ∷ ps) zero d t h = t.0
ends_above start before (p ∷ ps) (suc k) d t h = omega (arith, t.0, ends_above p.end (Some p.state) ps k d t.2 (omega arith))

pub ends_rise : (start : ℕ) (before : Option State) (ps : List Piece) (i j : ℕ) (d : Piece) → AreTidy start before ps → i ≤ j → j < length ps → (get_or ps i d).end ≤ (get_or ps j d).end
ends_rise start before [] i j d t o h = absurd (omega arith)
ends_rise start before (p ∷ ps) zero zero d t o h = omega arith
ends_rise start before (p ∷ ps) zero (suc j) d t o h = omega (arith, ends_above p.end (Some p.state) ps j d t.2 (omega arith))
ends_rise start before (p ∷ ps) (suc i) zero d t o h = absurd (omega arith)
ends_rise start before (p ∷ ps) (suc i) (suc j) d t o h = ends_rise p.end (Some p.state) ps i j d t.2 (omega arith) (omega arith)

-- where every piece below a place ends at an index or before, the pieces below it do
pub end_of-take_below : (ps : List Piece) (k i : ℕ) (d : Piece) → k ≤ length ps → ((j : ℕ) → j < k → (get_or ps j d).end ≤ i) → end_of 0 (take k ps) ≤ i
end_of-take_below ps zero i d h all = omega arith
end_of-take_below ps (suc k) i d h all = omega (arith, end_of-take 0 ps k d (omega arith), all k (omega arith))

-- a place that the pieces below end at or before, of an index that they reach, is the place of a piece
pub place_inside : (ps : List Piece) (k i : ℕ) → k ≤ length ps → end_of 0 (take k ps) ≤ i → i < end_of 0 ps → k < length ps
place_inside ps k i h a b =
    ⊎_elim
    (λ lt. lt)
    (λ (ge : length ps ≤ k). absurd (omega (arith, ap (end_of 0) (take_all k ps ge))))
    (cases_lt k (length ps))

-- the last piece ends where the pieces do
pub end_of-last : (ps : List Piece) (d : Piece) → 1 ≤ length ps → (get_or ps (length ps - 1) d).end ≡ end_of 0 ps
end_of-last [] d h = absurd (omega arith)
end_of-last (p ∷ ps) d h =
    let last : length (p ∷ ps) - 1 ≡ length ps = omega arith in
    rw last (sym (end_of-take 0 (p ∷ ps) (length ps) d (omega arith)) ∙ ap (end_of 0) (take_all (suc (length ps)) (p ∷ ps) (omega arith)))

-- no piece ends behind the last one
pub ends_within : (ps : List Piece) (k : ℕ) (d : Piece) → AreTidy 0 None ps → k < length ps → (get_or ps k d).end ≤ end_of 0 ps
ends_within ps k d t h = omega (arith, ends_rise 0 None ps k (length ps - 1) d t (omega arith) (omega arith), end_of-last ps d (omega arith))
