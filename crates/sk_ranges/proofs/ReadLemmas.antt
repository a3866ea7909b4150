-- What the piece at a place tells of the indices in it.
use Rattle.std.proofs.Common.{◌≡◌, ◌≢◌, ℕ, zero, suc, ◌+◌, ◌<◌, ◌≤◌, List, [], ◌∷◌, Option, Some, None, ⊎_elim, get_or, length, take, drop, min, sym, subst, ◌∙◌, add-one, arith}
use Rattle.std.proofs.lemmas.Bool.{cases_lt}
use Rattle.sk_ranges.specs.declared.state.State.{State}
use Rattle.sk_ranges.specs.declared.state.State.TheVariants.{Stale}
use Rattle.sk_ranges.specs.declared.pieces.Piece.{Piece}
use Rattle.sk_ranges.specs.Pieces.{AreTidy, end_of, state_of}
use Rattle.sk_ranges.specs.States.{IsRun}
use Rattle.sk_ranges.proofs.PieceLemmas.{end_of-take, ends_above, place_inside}
use Rattle.sk_ranges.proofs.SideLemmas.{split_at, state_of-middle}

-- the state at an index of the piece at a place
pub state_of-at : (ps : List Piece) (k i : ℕ) (d : Piece) → AreTidy 0 None ps → k < length ps → end_of 0 (take k ps) ≤ i → i < (get_or ps k d).end → state_of ps i ≡ (get_or ps k d).state
state_of-at ps k i d t h a b =
    let whole = split_at ps k d h in
    subst (λ (qs : List Piece). state_of qs i ≡ (get_or ps k d).state) whole (state_of-middle (take k ps) (get_or ps k d) (drop (k + 1) ps) i (subst (AreTidy 0 None) (sym whole) t) a b)

-- a piece ends before the next one, whose state is another
pub next_ends : (start : ℕ) (before : Option State) (ps : List Piece) (k : ℕ) (d e : Piece) → AreTidy start before ps → k + 1 < length ps → (get_or ps k d).end < (get_or ps (k + 1) e).end
next_ends start before [] k d e t h = absurd (omega arith)
next_ends start before (p ∷ ps) zero d e t h = ends_above p.end (Some p.state) ps 0 e t.2 (omega arith)
next_ends start before (p ∷ ps) (suc k) d e t h = rw add-one (rw (add-one) at (next_ends p.end (Some p.state) ps k d e t.2 (omega arith)))

pub next_differs : (start : ℕ) (before : Option State) (ps : List Piece) (k : ℕ) (d : Piece) → AreTidy start before ps → k + 1 < length ps → (get_or ps (k + 1) d).state ≢ (get_or ps k d).state
next_differs start before [] k d t h = absurd (omega arith)
next_differs start before (p ∷ []) k d t h = absurd (omega arith)
next_differs start before (p ∷ q ∷ ps) zero d t h = λ e. t.2.1 (cc (e))
next_differs start before (p ∷ q ∷ ps) (suc k) d t h = rw add-one (rw (add-one) at (next_differs p.end (Some p.state) (q ∷ ps) k d t.2 (omega arith)))

-- what lies behind an index in its piece and before hi is a run
pub run_at : (ps : List Piece) (k lo to hi : ℕ) (d : Piece) → AreTidy 0 None ps → k < length ps → end_of 0 (take k ps) ≤ lo → lo < (get_or ps k d).end → lo < hi → hi ≤ end_of 0 ps → to ≡ min (get_or ps k d).end hi → IsRun (state_of ps) (get_or ps k d).state lo to hi
run_at ps k lo to hi d t h a b o e m =
    let ends : end_of 0 (take (k + 1) ps) ≡ (get_or ps k d).end = rw add-one (end_of-take 0 ps k d h) in
    record {
      some = omega arith;
      inside = omega arith;
      each = λ i f g. state_of-at ps k i d t h (omega arith) (omega arith);
      longest = λ short.
          let stops : to ≡ (get_or ps k d).end = omega arith in
          let more : k + 1 < length ps = place_inside ps (k + 1) to (omega arith) (omega arith) (omega arith) in
          let there : state_of ps to ≡ (get_or ps (k + 1) d).state = state_of-at ps (k + 1) to d t more (omega arith) (omega (arith, next_ends 0 None ps k d d t more)) in
          λ same. next_differs 0 None ps k d t more (sym there ∙ same);
    }

-- none was stale up to an index, and none is up to its piece's end
pub earlier_more : (ps : List Piece) (k from lo : ℕ) (d : Piece) → AreTidy 0 None ps → k < length ps → end_of 0 (take k ps) ≤ lo → (get_or ps k d).state ≢ Stale → ((i : ℕ) → from ≤ i → i < lo → state_of ps i ≢ Stale) → (i : ℕ) → from ≤ i → i < (get_or ps k d).end → state_of ps i ≢ Stale
earlier_more ps k from lo d t h a n earlier i f g =
    ⊎_elim
    (λ below. earlier i f below)
    (λ above. λ e. n (sym (state_of-at ps k i d t h (omega arith) g) ∙ e))
    (cases_lt i lo)
