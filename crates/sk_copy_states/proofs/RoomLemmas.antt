-- Room that is made in one copy after another.
use Rattle.std.proofs.Common.{◌≡◌, ◌≢◌, ℕ, ◌+◌, ◌<◌, List, slice_index, Option, Some, None, arith, ⊎_elim, sym, subst, ◌∙◌, ap}
use Rattle.std.proofs.lemmas.Bool.{cases_eq}
use Rattle.sk_copy_states.specs.declared.held.Held.{Held}
use Rattle.sk_copy_states.specs.Copies.{KeepsStates, HasRoomIn, pins_in}

pub kept-trans : (o p q : Option Held) → KeepsStates o p → KeepsStates p q → KeepsStates o q
kept-trans o p q x y = record {
  home = y.home ∙ x.home;
  expected = y.expected ∙ x.expected;
  fit = λ fit. y.fit (x.fit fit);
  room = omega (arith, x.room, y.room);
  states = λ i. y.states i ∙ x.states i;
}

-- one turn of making room
pub room_kept : (n : ℕ) (o p : Option Held) → KeepsStates o p → HasRoomIn n o → HasRoomIn n p
room_kept n o None k has = tt
room_kept n None (Some p) k has = let h = k.home in cc
room_kept n (Some o) (Some p) k has = omega (arith, has, k.room, k.expected)

pub reserved-done : (now next : ℕ → Option Held) (ids : List ℕ) (at n : ℕ) → KeepsStates (now (slice_index ids at)) (next (slice_index ids at))
    → ((q : ℕ) → q ≢ slice_index ids at → next q ≡ now q)
    → ((k : ℕ) → k < at → HasRoomIn n (now (slice_index ids k))) → HasRoomIn n (next (slice_index ids at))
    → (k : ℕ) → k < at + 1 → HasRoomIn n (next (slice_index ids k))
reserved-done now next ids at n here others done made k below = ⊎_elim
    (λ (e : k ≡ at). subst (λ (x : ℕ). HasRoomIn n (next (slice_index ids x))) (sym e) made)
    (λ (ne : k ≢ at). ⊎_elim
    (λ (same : slice_index ids k ≡ slice_index ids at). subst (λ (x : ℕ). HasRoomIn n (next x)) (sym same) made)
    (λ (apart : slice_index ids k ≢ slice_index ids at). subst (λ (o : Option Held). HasRoomIn n o) (sym (others (slice_index ids k) apart)) (done k (omega (arith, ne, below))))
    (cases_eq (slice_index ids k) (slice_index ids at)))
    (cases_eq k at)

pub reserved-all : (first now next : ℕ → Option Held) (id : ℕ) → ((q : ℕ) → KeepsStates (first q) (now q)) → KeepsStates (now id) (next id)
    → ((q : ℕ) → q ≢ id → next q ≡ now q) → (q : ℕ) → KeepsStates (first q) (next q)
reserved-all first now next id before here others q = ⊎_elim
    (λ (e : q ≡ id). subst (λ (x : ℕ). KeepsStates (first x) (next x)) (sym e) (kept-trans (first id) (now id) (next id) (before id) here))
    (λ (ne : q ≢ id). subst (λ (o : Option Held). KeepsStates (first q) o) (sym (others q ne)) (before q))
    (cases_eq q id)

pub reserved-pins : (first now next : ℕ → Option Held) (id : ℕ) → ((q : ℕ) → pins_in (now q) ≡ pins_in (first q)) → pins_in (next id) ≡ pins_in (now id)
    → ((q : ℕ) → q ≢ id → next q ≡ now q) → (q : ℕ) → pins_in (next q) ≡ pins_in (first q)
reserved-pins first now next id before here others q = ⊎_elim
    (λ (e : q ≡ id). subst (λ (x : ℕ). pins_in (next x) ≡ pins_in (first x)) (sym e) (here ∙ before id))
    (λ (ne : q ≢ id). ap pins_in (others q ne) ∙ before q)
    (cases_eq q id)
