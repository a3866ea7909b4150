-- A walk over the listed copies that changes each of them once.
use Rattle.std.proofs.Common.{◌≡◌, ◌≢◌, ℕ, ◌+◌, ◌<◌, List, length, slice_index, Option, arith, ⊎_elim, sym, subst, ap, ◌∙◌}
use Rattle.std.proofs.lemmas.Bool.{cases_eq}
use Rattle.sk_copy_states.specs.declared.held.Held.{Held}
use Rattle.sk_copy_states.specs.Copies.{AreDistinct}

-- the copies whose turn has not come are as they were
pub listed_ready : (P : Option Held → Type 0) (first now : ℕ → Option Held) (ids : List ℕ) (at : ℕ)
    → AreDistinct ids → at < length ids
    → ((q : ℕ) → ((k : ℕ) → k < at → slice_index ids k ≢ q) → now q ≡ first q)
    → ((k : ℕ) → k < length ids → P (first (slice_index ids k)))
    → P (now (slice_index ids at))
listed_ready P first now ids at distinct inside others ready =
    rw (others (slice_index ids at) (λ k below. distinct k at below inside)) (ready at inside)

-- those whose turn came are changed, after one more turn
pub listed_done : (R : Option Held → Option Held → Type 0) (Q : ℕ → Type 0) (first now next : ℕ → Option Held) (ids : List ℕ) (at : ℕ)
    → AreDistinct ids → at < length ids
    → ((k : ℕ) → k < at → Q (slice_index ids k) → R (first (slice_index ids k)) (now (slice_index ids k)))
    → ((q : ℕ) → ((k : ℕ) → k < at → slice_index ids k ≢ q) → now q ≡ first q)
    → (Q (slice_index ids at) → R (now (slice_index ids at)) (next (slice_index ids at)))
    → ((q : ℕ) → q ≢ slice_index ids at → next q ≡ now q)
    → (k : ℕ) → k < at + 1 → Q (slice_index ids k) → R (first (slice_index ids k)) (next (slice_index ids k))
listed_done R Q first now next ids at distinct inside done others here apart k below which = ⊎_elim
    (λ (e : k ≡ at).
    let same : now (slice_index ids at) ≡ first (slice_index ids at) = others (slice_index ids at) (λ j under. distinct j at under inside) in
    let id : slice_index ids k ≡ slice_index ids at = ap (slice_index ids) e in
    subst (λ (q : ℕ). R (first q) (next q)) (sym id)
    (subst (λ (o : Option Held). R o (next (slice_index ids at))) same (here (subst Q id which))))
    (λ (ne : k ≢ at).
    let under : k < at = omega (arith, ne, below) in
    subst (λ (o : Option Held). R (first (slice_index ids k)) o) (sym (apart (slice_index ids k) (distinct k at under inside))) (done k under which))
    (cases_eq k at)

-- those that are not listed so far are as they were
pub listed_others : (first now next : ℕ → Option Held) (ids : List ℕ) (at : ℕ)
    → ((q : ℕ) → ((k : ℕ) → k < at → slice_index ids k ≢ q) → now q ≡ first q)
    → ((q : ℕ) → q ≢ slice_index ids at → next q ≡ now q)
    → (q : ℕ) → ((k : ℕ) → k < at + 1 → slice_index ids k ≢ q) → next q ≡ first q
listed_others first now next ids at others apart q none =
    apart q (λ e. none at (omega arith) (sym e)) ∙ others q (λ k below. none k (omega (arith, below)))
