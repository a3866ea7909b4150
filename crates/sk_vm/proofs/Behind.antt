-- Slots behind that of an index, which holds 0.
use Rattle.std.proofs.Common.{◌≡◌, inl, inr, ℕ, zero, suc, ◌+◌, ◌-◌, ◌<◌, nat_lt, List, ◌∷◌, length, take, drop, replicate, ℤ, pos, Option, Some, slice_get, refl, sym, ap, ◌∙◌, arith}
use Rattle.std.proofs.lemmas.Bool.{cases_lt, cond-false, cond-true, le-ltb, lt-ltb}
use Rattle.sk_vm.specs.Lent.{begun_behind}

-- so many slots that hold 0, and others
abbrev pub behind_zeros : (indices : ℕ) → (slots : List ℤ) → List ℤ
behind_zeros zero slots = slots
behind_zeros (suc fewer) slots = pos 0 ∷ behind_zeros fewer slots

pub behind-length : (indices : ℕ) (slots : List ℤ) → length (behind_zeros indices slots) ≡ indices + length slots
behind-length zero slots = let none : length slots ≡ 0 + length slots = omega arith in none
behind-length (suc fewer) slots = let before = behind-length fewer slots in omega (arith, before)

pub behind-first : (indices count : ℕ) (slots : List ℤ) → take indices (take (indices + count) (behind_zeros indices slots)) ≡ replicate indices (pos 0)
behind-first zero count slots = refl
behind-first (suc fewer) count slots =
    let more : suc fewer + count ≡ suc (fewer + count) = omega arith in
    ap (λ (n : ℕ). take (suc fewer) (take n (behind_zeros (suc fewer) slots))) more
    ∙ ap (λ (xs : List ℤ). pos 0 ∷ xs) (behind-first fewer count slots)

pub behind-others : (indices count : ℕ) (slots : List ℤ) → drop indices (take (indices + count) (behind_zeros indices slots)) ≡ take count slots
behind-others zero count slots = let none : 0 + count ≡ count = omega arith in ap (λ (n : ℕ). take n slots) none
behind-others (suc fewer) count slots =
    let more : suc fewer + count ≡ suc (fewer + count) = omega arith in
    ap (λ (n : ℕ). drop (suc fewer) (take n (behind_zeros (suc fewer) slots))) more ∙ behind-others fewer count slots

pub behind-drop : (indices count : ℕ) (slots : List ℤ) → drop (indices + count) (behind_zeros indices slots) ≡ drop count slots
behind-drop zero count slots = let none : 0 + count ≡ count = omega arith in ap (λ (n : ℕ). drop n slots) none
behind-drop (suc fewer) count slots =
    let more : suc fewer + count ≡ suc (fewer + count) = omega arith in
    ap (λ (n : ℕ). drop n (behind_zeros (suc fewer) slots)) more ∙ behind-drop fewer count slots

behind-get : (indices slot : ℕ) (slots : List ℤ) → slice_get (behind_zeros indices slots) (indices + slot) ≡ slice_get slots slot
behind-get zero slot slots = let none : 0 + slot ≡ slot = omega arith in ap (λ (n : ℕ). slice_get slots n) none
behind-get (suc fewer) slot slots =
    let more : suc fewer + slot ≡ suc (fewer + slot) = omega arith in
    ap (λ (n : ℕ). slice_get (behind_zeros (suc fewer) slots) n) more ∙ behind-get fewer slot slots

behind-zero : (indices slot : ℕ) (slots : List ℤ) → slot < indices → slice_get (behind_zeros indices slots) slot ≡ Some (pos 0)
behind-zero zero slot slots less = absurd (omega arith)
behind-zero (suc fewer) zero slots less = refl
behind-zero (suc fewer) (suc slot) slots less = behind-zero fewer slot slots (omega arith)

-- slots have what is known of them, with those of indices
pub behind-have : (indices : ℕ) (known : ℕ → Option ℤ) (slots : List ℤ)
    → ((slot : ℕ) (number : ℤ) → known slot ≡ Some number → slice_get slots slot ≡ Some number)
    → (slot : ℕ) (number : ℤ) → begun_behind indices known slot ≡ Some number → slice_get (behind_zeros indices slots) slot ≡ Some number
behind-have indices known slots have slot number is = elim (cases_lt slot indices) [
  | inl less ↦ behind-zero indices slot slots less ∙ sym (cond-true (nat_lt slot indices) _ _ (lt-ltb slot indices less)) ∙ is
  | inr upto ↦
      let back : indices + (slot - indices) ≡ slot = omega arith in
      ap (λ (n : ℕ). slice_get (behind_zeros indices slots) n) (sym back) ∙ behind-get indices (slot - indices) slots
      ∙ have (slot - indices) number (sym (cond-false (nat_lt slot indices) _ _ (le-ltb slot indices upto)) ∙ is)
]
