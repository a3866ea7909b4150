-- The elements that pass from the front on, and longer fronts.
use Rattle.std.proofs.Common.{◌≡◌, ℕ, zero, suc, ◌<◌, ◌≤◌, inl, inr, Bool, true, false, List, [], ◌∷◌, length, take, refl, arith}
use Rattle.std.proofs.lemmas.Bool.{cases_Bool}
use Rattle.std.proofs.lemmas.List.Folds.{length-prefix_len}
use Rattle.std.specs.List.{list_all, take_while, prefix_len}

pub prefix_len-pass : (p : ℕ → Bool) (x : ℕ) (xs : List ℕ) → p x ≡ true → prefix_len p (x ∷ xs) ≡ suc (prefix_len p xs)
prefix_len-pass p x xs e = rw (e, prefix_len) (omega arith)

pub prefix_len-fail : (p : ℕ → Bool) (x : ℕ) (xs : List ℕ) → p x ≡ false → prefix_len p (x ∷ xs) ≡ 0
prefix_len-fail p x xs e = rw (e, prefix_len) refl

pub length-take_while : (p : ℕ → Bool) (xs : List ℕ) → length (take_while p xs) ≡ prefix_len p xs
length-take_while p xs = length-prefix_len p xs

pub list_all-prefix : (p : ℕ → Bool) (xs : List ℕ) → list_all p (take (prefix_len p xs) xs) ≡ true
list_all-prefix p [] = refl
list_all-prefix p (x ∷ xs) =
    elim (cases_Bool (p x)) [
      | inl passes ↦ rw (prefix_len-pass p x xs passes) (rw passes (list_all-prefix p xs))
      | inr fails ↦ rw (prefix_len-fail p x xs fails) refl
    ]

pub list_all-longer : (p : ℕ → Bool) (xs : List ℕ) (k : ℕ) → prefix_len p xs < k → k ≤ length xs → list_all p (take k xs) ≡ false
list_all-longer p [] k longer within = absurd (omega arith)
list_all-longer p (x ∷ xs) zero longer within = absurd (omega arith)
list_all-longer p (x ∷ xs) (suc k) longer within =
    elim (cases_Bool (p x)) [
      | inl passes ↦
          let e = prefix_len-pass p x xs passes in
          rw passes (list_all-longer p xs k (omega (arith, e)) (omega arith))
      | inr fails ↦ rw fails refl
    ]
