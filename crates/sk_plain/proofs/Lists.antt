-- Lists: what stands at a place, what is left, and what holds of all elements.
use Rattle.std.proofs.Common.{◌≡◌, ◌⊎◌, ℕ, zero, suc, ◌+◌, ◌<◌, List, [], ◌∷◌, ◌++◌, length, reverse, All, Some, slice_get, refl, sym, ap, ◌∙◌, subst, arith, append_assoc, inl, inr}
use Rattle.std.proofs.lemmas.Bool.{and_from}
use Rattle.std.proofs.lemmas.List.{reverse-append}
use Rattle.std.proofs.lemmas.List.Elements.{All-nil, All-cons}
use Rattle.std.proofs.lemmas.List.Folds.{list_all-append}
use Rattle.std.specs.Prelude.{slice_set, true, Bool}
use Rattle.std.specs.List.{list_all}

module _ {A : Type 0} where
  -- what a list holds is held by a longer one
  pub slice_get-front : (xs ys : List A) (k : ℕ) (x : A) → slice_get xs k ≡ Some x → slice_get (xs ++ ys) k ≡ Some x
  slice_get-front [] ys k x e = let no : ⊥ = cc in absurd no
  slice_get-front (y ∷ xs) ys zero x e = e
  slice_get-front (y ∷ xs) ys (suc k) x e = slice_get-front xs ys k x e

  pub slice_get-back : (xs ys : List A) (k : ℕ) (y : A) → slice_get ys k ≡ Some y → slice_get (xs ++ ys) (length xs + k) ≡ Some y
  slice_get-back [] ys k y e = let same : k ≡ 0 + k = omega arith in subst (λ n. slice_get ys n ≡ Some y) same e
  slice_get-back (x ∷ xs) ys k y e =
      let same : suc (length xs + k) ≡ length (x ∷ xs) + k = omega arith in
      subst (λ n. slice_get (x ∷ (xs ++ ys)) n ≡ Some y) same (slice_get-back xs ys k y e)

  pub slice_get-seam : (xs : List A) (x : A) (ys : List A) → slice_get (xs ++ x ∷ ys) (length xs) ≡ Some x
  slice_get-seam [] x ys = refl
  slice_get-seam (y ∷ xs) x ys = slice_get-seam xs x ys

  -- the same, where the length is given by a number
  pub slice_get-at : (xs : List A) (x : A) (ys : List A) (k : ℕ) → length xs ≡ k → slice_get (xs ++ x ∷ ys) k ≡ Some x
  slice_get-at xs x ys k e = subst (λ n. slice_get (xs ++ x ∷ ys) n ≡ Some x) e (slice_get-seam xs x ys)

  pub slice_get-in : (xs : List A) (k : ℕ) → k < length xs → (x : A) × (slice_get xs k ≡ Some x)
  slice_get-in [] k low = absurd (omega (arith, low))
  slice_get-in (x ∷ xs) zero low = (x, refl)
  slice_get-in (x ∷ xs) (suc k) low = slice_get-in xs k (omega (arith, low))

  -- an element of a list with one more at its end
  pub slice_get-one_more : (xs : List A) (y : A) (k : ℕ) (x : A) → slice_get (xs ++ y ∷ []) k ≡ Some x → (slice_get xs k ≡ Some x) ⊎ ((y ≡ x) × (k ≡ length xs))
  slice_get-one_more [] y zero x e = let same : y ≡ x = cc in inr (same, refl)
  slice_get-one_more [] y (suc k) x e = let no : ⊥ = cc in absurd no
  slice_get-one_more (z ∷ xs) y zero x e = inl e
  slice_get-one_more (z ∷ xs) y (suc k) x e = further (slice_get-one_more xs y k x e)
    where
      further : (slice_get xs k ≡ Some x) ⊎ ((y ≡ x) × (k ≡ length xs)) → (slice_get xs k ≡ Some x) ⊎ ((y ≡ x) × (suc k ≡ length (z ∷ xs)))
      further (inl e) = inl e
      further (inr p) = inr (p.0, ap suc p.1)

  pub slice_get-set_same : (xs : List A) (i : ℕ) (x : A) → i < length xs → slice_get (slice_set xs i x) i ≡ Some x
  slice_get-set_same [] i x within = absurd (omega (arith, within))
  slice_get-set_same (y ∷ xs) zero x within = refl
  slice_get-set_same (y ∷ xs) (suc i) x within = slice_get-set_same xs i x (omega (arith, within))

  -- an element before the one that is set
  pub slice_get-set_other : (xs : List A) (i j : ℕ) (x : A) → i < j → slice_get (slice_set xs j x) i ≡ slice_get xs i
  slice_get-set_other [] i j x below = refl
  slice_get-set_other (y ∷ xs) i zero x below = absurd (omega (arith, below))
  slice_get-set_other (y ∷ xs) zero (suc j) x below = refl
  slice_get-set_other (y ∷ xs) (suc i) (suc j) x below = slice_get-set_other xs i j x (omega (arith, below))

  -- an element behind the one that is set
  pub slice_get-set_above : (xs : List A) (i j : ℕ) (x : A) → j < i → slice_get (slice_set xs j x) i ≡ slice_get xs i
  slice_get-set_above [] i j x above = refl
  slice_get-set_above (y ∷ xs) zero j x above = absurd (omega (arith, above))
  slice_get-set_above (y ∷ xs) (suc i) zero x above = refl
  slice_get-set_above (y ∷ xs) (suc i) (suc j) x above = slice_get-set_above xs i j x (omega (arith, above))

  -- one more in front, the others having been turned round
  pub reverse-onto : (x : A) (xs ys : List A) → reverse xs ++ x ∷ ys ≡ reverse (x ∷ xs) ++ ys
  reverse-onto x xs ys = sym (ap (λ l. l ++ ys) (reverse-append (x ∷ []) xs) ∙ append_assoc (reverse xs) (x ∷ []) ys)

  pub all_append : (test : A → Bool) (xs ys : List A) → list_all test xs ≡ true → list_all test ys ≡ true → list_all test (xs ++ ys) ≡ true
  all_append test xs ys e f = list_all-append test xs ys ∙ and_from (list_all test xs) (list_all test ys) e f

  pub all_one : (P : A → Type 0) (x : A) → P x → All P (x ∷ [])
  all_one P x h = All-cons P x [] h (All-nil P)

  pub all_two : (P : A → Type 0) (x y : A) → P x → P y → All P (x ∷ y ∷ [])
  all_two P x y h g = All-cons P x (y ∷ []) h (all_one P y g)

  pub all_from : (P : A → Type 0) (xs : List A) → ((k : ℕ) (x : A) → slice_get xs k ≡ Some x → P x) → All P xs
  all_from P [] f = All-nil P
  all_from P (x ∷ xs) f = All-cons P x xs (f 0 x refl) (all_from P xs (λ k y e. f (suc k) y e))
