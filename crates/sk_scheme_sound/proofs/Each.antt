-- What holds of each element of a list at its address, of which the first one's is given.
use Rattle.std.proofs.Common.{◌≡◌, ℕ, zero, suc, ◌+◌, ◌<◌, ◌≤◌, List, [], ◌∷◌, ◌++◌, length, Some, slice_get, refl, subst, arith}
use Rattle.std.proofs.lemmas.Bool.{and_from}
use Rattle.std.specs.Prelude.{true, Bool}
use Rattle.std.specs.List.{list_all}

module _ {A : Type 0} where
  abbrev pub Each : (ℕ → A → Type 0) → ℕ → List A → Type 0
  Each P at [] = Unit {0}
  Each P at (x ∷ xs) = P at x × Each P (suc at) xs

  pub each_append : (P : ℕ → A → Type 0) (at mid : ℕ) (a b : List A) → at + length a ≡ mid → Each P at a → Each P mid b → Each P at (a ++ b)
  each_append P at mid [] b e f g = let same : mid ≡ at = omega (arith, e) in subst (λ n. Each P n b) same g
  each_append P at mid (x ∷ a) b e f g = (f.0, each_append P (suc at) mid a b (omega (arith, e)) f.1 g)

  pub each_front : (P : ℕ → A → Type 0) (at : ℕ) (a b : List A) → Each P at (a ++ b) → Each P at a
  each_front P at [] b h = tt
  each_front P at (x ∷ a) b h = (h.0, each_front P (suc at) a b h.1)

  pub each_back : (P : ℕ → A → Type 0) (at mid : ℕ) (a b : List A) → at + length a ≡ mid → Each P at (a ++ b) → Each P mid b
  each_back P at mid [] b e h = let same : at ≡ mid = omega (arith, e) in subst (λ n. Each P n b) same h
  each_back P at mid (x ∷ a) b e h = each_back P (suc at) mid a b (omega (arith, e)) h.1

  pub each_map : (P Q : ℕ → A → Type 0) (at : ℕ) (xs : List A) → ((k : ℕ) (x : A) → at ≤ k → k < at + length xs → P k x → Q k x) → Each P at xs → Each Q at xs
  each_map P Q at [] f h = tt
  each_map P Q at (x ∷ xs) f h =
      (f at x (omega arith) (omega arith) h.0, each_map P Q (suc at) xs (λ k y low high. f k y (omega (arith, low)) (omega (arith, high))) h.1)

  pub each_at : (P : ℕ → A → Type 0) (at k : ℕ) (x : A) (xs : List A) → Each P at xs → slice_get xs k ≡ Some x → P (at + k) x
  each_at P at k x [] h e = let no : ⊥ = cc in absurd no
  each_at P at zero x (y ∷ xs) h e =
      let same : y ≡ x = cc in
      let here : at ≡ at + 0 = omega arith in
      subst (λ n. P n x) here (subst (λ z. P at z) same h.0)
  each_at P at (suc k) x (y ∷ xs) h e =
      let there : suc at + k ≡ at + suc k = omega arith in
      subst (λ n. P n x) there (each_at P (suc at) k x xs h.1 e)

  pub each_from : (P : ℕ → A → Type 0) (at : ℕ) (xs : List A) → ((k : ℕ) (x : A) → slice_get xs k ≡ Some x → P (at + k) x) → Each P at xs
  each_from P at [] f = tt
  each_from P at (x ∷ xs) f =
      let here : at + 0 ≡ at = omega arith in (
        subst (λ n. P n x) here (f 0 x refl),
        each_from P (suc at) xs (λ k y e. let there : at + suc k ≡ suc at + k = omega arith in subst (λ n. P n y) there (f (suc k) y e)),
      )

  pub each_all : (test : A → Bool) (at : ℕ) (xs : List A) → Each (λ k x. test x ≡ true) at xs → list_all test xs ≡ true
  each_all test at [] h = refl
  each_all test at (x ∷ xs) h = and_from (test x) (list_all test xs) h.0 (each_all test (suc at) xs h.1)
