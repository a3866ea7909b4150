-- What is left of a list at a place, and one more behind it.
use Rattle.std.proofs.Common.{◌≡◌, ℕ, zero, suc, ◌+◌, ◌<◌, ◌≤◌, arith, List, [], ◌∷◌, ◌++◌, length, drop, get_or, sym, ap, ◌∙◌, append_assoc, add-one}
use Rattle.std.proofs.Math.Seq.{drop-cons}
use denote.Param.Weighed.{most}

module _ {A : Type 0} where
  -- the first of those that are left
  pub left_cons : (xs : List A) (i : ℕ) (x : A) → i < length xs → x ≡ get_or xs i x → drop i xs ≡ x ∷ drop (i + 1) xs
  left_cons xs i x within is =
      drop-cons xs i x within ∙ ap (λ first. first ∷ drop (suc i) xs) (sym is) ∙ ap (λ n. x ∷ drop n xs) (sym (add-one i))

  -- one more, and what is left
  pub appended_more : (xs more rest left : List A) (x : A) → more ≡ xs ++ x ∷ [] → left ≡ rest → more ++ left ≡ xs ++ x ∷ rest
  appended_more xs more rest left x appended same =
      ap (λ l. l ++ left) appended ∙ append_assoc xs (x ∷ []) left ∙ ap (λ l. xs ++ x ∷ l) same

  -- those that are left are no larger
  pub most_left : (μ : A → ℕ) (n : ℕ) (xs : List A) → most μ (drop n xs) ≤ most μ xs
  most_left μ zero xs = omega arith
  most_left μ (suc n) [] = omega arith
  most_left μ (suc n) (x ∷ xs) = let left : most μ (drop n xs) ≤ most μ xs = most_left μ n xs in omega (arith, left)
