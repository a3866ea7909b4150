-- Parts of lists.
use Rattle.std.proofs.Common.{◌≡◌, ℕ, zero, suc, ◌+◌, List, [], ◌∷◌, length, map, take, drop, refl, ap, ◌∙◌, arith}

module _ {A B : Type 0} (f : A → B) where
  pub take-map : (n : ℕ) (xs : List A) → take n (map f xs) ≡ map f (take n xs)
  take-map zero xs = refl
  take-map (suc n) [] = refl
  take-map (suc n) (x ∷ xs) = ap (λ l. f x ∷ l) (take-map n xs)

  pub drop-map : (n : ℕ) (xs : List A) → drop n (map f xs) ≡ map f (drop n xs)
  drop-map zero xs = refl
  drop-map (suc n) [] = refl
  drop-map (suc n) (x ∷ xs) = drop-map n xs

pub size-dropped : {A : Type 0} → (n m : ℕ) (xs : List A) → length xs ≡ n + m → length (drop n xs) ≡ m
size-dropped zero m xs e = e ∙ omega arith
size-dropped (suc n) m [] e = absurd (omega (arith, e))
size-dropped (suc n) m (x ∷ xs) e = size-dropped n m xs (omega (arith, e))
