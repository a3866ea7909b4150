-- Parts of a text, one after another.
use Rattle.std.proofs.Common.{◌≡◌, ℕ, zero, suc, ◌+◌, List, [], ◌∷◌, ◌++◌, take, drop, refl, ap, sym, ◌∙◌, arith}

drop-none : (n : ℕ) → drop {A = ℕ} n [] ≡ []
drop-none zero = refl
drop-none (suc n) = refl

pub drop-drop : (xs : List ℕ) (a n : ℕ) → drop n (drop a xs) ≡ drop (a + n) xs
drop-drop xs zero n = let e : 0 + n ≡ n = omega arith in rw e refl
drop-drop [] (suc a) n = drop-none n ∙ sym (drop-none (suc a + n))
drop-drop (x ∷ xs) (suc a) n = let e : suc a + n ≡ suc (a + n) = omega arith in rw e (drop-drop xs a n)

pub take-more : (text : List ℕ) (at n : ℕ) → take at text ++ take n (drop at text) ≡ take (at + n) text
take-more text zero n = let e : 0 + n ≡ n = omega arith in rw e refl
take-more [] (suc at) n = let e : suc at + n ≡ suc (at + n) = omega arith in rw e (take-none n)
  where
    take-none : (n : ℕ) → take {A = ℕ} n [] ≡ []
    take-none zero = refl
    take-none (suc n) = refl
take-more (x ∷ text) (suc at) n = let e : suc at + n ≡ suc (at + n) = omega arith in rw e (ap (λ xs. x ∷ xs) (take-more text at n))
