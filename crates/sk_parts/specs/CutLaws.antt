-- What follows from the definition of the cut.
use Rattle.std.specs.Prelude.{◌≡◌, ℕ, ◌+◌, ◌/◌, ◌%◌, ◌<◌, ◌≤◌, Bool, true, false, nat_lt, if◌then◌else◌}
use Rattle.std.proofs.Common.{arith, refl, ap, ◌∙◌}
use Rattle.std.proofs.lemmas.Bool.{ltb-true, ltb-false}
use Rattle.std.proofs.Math.Nat.{mul-le-mul_right}
use Rattle.std.proofs.lemmas.Nat.{div-add-mod', mod_below}
use Rattle.sk_parts.specs.Cut.{begin_of, cut_of}

-- the first part begins at 0
pub cut_of-first : (n p : ℕ) → (cut_of n p 0).lo ≡ 0
cut_of-first n p = omega arith

-- each part ends where the next one begins
pub cut_of-next : (n p k : ℕ) → (cut_of n p k).hi ≡ (cut_of n p (k + 1)).lo
cut_of-next n p k = by (nat_lt k (n % p)) refl
  where
    by : (test : Bool) → nat_lt k (n % p) ≡ test → begin_of n p k + (if test then n / p + 1 else n / p) ≡ begin_of n p (k + 1)
    by true longer = omega (arith, ltb-true k (n % p) longer)
    by false shorter = omega (arith, ltb-false k (n % p) shorter)

-- the last part ends at n
pub cut_of-last : (n p k : ℕ) → k + 1 ≡ p → (cut_of n p k).hi ≡ n
cut_of-last n p k last = cut_of-next n p k ∙ ap (begin_of n p) last ∙ omega (arith, div-add-mod' n p, mod_below n p (omega arith))

-- no part reaches beyond n
pub cut_of-within : (n p k : ℕ) → k < p → (cut_of n p k).hi ≤ n
cut_of-within n p k below = omega (arith, cut_of-next n p k, div-add-mod' n p, mul-le-mul_right (n / p) below)
