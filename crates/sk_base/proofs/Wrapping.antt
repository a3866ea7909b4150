-- What wrapping at one width says of another, and what machine operations on 64 bits leave of an exact result.
use Rattle.std.specs.Prelude.{◌≡◌, ℕ, zero, suc, ◌-◌, ◌*◌, ◌/◌, ◌%◌, ◌^◌, ◌<◌, ◌≤◌, ℤ, pos, negsuc, neg_ℤ, ◌+ℤ◌, ◌-ℤ◌, ◌*ℤ◌, ◌≢◌, Ok, bit_and, FitsSigned, unsigned_abs, int_div, int_rem}
use Rattle.std.specs.Int.{Width, w32, w64, w128, int_wrap, int_shl, int_shr, cast_signed, cast_unsigned, int_wrapping_add, int_wrapping_sub, int_wrapping_mul, int_wrapping_div}
use Rattle.std.proofs.lemmas.Nat.{pow_below, and_mask, and_le_r}
use Rattle.std.proofs.Math.Nat.{div-le_self}
use lib.Signed.{mag_rem}
use Rattle.std.proofs.Common.{arith, sym, ◌∙◌, ap, subst, refl, inl, inr}
use Rattle.std.proofs.lemmas.Int.{to_z_pos, to_z-of_z, wrapping_mul-bits, int_wrap-mul_right, SFits-int_wrap, int_wrap_fits, wrapping_add_is, wrapping_sub_is, wrapping_mul_is}
use Rattle.sk_base.specs.declared.number.Ty.{Ty}
use Rattle.sk_base.specs.declared.number.Ty.TheVariants.{Int, Long}
use Rattle.sk_base.specs.Arithmetic.{InRange, wrapped, divided}
use Rattle.sk_base.specs.ArithmeticLaws.{wrapped-in_range, InRange-Long}
use Rattle.std.proofs.lemmas.Bool.{cases_lt}
use mir.ValLaws.{to_z-neg}

-- the bits of a value of 64 bits, read at 32
narrowed : (n : ℕ) → n < 2 ^ 64 → int_wrap w32 (cast_signed w64 n) ≡ cast_signed w32 (n % 2 ^ 32)
unfolding int_wrap
narrowed n h = elim (cases_lt n (2 ^ 63)) [ inl s ↦ ap (int_wrap w32) (to_z_pos w64 n s) | inr s ↦ below s ]
  where
    below : 2 ^ 63 ≤ n → int_wrap w32 (cast_signed w64 n) ≡ cast_signed w32 (n % 2 ^ 32)
    below s =
        let k = 2 ^ 64 - suc n in
        let back : 2 ^ 64 - suc k ≡ n = omega arith in
        let read : cast_signed w64 n ≡ negsuc k = ap (cast_signed w64) (sym back) ∙ to_z-neg w64 k (omega arith) in
        ap (int_wrap w32) read ∙ ap (cast_signed w32) (omega arith)

pub int_wrap-narrower : (z : ℤ) → int_wrap w32 (int_wrap w64 z) ≡ int_wrap w32 z
unfolding int_wrap
int_wrap-narrower (pos n) = narrowed (n % 2 ^ 64) (omega arith) ∙ ap (cast_signed w32) (omega arith)
int_wrap-narrower (negsuc n) = narrowed (2 ^ 64 - 1 - n % 2 ^ 64) (omega arith) ∙ ap (cast_signed w32) (omega arith)

-- 32 bits at the high end, shifted down with their sign
shifted_down : (r : ℕ) → r < 2 ^ 32 → int_shr (cast_signed w64 (r * 2 ^ 32)) 32 ≡ cast_signed w32 r
shifted_down r h = elim (cases_lt r (2 ^ 31)) [ inl s ↦ above s | inr s ↦ below s ]
  where
    above : r < 2 ^ 31 → int_shr (cast_signed w64 (r * 2 ^ 32)) 32 ≡ cast_signed w32 r
    above s =
        let low : r * 2 ^ 32 / 2 ^ 32 ≡ r = omega arith in
        ap (λ z. int_shr z 32) (to_z_pos w64 (r * 2 ^ 32) (omega arith)) ∙ ap pos low ∙ sym (to_z_pos w32 r s)

    below : 2 ^ 31 ≤ r → int_shr (cast_signed w64 (r * 2 ^ 32)) 32 ≡ cast_signed w32 r
    below s =
        let k = 2 ^ 64 - suc (r * 2 ^ 32) in
        let j = 2 ^ 32 - suc r in
        let back : 2 ^ 64 - suc k ≡ r * 2 ^ 32 = omega arith in
        let back_low : 2 ^ 32 - suc j ≡ r = omega arith in
        let low : k / 2 ^ 32 ≡ j = omega arith in
        let read : cast_signed w64 (r * 2 ^ 32) ≡ negsuc k = ap (cast_signed w64) (sym back) ∙ to_z-neg w64 k (omega arith) in
        ap (λ z. int_shr z 32) read ∙ ap negsuc low ∙ sym (to_z-neg w32 j (omega arith)) ∙ ap (cast_signed w32) back_low

-- the bits of a value of 64 bits are a number of 64 bits
bits_below : (z : ℤ) → FitsSigned w64 z → cast_unsigned w64 z < 2 ^ 64
bits_below (pos n) fits = omega (arith, fits.sfits)
bits_below (negsuc n) fits = omega arith

-- a value of 64 bits, shifted up and down by 32, is its low half with that half's sign
pub int_shr-int_shl : (z : ℤ) → FitsSigned w64 z → int_shr (int_shl w64 z 32) 32 ≡ int_wrap w32 z
int_shr-int_shl z fits =
    let n = cast_unsigned w64 z in
    let small : n < 2 ^ 64 = bits_below z fits in
    let moved : n * 2 ^ 32 % 2 ^ 64 ≡ n % 2 ^ 32 * 2 ^ 32 = omega arith in
    ap (λ m. int_shr (cast_signed w64 m) 32) moved ∙ shifted_down (n % 2 ^ 32) (omega arith) ∙ sym (narrowed n small) ∙ ap (int_wrap w32) (to_z-of_z w64 z fits)

-- an exact result that is not too large, cut to 64 bits
cut_to_64 : (z : ℤ) → unsigned_abs z < 2 ^ 64 → cast_signed w64 (cast_unsigned w64 z) ≡ int_wrap w64 z
unfolding int_wrap
cut_to_64 (pos n) small = ap (cast_signed w64) (omega arith)
cut_to_64 (negsuc n) small = ap (cast_signed w64) (omega arith)

-- a shift to the left is a product that wraps
pub int_shl-int_wrap : (z : ℤ) (k : ℕ) → FitsSigned w64 z → k < 64 → int_shl w64 z k ≡ int_wrap w64 (z *ℤ pos (2 ^ k))
int_shl-int_wrap z k fits below =
    let power = pow_below k 64 below in
    wrapping_mul-bits w64 (cast_unsigned w64 z) (2 ^ k) (bits_below z fits) power
    ∙ ap (λ y. int_wrap w64 (y *ℤ cast_signed w64 (2 ^ k))) (to_z-of_z w64 z fits)
    ∙ ap (λ y. int_wrap w64 (z *ℤ y)) (cut_to_64 (pos (2 ^ k)) power)
    ∙ int_wrap-mul_right w64 z (pos (2 ^ k))

abs-neg : (n : ℕ) → unsigned_abs (neg_ℤ (pos n)) ≡ n
abs-neg zero = refl
abs-neg (suc n) = refl

-- a quotient is no larger than its dividend
abs-div : (a b : ℤ) → unsigned_abs (int_div a b) ≤ unsigned_abs a
abs-div (pos a) (pos b) = div-le_self a b
abs-div (pos a) (negsuc b) = omega (arith, abs-neg (a / suc b), div-le_self a (suc b))
abs-div (negsuc a) (pos b) = omega (arith, abs-neg (suc a / b), div-le_self (suc a) b)
abs-div (negsuc a) (negsuc b) = div-le_self (suc a) (suc b)

abs_below : (z : ℤ) → FitsSigned w64 z → unsigned_abs z ≤ 2 ^ 63
abs_below (pos n) fits = omega (arith, fits.sfits)
abs_below (negsuc n) fits = omega (arith, fits.sfits)

pub int_wrapping_div-int_wrap : (a b : ℤ) → FitsSigned w64 a → int_wrapping_div w64 a b ≡ int_wrap w64 (int_div a b)
int_wrapping_div-int_wrap a b fits = cut_to_64 (int_div a b) (omega (arith, abs-div a b, abs_below a fits))

pub FitsSigned-int_rem : (w : Width) (a b : ℤ) → FitsSigned w a → FitsSigned w (int_rem a b)
FitsSigned-int_rem w a b fits = record { sfits = omega (arith, mag_rem a b, fits.sfits) }

-- to wrap as a long first changes nothing
pub wrapped-Long : (ty : Ty) (z : ℤ) → wrapped ty (int_wrap w64 z) ≡ wrapped ty z
wrapped-Long Int z = int_wrap-narrower z
wrapped-Long Long z = int_wrap_fits w64 (int_wrap w64 z) (SFits-int_wrap w64 z)

-- a result in range is stored as it is
pub stored : (ty : Ty) (r z : ℤ) → r ≡ wrapped ty z → cast_signed w64 (cast_unsigned w64 r) ≡ wrapped ty z
stored ty r z e =
    let fits : FitsSigned w64 r = subst (λ (y : ℤ). FitsSigned w64 y) (sym e) (InRange-Long ty (wrapped ty z) (wrapped-in_range ty z)) in
    to_z-of_z w64 r fits ∙ e

pub stored-in_range : (ty : Ty) (r z : ℤ) → r ≡ wrapped ty z → InRange ty (cast_signed w64 (cast_unsigned w64 r))
stored-in_range ty r z e = subst (λ (y : ℤ). InRange ty y) (sym (stored ty r z e)) (wrapped-in_range ty z)

pub wrapped-wrapping_add : (ty : Ty) (a b : ℤ) → FitsSigned w64 a → FitsSigned w64 b → wrapped ty (int_wrapping_add w64 a b) ≡ wrapped ty (a +ℤ b)
wrapped-wrapping_add ty a b f g = ap (wrapped ty) (wrapping_add_is w64 a b f g) ∙ wrapped-Long ty (a +ℤ b)

pub wrapped-wrapping_sub : (ty : Ty) (a b : ℤ) → FitsSigned w64 a → FitsSigned w64 b → wrapped ty (int_wrapping_sub w64 a b) ≡ wrapped ty (a -ℤ b)
wrapped-wrapping_sub ty a b f g = ap (wrapped ty) (wrapping_sub_is w64 a b f g) ∙ wrapped-Long ty (a -ℤ b)

pub wrapped-wrapping_mul : (ty : Ty) (a b : ℤ) → FitsSigned w64 a → FitsSigned w64 b → wrapped ty (int_wrapping_mul w64 a b) ≡ wrapped ty (a *ℤ b)
wrapped-wrapping_mul ty a b f g = ap (wrapped ty) (wrapping_mul_is w64 a b f g) ∙ wrapped-Long ty (a *ℤ b)

pub wrapped-wrapping_div : (ty : Ty) (a b : ℤ) → FitsSigned w64 a → wrapped ty (int_wrapping_div w64 a b) ≡ wrapped ty (int_div a b)
wrapped-wrapping_div ty a b f = ap (wrapped ty) (int_wrapping_div-int_wrap a b f) ∙ wrapped-Long ty (int_div a b)

pub wrapped-int_shl : (ty : Ty) (a : ℤ) (k : ℕ) → FitsSigned w64 a → k < 64 → wrapped ty (int_shl w64 a k) ≡ wrapped ty (a *ℤ pos (2 ^ k))
wrapped-int_shl ty a k f below = ap (wrapped ty) (int_shl-int_wrap a k f below) ∙ wrapped-Long ty (a *ℤ pos (2 ^ k))

masked : (z : ℤ) → FitsSigned w128 z → cast_signed w64 (bit_and (cast_unsigned w128 z) (2 ^ 64 - 1)) ≡ int_wrap w64 z
unfolding int_wrap
masked (pos n) fits = ap (cast_signed w64) (and_mask n 64)
masked (negsuc n) fits = ap (cast_signed w64) (and_mask (2 ^ 128 - suc n) 64 ∙ omega (arith, fits.sfits))

-- the low 64 bits of a value of 128 bits
pub low_half : (z : ℤ) → FitsSigned w128 z → cast_signed w64 (unsigned_abs (cast_signed w128 (bit_and (cast_unsigned w128 z) (2 ^ 64 - 1)))) ≡ int_wrap w64 z
low_half z fits =
    let read = to_z_pos w128 (bit_and (cast_unsigned w128 z) (2 ^ 64 - 1)) (omega (arith, and_le_r (cast_unsigned w128 z) (2 ^ 64 - 1))) in
    ap (λ (x : ℤ). cast_signed w64 (unsigned_abs x)) read ∙ masked z fits

pub divided_by_other : (operation : ℤ → ℤ → ℤ) (ty : Ty) (a b : ℤ) → b ≢ pos 0 → Ok (wrapped ty (operation a b)) ≡ divided operation ty a b
divided_by_other operation ty a (pos zero) other = absurd (other refl)
divided_by_other operation ty a (pos (suc b)) other = refl
divided_by_other operation ty a (negsuc b) other = refl
