-- Quotients and remainders of 32 bits, and bits of numbers in range.
use Rattle.std.specs.Prelude.{◌≡◌, ℕ, zero, suc, ◌/◌, ◌^◌, ◌<◌, ◌≤◌, ℤ, pos, negsuc, neg_ℤ, unsigned_abs, FitsSigned, int_div, int_rem}
use Rattle.std.specs.Int.{w32, w64, int_wrap, cast_signed, cast_unsigned, int_wrapping_div}
use Rattle.std.proofs.Math.Nat.{div-le_self}
use Rattle.std.proofs.Common.{arith, ap, refl}
use Rattle.std.proofs.lemmas.Int.{int_wrap_fits}
use Rattle.sk_base.specs.declared.number.Ty.{Ty}
use Rattle.sk_base.specs.declared.number.Ty.TheVariants.{Int, Long}
use Rattle.sk_base.specs.Arithmetic.{wrapped}
use Rattle.sk_base.specs.ArithmeticLaws.{InRange-Long}
use Rattle.sk_base.proofs.Wrapping.{FitsSigned-int_rem}

cut_to_32 : (z : ℤ) → unsigned_abs z < 2 ^ 32 → cast_signed w32 (cast_unsigned w32 z) ≡ int_wrap w32 z
unfolding int_wrap
cut_to_32 (pos n) small = ap (cast_signed w32) (omega arith)
cut_to_32 (negsuc n) small = ap (cast_signed w32) (omega arith)

abs-neg : (n : ℕ) → unsigned_abs (neg_ℤ (pos n)) ≡ n
abs-neg zero = refl
abs-neg (suc n) = refl

-- a quotient is no larger than its dividend
abs-div : (a b : ℤ) → unsigned_abs (int_div a b) ≤ unsigned_abs a
abs-div (pos a) (pos b) = div-le_self a b
abs-div (pos a) (negsuc b) = omega (arith, abs-neg (a / suc b), div-le_self a (suc b))
abs-div (negsuc a) (pos b) = omega (arith, abs-neg (suc a / b), div-le_self (suc a) b)
abs-div (negsuc a) (negsuc b) = div-le_self (suc a) (suc b)

abs_below : (z : ℤ) → FitsSigned w32 z → unsigned_abs z ≤ 2 ^ 31
abs_below (pos n) fits = omega (arith, fits.sfits)
abs_below (negsuc n) fits = omega (arith, fits.sfits)

-- a quotient of 32 bits wraps as that of whole numbers
pub narrow_div : (a b : ℤ) → FitsSigned w32 a → int_wrapping_div w32 a b ≡ wrapped Int (int_div a b)
narrow_div a b fits = cut_to_32 (int_div a b) (omega (arith, abs-div a b, abs_below a fits))

-- a remainder of 32 bits is a number of each type
pub narrow_rem : (ty : Ty) (a b : ℤ) → FitsSigned w32 a → wrapped ty (int_rem a b) ≡ int_rem a b
narrow_rem Int a b fits = int_wrap_fits w32 (int_rem a b) (FitsSigned-int_rem w32 a b fits)
narrow_rem Long a b fits = int_wrap_fits w64 (int_rem a b) (InRange-Long Int (int_rem a b) (FitsSigned-int_rem w32 a b fits))
