-- Arithmetic of the language: the exact whole-number result, reduced to the type's width.
use Rattle.std.specs.Prelude.{ℕ, zero, suc, ◌^◌, Bool, true, false, not, ◌&&◌, ℤ, pos, negsuc, ◌+ℤ◌, ◌-ℤ◌, ◌*ℤ◌, Result, Ok, Err, int_lt, int_le, int_div, int_rem, unsigned_abs, FitsSigned, if◌then◌else◌}
use Rattle.std.specs.Int.{Width, w32, w64, int_wrap, int_rem_euclid, int_shr, int_bit_and, int_bit_or, int_bit_xor}
use Rattle.sk_base.specs.declared.number.Ty.{Ty}
use Rattle.sk_base.specs.declared.number.Ty.TheVariants.{Int, Long}
use Rattle.sk_base.specs.declared.number.Op.{Op}
use Rattle.sk_base.specs.declared.number.Op.TheVariants.{Add, Sub, Mul, Div, Rem, Shl, Shr, And, Or, Xor, Lt, Le, Gt, Ge, Eq, Ne}
use Rattle.sk_base.specs.declared.number.Trap.{Trap}
use Rattle.sk_base.specs.declared.number.Trap.TheVariants.{Divide}

abbrev pub width_of : Ty → Width
width_of Int = w32
width_of Long = w64

abbrev pub bits_of : Ty → ℕ
bits_of Int = 32
bits_of Long = 64

-- the value is in the type's range
abbrev pub InRange : Ty → ℤ → Type 0
InRange ty value = FitsSigned (width_of ty) value

-- the number in the type's range that differs from the value by a multiple of 2^width
abbrev pub wrapped : Ty → ℤ → ℤ
wrapped ty value = int_wrap (width_of ty) value

-- a quotient or a remainder, unless the divisor is 0
abbrev pub divided : (ℤ → ℤ → ℤ) → Ty → ℤ → ℤ → Result ℤ Trap
divided operation ty a (pos zero) = Err Divide
divided operation ty a (pos (suc b)) = Ok (wrapped ty (operation a (pos (suc b))))
divided operation ty a (negsuc b) = Ok (wrapped ty (operation a (negsuc b)))

-- by how many places a shift goes: its count modulo the width
abbrev pub places_of : Ty → ℤ → ℕ
places_of ty count = unsigned_abs (int_rem_euclid count (pos (bits_of ty)))

-- 1 where a test holds, and else 0
abbrev pub flag : Bool → ℤ
flag test = if test then pos 1 else pos 0

-- the operators whose right operand is a count of places, of either type
abbrev pub is_shift : Op → Bool
is_shift Shl = true
is_shift Shr = true
is_shift _ = false

-- Sums, differences, products and shifts to the left wrap. A quotient is rounded toward zero and wraps too: the least
-- number divided by -1 is itself. A remainder has
-- the dividend's sign. A shift to the right copies the sign bit. A comparison gives 1 or 0.
abbrev pub op_of : Op → Ty → ℤ → ℤ → Result ℤ Trap
op_of Add ty a b = Ok (wrapped ty (a +ℤ b))
op_of Sub ty a b = Ok (wrapped ty (a -ℤ b))
op_of Mul ty a b = Ok (wrapped ty (a *ℤ b))
op_of Div ty a b = divided int_div ty a b
op_of Rem ty a b = divided int_rem ty a b
op_of Shl ty a b = Ok (wrapped ty (a *ℤ pos (2 ^ places_of ty b)))
op_of Shr ty a b = Ok (int_shr a (places_of ty b))
op_of And ty a b = Ok (int_bit_and (width_of ty) a b)
op_of Or ty a b = Ok (int_bit_or (width_of ty) a b)
op_of Xor ty a b = Ok (int_bit_xor (width_of ty) a b)
op_of Lt ty a b = Ok (flag (int_lt a b))
op_of Le ty a b = Ok (flag (int_le a b))
op_of Gt ty a b = Ok (flag (int_lt b a))
op_of Ge ty a b = Ok (flag (int_le b a))
op_of Eq ty a b = Ok (flag (int_le a b && int_le b a))
op_of Ne ty a b = Ok (flag (not (int_le a b && int_le b a)))
