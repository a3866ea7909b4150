-- What follows from the definitions of arithmetic: results are in range, and what is in range is left as it is.
use Rattle.std.specs.Prelude.{◌≡◌, ℕ, zero, suc, ◌^◌, Bool, true, false, ℤ, pos, negsuc, IfOk, int_div, int_rem}
use Rattle.std.specs.Int.{cast_signed, int_shr}
use Rattle.std.proofs.Common.{arith}
use Rattle.std.proofs.lemmas.Int.{SFits-int_wrap, int_wrap_fits}
use Rattle.sk_base.specs.declared.number.Ty.{Ty}
use Rattle.sk_base.specs.declared.number.Ty.TheVariants.{Int, Long}
use Rattle.sk_base.specs.declared.number.Op.{Op}
use Rattle.sk_base.specs.declared.number.Op.TheVariants.{Add, Sub, Mul, Div, Rem, Shl, Shr, And, Or, Xor, Lt, Le, Gt, Ge, Eq, Ne}
use Rattle.sk_base.specs.Arithmetic.{width_of, InRange, wrapped, divided, places_of, flag, op_of}
use lib.Signed.{mag_shr}
use borrow.Author.Gap.{read_sfits}

pub wrapped-in_range : (ty : Ty) (z : ℤ) → InRange ty (wrapped ty z)
wrapped-in_range ty z = SFits-int_wrap (width_of ty) z

pub wrapped-same : (ty : Ty) (z : ℤ) → InRange ty z → wrapped ty z ≡ z
wrapped-same ty z = int_wrap_fits (width_of ty) z

-- a value in either range is a cell
pub InRange-Long : (ty : Ty) (z : ℤ) → InRange ty z → InRange Long z
InRange-Long Int z fits = record { sfits = omega (arith, fits.sfits) }
InRange-Long Long z fits = fits

-- bits that are read at the type's width
pub read-in_range : (ty : Ty) (n : ℕ) → InRange ty (cast_signed (width_of ty) n)
read-in_range ty n = read_sfits (width_of ty) n

shifted-in_range : (ty : Ty) (a : ℤ) (k : ℕ) → InRange ty a → InRange ty (int_shr a k)
shifted-in_range ty a k fits = record { sfits = omega (arith, mag_shr a (2 ^ k), fits.sfits) }

pub flag-in_range : (ty : Ty) (test : Bool) → InRange ty (flag test)
flag-in_range Int true = record { sfits = omega arith }
flag-in_range Int false = record { sfits = omega arith }
flag-in_range Long true = record { sfits = omega arith }
flag-in_range Long false = record { sfits = omega arith }

pub divided-in_range : (operation : ℤ → ℤ → ℤ) (ty : Ty) (a b : ℤ) → IfOk (divided operation ty a b) (λ c. InRange ty c)
divided-in_range operation ty a (pos zero) = tt
divided-in_range operation ty a (pos (suc b)) = wrapped-in_range ty (operation a (pos (suc b)))
divided-in_range operation ty a (negsuc b) = wrapped-in_range ty (operation a (negsuc b))

-- an operator's value is in the type's range
pub op_of-in_range : (op : Op) (ty : Ty) (a b : ℤ) → InRange ty a → IfOk (op_of op ty a b) (λ c. InRange ty c)
op_of-in_range Add ty a b fits = wrapped-in_range ty _
op_of-in_range Sub ty a b fits = wrapped-in_range ty _
op_of-in_range Mul ty a b fits = wrapped-in_range ty _
op_of-in_range Div ty a b fits = divided-in_range int_div ty a b
op_of-in_range Rem ty a b fits = divided-in_range int_rem ty a b
op_of-in_range Shl ty a b fits = wrapped-in_range ty _
op_of-in_range Shr ty a b fits = shifted-in_range ty a (places_of ty b) fits
op_of-in_range And ty a b fits = read-in_range ty _
op_of-in_range Or ty a b fits = read-in_range ty _
op_of-in_range Xor ty a b fits = read-in_range ty _
op_of-in_range Lt ty a b fits = flag-in_range ty _
op_of-in_range Le ty a b fits = flag-in_range ty _
op_of-in_range Gt ty a b fits = flag-in_range ty _
op_of-in_range Ge ty a b fits = flag-in_range ty _
op_of-in_range Eq ty a b fits = flag-in_range ty _
op_of-in_range Ne ty a b fits = flag-in_range ty _
