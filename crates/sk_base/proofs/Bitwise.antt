-- `&`, `|` and `^` of two values of 32 bits, taken at 64 bits.
use Rattle.std.specs.Prelude.{◌≡◌, ℕ, suc, ◌+◌, ◌-◌, ◌*◌, ◌^◌, ◌<◌, Bool, true, false, ◌&&◌, ◌||◌, not, ℤ, pos, negsuc, FitsSigned, bit_and, bit_or, bit_xor}
use Rattle.std.specs.Int.{w32, w64, cast_signed, cast_unsigned, int_bit_and, int_bit_or, int_bit_xor}
use Rattle.std.proofs.Common.{arith, refl, ap, sym, ◌∙◌}
use Rattle.std.proofs.lemmas.Int.{to_z_pos}
use Rattle.std.proofs.lemmas.Nat.{and_block, or_block, xor_block, and_le_l, or_lt, xor_lt}
use Rattle.sk_base.specs.declared.number.Ty.{Ty}
use Rattle.sk_base.specs.declared.number.Ty.TheVariants.{Int, Long}
use Rattle.sk_base.specs.Arithmetic.{width_of, InRange}
use mir.ValLaws.{to_z-neg}

-- the sign of a value, and its 31 low bits
abbrev sign : ℤ → Bool
sign (pos n) = false
sign (negsuc n) = true

abbrev low : ℤ → ℕ
low (pos n) = n
low (negsuc n) = 2 ^ 31 - suc n

-- the bits above those 31, at 64 bits and at 32
abbrev high64 : Bool → ℕ
high64 false = 0
high64 true = 2 ^ 33 - 1

abbrev high32 : Bool → ℕ
high32 false = 0
high32 true = 1

low_below : (z : ℤ) → FitsSigned w32 z → low z < 2 ^ 31
low_below (pos n) fits = omega (arith, fits.sfits)
low_below (negsuc n) fits = omega arith

split64 : (z : ℤ) → FitsSigned w32 z → cast_unsigned w64 z ≡ high64 (sign z) * 2 ^ 31 + low z
split64 (pos n) fits = omega arith
split64 (negsuc n) fits = omega (arith, fits.sfits)

split32 : (z : ℤ) → FitsSigned w32 z → cast_unsigned w32 z ≡ high32 (sign z) * 2 ^ 31 + low z
split32 (pos n) fits = omega arith
split32 (negsuc n) fits = omega (arith, fits.sfits)

-- the two readings of a sign and 31 bits are one number
joined : (s : Bool) (t : ℕ) → t < 2 ^ 31 → cast_signed w64 (high64 s * 2 ^ 31 + t) ≡ cast_signed w32 (high32 s * 2 ^ 31 + t)
joined false t below =
    ap (cast_signed w64) (omega arith) ∙ to_z_pos w64 t (omega arith) ∙ sym (to_z_pos w32 t below) ∙ ap (cast_signed w32) (omega arith)
joined true t below =
    let k = 2 ^ 31 - suc t in
    ap (cast_signed w64) (omega arith) ∙ to_z-neg w64 k (omega arith) ∙ sym (to_z-neg w32 k (omega arith)) ∙ ap (cast_signed w32) (omega arith)

-- an operation that works bit by bit
record IsBitwise (operation : ℕ → ℕ → ℕ) (of_signs : Bool → Bool → Bool) : Type 0 where
  blocks : (a b r s : ℕ) → r < 2 ^ 31 → s < 2 ^ 31 → operation (a * 2 ^ 31 + r) (b * 2 ^ 31 + s) ≡ operation a b * 2 ^ 31 + operation r s
  below : (r s : ℕ) → r < 2 ^ 31 → s < 2 ^ 31 → operation r s < 2 ^ 31
  at_64 : (p q : Bool) → operation (high64 p) (high64 q) ≡ high64 (of_signs p q)
  at_32 : (p q : Bool) → operation (high32 p) (high32 q) ≡ high32 (of_signs p q)

same_result : (operation : ℕ → ℕ → ℕ) (of_signs : Bool → Bool → Bool) → IsBitwise operation of_signs → (a b : ℤ) → FitsSigned w32 a → FitsSigned w32 b → cast_signed w64 (operation (cast_unsigned w64 a) (cast_unsigned w64 b)) ≡ cast_signed w32 (operation (cast_unsigned w32 a) (cast_unsigned w32 b))
same_result operation of_signs is a b f g =
    let s = of_signs (sign a) (sign b) in
    let t = operation (low a) (low b) in
    let small : t < 2 ^ 31 = is.below (low a) (low b) (low_below a f) (low_below b g) in
    let wide : operation (cast_unsigned w64 a) (cast_unsigned w64 b) ≡ high64 s * 2 ^ 31 + t =
    ap (λ x. operation x (cast_unsigned w64 b)) (split64 a f) ∙ ap (λ y. operation (high64 (sign a) * 2 ^ 31 + low a) y) (split64 b g)
    ∙ is.blocks (high64 (sign a)) (high64 (sign b)) (low a) (low b) (low_below a f) (low_below b g)
    ∙ ap (λ h. h * 2 ^ 31 + t) (is.at_64 (sign a) (sign b)) in
    let narrow : operation (cast_unsigned w32 a) (cast_unsigned w32 b) ≡ high32 s * 2 ^ 31 + t =
    ap (λ x. operation x (cast_unsigned w32 b)) (split32 a f) ∙ ap (λ y. operation (high32 (sign a) * 2 ^ 31 + low a) y) (split32 b g)
    ∙ is.blocks (high32 (sign a)) (high32 (sign b)) (low a) (low b) (low_below a f) (low_below b g)
    ∙ ap (λ h. h * 2 ^ 31 + t) (is.at_32 (sign a) (sign b)) in
    ap (cast_signed w64) wide ∙ joined s t small ∙ sym (ap (cast_signed w32) narrow)

abbrev xor_signs : Bool → Bool → Bool
xor_signs false q = q
xor_signs true q = not q

and_signs64 : (p q : Bool) → bit_and (high64 p) (high64 q) ≡ high64 ((◌&&◌) p q)
and_signs64 false false = refl
and_signs64 false true = refl
and_signs64 true false = refl
and_signs64 true true = refl

and_signs32 : (p q : Bool) → bit_and (high32 p) (high32 q) ≡ high32 ((◌&&◌) p q)
and_signs32 false false = refl
and_signs32 false true = refl
and_signs32 true false = refl
and_signs32 true true = refl

int_bit_and-wider : (a b : ℤ) → FitsSigned w32 a → FitsSigned w32 b → int_bit_and w64 a b ≡ int_bit_and w32 a b
int_bit_and-wider a b f g = same_result bit_and (◌&&◌) (record { blocks = and_block 31; below = λ r s f g. omega (arith, and_le_l r s); at_64 = and_signs64; at_32 = and_signs32 }) a b f g

or_signs64 : (p q : Bool) → bit_or (high64 p) (high64 q) ≡ high64 ((◌||◌) p q)
or_signs64 false false = refl
or_signs64 false true = refl
or_signs64 true false = refl
or_signs64 true true = refl

or_signs32 : (p q : Bool) → bit_or (high32 p) (high32 q) ≡ high32 ((◌||◌) p q)
or_signs32 false false = refl
or_signs32 false true = refl
or_signs32 true false = refl
or_signs32 true true = refl

int_bit_or-wider : (a b : ℤ) → FitsSigned w32 a → FitsSigned w32 b → int_bit_or w64 a b ≡ int_bit_or w32 a b
int_bit_or-wider a b f g = same_result bit_or (◌||◌) (record { blocks = or_block 31; below = or_lt 31; at_64 = or_signs64; at_32 = or_signs32 }) a b f g

xor_signs64 : (p q : Bool) → bit_xor (high64 p) (high64 q) ≡ high64 (xor_signs p q)
xor_signs64 false false = refl
xor_signs64 false true = refl
xor_signs64 true false = refl
xor_signs64 true true = refl

xor_signs32 : (p q : Bool) → bit_xor (high32 p) (high32 q) ≡ high32 (xor_signs p q)
xor_signs32 false false = refl
xor_signs32 false true = refl
xor_signs32 true false = refl
xor_signs32 true true = refl

int_bit_xor-wider : (a b : ℤ) → FitsSigned w32 a → FitsSigned w32 b → int_bit_xor w64 a b ≡ int_bit_xor w32 a b
int_bit_xor-wider a b f g = same_result bit_xor xor_signs (record { blocks = xor_block 31; below = xor_lt 31; at_64 = xor_signs64; at_32 = xor_signs32 }) a b f g

pub int_bit_and-Long : (ty : Ty) (a b : ℤ) → InRange ty a → InRange ty b → int_bit_and w64 a b ≡ int_bit_and (width_of ty) a b
int_bit_and-Long Int a b f g = int_bit_and-wider a b f g
int_bit_and-Long Long a b f g = refl

pub int_bit_or-Long : (ty : Ty) (a b : ℤ) → InRange ty a → InRange ty b → int_bit_or w64 a b ≡ int_bit_or (width_of ty) a b
int_bit_or-Long Int a b f g = int_bit_or-wider a b f g
int_bit_or-Long Long a b f g = refl

pub int_bit_xor-Long : (ty : Ty) (a b : ℤ) → InRange ty a → InRange ty b → int_bit_xor w64 a b ≡ int_bit_xor (width_of ty) a b
int_bit_xor-Long Int a b f g = int_bit_xor-wider a b f g
int_bit_xor-Long Long a b f g = refl
