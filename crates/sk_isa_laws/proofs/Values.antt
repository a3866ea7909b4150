-- Values that are in the range of their types.
use Rattle.std.proofs.Common.{◌≡◌, ℕ, zero, suc, ◌<◌, ◌≤◌, ◌^◌, Bool, true, false, if◌then◌else◌, List, [], ◌∷◌, All, ℤ, pos, negsuc, Option, Some, None, Ok, Err, IfOk, slice_index_or, neg_ℤ, ◌-ℤ◌, codes, arith, sym, refl, subst}
use Rattle.std.proofs.lemmas.Bool.Decides.{nat_tests}
use Rattle.sk_base.specs.declared.number.Ty.{Ty}
use Rattle.sk_base.specs.declared.number.Ty.TheVariants.{Int, Long}
use Rattle.sk_base.specs.declared.number.Op.{Op}
use Rattle.sk_base.specs.declared.number.Op.TheVariants.{Add, Sub, Mul, Div, Rem, Shl, Shr, And, Or, Xor, Lt, Le, Gt, Ge, Eq, Ne}
use Rattle.sk_base.specs.declared.number.Trap.TheVariants.{Index as OutOfRange}
use Rattle.sk_base.specs.Arithmetic.{InRange, op_of}
use Rattle.sk_base.specs.ArithmeticLaws.{flag-in_range, op_of-in_range, InRange-Long}
use Rattle.sk_base.specs.Shape.{IsShape, cells_of, flat_of}
use Rattle.sk_meaning.specs.Evaluation.{Argument, Value, Place, Whole, Neighbours, named, place_fields, size_fields, field_of, element_at}
use Rattle.sk_meaning.specs.Expressions.{prefix_of, result_type}
use Rattle.sk_names.specs.Bytes.{same_bytes}
use Rattle.sk_tree.specs.declared.tree.ParamKind.{ParamKind}
use Rattle.sk_tree.specs.declared.tree.ParamKind.TheVariants.{Scalar, Index, Proxy, Region}
use Rattle.sk_tree.specs.declared.tree.Un.TheVariants.{Inv}
use Rattle.sk_isa.specs.Soundness.{serves, number_type, is_number, IsOfType, SuitsParam}

-- a value of a type that serves
pub served : (given wanted : Ty) (value : ℤ) → serves given wanted ≡ true → InRange given value → InRange wanted value
served Int Int value h fits = fits
served Int Long value h fits = InRange-Long Int value fits
served Long Int value h fits = cc
served Long Long value h fits = fits

number_by : (small large : Bool) (value : ℤ) → (small ≡ true → InRange Int value) → (large ≡ true → InRange Long value) → large ≡ true
    → InRange (if small then Int else Long) value
number_by true large value int long h = int refl
number_by false large value int long h = long h

pub number-in_range : (number : ℤ) → is_number number ≡ true → InRange (number_type number) number
number-in_range (pos n) h = number_by _ _ (pos n) (λ e. record { sfits = grind (arith, nat_tests) }) (λ e. record { sfits = grind (arith, nat_tests) }) h
number-in_range (negsuc n) h = number_by _ _ (negsuc n) (λ e. record { sfits = grind (arith, nat_tests) }) (λ e. record { sfits = grind (arith, nat_tests) }) h

pub zero-in_range : (ty : Ty) → InRange ty (pos 0)
zero-in_range Int = record { sfits = omega arith }
zero-in_range Long = record { sfits = omega arith }

small-in_range : (n : ℕ) → n ≤ 2 ^ 24 → InRange Int (pos n)
small-in_range n h = record { sfits = omega arith }

-- what an operator gives
pub operator-in_range : (op : Op) (ty : Ty) (a b : ℤ) → InRange ty a → IfOk (op_of op ty a b) (InRange (result_type op ty ty))
operator-in_range Lt ty a b fits = flag-in_range Int _
operator-in_range Le ty a b fits = flag-in_range Int _
operator-in_range Gt ty a b fits = flag-in_range Int _
operator-in_range Ge ty a b fits = flag-in_range Int _
operator-in_range Eq ty a b fits = flag-in_range Int _
operator-in_range Ne ty a b fits = flag-in_range Int _
operator-in_range Add Int a b fits = op_of-in_range Add Int a b fits
operator-in_range Add Long a b fits = op_of-in_range Add Long a b fits
operator-in_range Sub Int a b fits = op_of-in_range Sub Int a b fits
operator-in_range Sub Long a b fits = op_of-in_range Sub Long a b fits
operator-in_range Mul Int a b fits = op_of-in_range Mul Int a b fits
operator-in_range Mul Long a b fits = op_of-in_range Mul Long a b fits
operator-in_range Div Int a b fits = op_of-in_range Div Int a b fits
operator-in_range Div Long a b fits = op_of-in_range Div Long a b fits
operator-in_range Rem Int a b fits = op_of-in_range Rem Int a b fits
operator-in_range Rem Long a b fits = op_of-in_range Rem Long a b fits
operator-in_range And Int a b fits = op_of-in_range And Int a b fits
operator-in_range And Long a b fits = op_of-in_range And Long a b fits
operator-in_range Or Int a b fits = op_of-in_range Or Int a b fits
operator-in_range Or Long a b fits = op_of-in_range Or Long a b fits
operator-in_range Xor Int a b fits = op_of-in_range Xor Int a b fits
operator-in_range Xor Long a b fits = op_of-in_range Xor Long a b fits
operator-in_range Shl ty a b fits = op_of-in_range Shl ty a b fits
operator-in_range Shr ty a b fits = op_of-in_range Shr ty a b fits

-- what a prefix operator gives
inverse-negative : (n : ℕ) → neg_ℤ (negsuc n) -ℤ pos 1 ≡ pos n
inverse-negative n = grind arith

pub inverse-in_range : (ty : Ty) (a : ℤ) → InRange ty a → InRange ty (prefix_of Inv ty a)
inverse-in_range Int (pos zero) fits = record { sfits = omega arith }
inverse-in_range Int (pos (suc n)) fits = record { sfits = omega (arith, fits.sfits) }
inverse-in_range Int (negsuc n) fits =
    subst (λ (z : ℤ). InRange Int z) (sym (inverse-negative n)) (record { sfits = omega (arith, fits.sfits) })
inverse-in_range Long (pos zero) fits = record { sfits = omega arith }
inverse-in_range Long (pos (suc n)) fits = record { sfits = omega (arith, fits.sfits) }
inverse-in_range Long (negsuc n) fits =
    subst (λ (z : ℤ). InRange Long z) (sym (inverse-negative n)) (record { sfits = omega (arith, fits.sfits) })

-- fields are small
named_small : (fields : List (List ℕ)) (numbers : List ℕ) (name : List ℕ) → All (λ number. number ≤ 2 ^ 24) numbers → named fields numbers name ≤ 2 ^ 24
named_small [] numbers name h = omega arith
named_small (field ∷ fields) [] name h = omega arith
named_small (field ∷ fields) (number ∷ numbers) name h =
    pick (same_bytes field name) (named fields numbers name) (named_small fields numbers name (λ k d less. h (suc k) d (omega arith)))
  where
    pick : (test : Bool) (other : ℕ) → other ≤ 2 ^ 24 → (if test then number else other) ≤ 2 ^ 24
    pick true other small = h 0 0 (omega arith)
    pick false other small = small

pub field-in_range : (kind : ParamKind) (argument : Argument) (name : List ℕ) → SuitsParam kind argument → InRange Int (field_of argument name)
field-in_range (Scalar ty) (Value value) name suits = zero-in_range Int
field-in_range (Index dimension) (Place place) name suits =
    small-in_range _ (named_small (place_fields place) place name (λ k d less. let h : slice_index_or place k d < 2 ^ 24 = suits.1 k d less in omega arith))
field-in_range (Proxy dimension ty) (Whole sizes cells) name suits =
    small-in_range _ (named_small (codes "size" ∷ size_fields sizes) (cells_of sizes ∷ sizes) name (each suits.1))
  where
    each : IsShape sizes → All (λ number. number ≤ 2 ^ 24) (cells_of sizes ∷ sizes)
    each shape zero d less = shape.product
    each shape (suc k) d less = shape.each k d (omega arith)
field-in_range (Region dimension ty) (Neighbours overlaps at) name suits =
    small-in_range _ (named_small (codes "oi" ∷ codes "oj" ∷ []) overlaps name (λ k d less. let h : slice_index_or overlaps k d ≤ 65536 = suits.1 k d less in omega arith))
field-in_range kind argument name suits = absurd suits

-- elements are of their type
cell-in_range : (ty : Ty) (cells : List ℤ) (index : ℕ) → All (InRange ty) cells → InRange ty (slice_index_or cells index (pos 0))
cell-in_range ty [] index h = zero-in_range ty
cell-in_range ty (cell ∷ cells) zero h = h 0 cell (omega arith)
cell-in_range ty (cell ∷ cells) (suc index) h = cell-in_range ty cells index (λ k d less. h (suc k) d (omega arith))

pub item-of_type : (dimension : ℕ) (ty : Ty) (argument : Argument) (place : List ℤ) → SuitsParam (Proxy dimension ty) argument → IsOfType ty (element_at argument place)
item-of_type dimension ty (Whole sizes cells) place suits = found (flat_of sizes place)
  where
    found : (index : Option ℕ) → IsOfType ty (elim index [ Some at ↦ Ok (slice_index_or cells at (pos 0)) | None ↦ Err OutOfRange ])
    found (Some at) = cell-in_range ty cells at suits.3
    found None = tt
item-of_type dimension ty argument place suits = absurd suits

pub region-of_type : (dimension : ℕ) (ty : Ty) (argument : Argument) (place : List ℤ) → SuitsParam (Region dimension ty) argument → IsOfType ty (element_at argument place)
region-of_type dimension ty (Neighbours overlaps at) place suits = suits.2 place
region-of_type dimension ty argument place suits = absurd suits
