-- How two cells are joined.
use Rattle.std.specs.Prelude.{◌≡◌, ℕ, suc, ◌<◌, Bool, true, false, List, ℤ, pos, Option, Some, None, Result, Ok, slice_index_or}
use Rattle.sk_base.specs.Arithmetic.{InRange}
use Rattle.sk_base.specs.declared.number.Trap.{Trap}
use Rattle.sk_formula.specs.Elements.{folded}
use Rattle.sk_formula.specs.Skeletons.{fold_value}
use Rattle.sk_kernel.specs.Kernels.{IsJoined, Meaning}
use Rattle.sk_seq.specs.declared.joining.Joining.{Joining}
use Rattle.sk_seq.specs.declared.joining.Joining.TheVariants.{ByKernel, ByOperator}
use Rattle.sk_tree.specs.Operators.{operator_value}

-- it gives what the instance's operator gives
abbrev pub JoinsAs : Joining → Meaning → Type 0
JoinsAs ByKernel meaning = Unit {0}
JoinsAs (ByOperator operator) meaning =
    (meaning.operator ≡ Some operator.ty)
    × ((a b : ℤ) → InRange operator.ty a → InRange operator.ty b → meaning.join a b ≡ Ok (operator_value operator a b))

-- what stands in front of a fold, if anything, is of the operator's type
abbrev pub MayStand : Meaning → Option ℤ → Type 0
MayStand meaning None = Unit {0}
MayStand meaning (Some front) = IsJoined meaning front

-- the first so many cells are of the operator's type
abbrev pub AreTaken : Meaning → (cells : List ℤ) → (count : ℕ) → Type 0
AreTaken meaning cells count = (k : ℕ) → k < count → IsJoined meaning (slice_index_or cells k (pos 0))

-- a cell of a list, as an operand
abbrev pub cell_in : (cells : List ℤ) → ℕ → Result ℤ Trap
cell_in cells k = Ok (slice_index_or cells k (pos 0))

-- the fold of a list's cells up to one, or before one
abbrev pub fold_upto : Meaning → (front : Option ℤ) → (cells : List ℤ) → ℕ → Result ℤ Trap
fold_upto meaning front cells k = fold_value (folded meaning.join (cell_in cells) front 0 (suc k))

abbrev pub fold_before : Meaning → (front : Option ℤ) → (cells : List ℤ) → ℕ → Result ℤ Trap
fold_before meaning front cells k = fold_value (folded meaning.join (cell_in cells) front 0 k)

abbrev pub fold_in_scan : (exclusive : Bool) → Meaning → (front : Option ℤ) → (cells : List ℤ) → ℕ → Result ℤ Trap
fold_in_scan true = fold_before
fold_in_scan false = fold_upto
