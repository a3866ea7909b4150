-- What an instruction makes of the cells at one place.
use Rattle.std.specs.Prelude.{◌≢◌, ℕ, Bool, true, false, List, ℤ, pos, Result, Ok, slice_index_or, unwrap_or}
use Rattle.sk_base.specs.Arithmetic.{InRange, op_of, wrapped}
use Rattle.sk_base.specs.declared.number.Op.{Op}
use Rattle.sk_base.specs.declared.number.Op.TheVariants.{Div, Rem, And, Or, Xor}
use Rattle.sk_base.specs.declared.number.Trap.{Trap}
use Rattle.sk_base.specs.declared.number.Ty.{Ty}
use Rattle.sk_base.specs.declared.number.Ty.TheVariants.{Int}
use Rattle.sk_meaning.specs.Expressions.{prefix_of}
use Rattle.sk_tree.specs.declared.tree.Un.TheVariants as prefix
use Rattle.sk_columns.specs.declared.combine.Action.{Action}
use Rattle.sk_columns.specs.declared.combine.Action.TheVariants as action
use Rattle.sk_columns.specs.declared.level.Level.{Level}
use Rattle.sk_columns.specs.declared.level.Level.TheVariants.{Here, Column, Number}
use Rattle.sk_columns.specs.Known.{Known}

-- the cell of a level at a place, given the level's row, where the place lies in it, and what is known of the slots there
abbrev pub cell_of : Level → (row : List ℤ) → (index : ℕ) → (known : Known) → ℤ
cell_of Here row index known = slice_index_or row index (pos 0)
cell_of (Column slot) row index known = unwrap_or (known.slots slot) (pos 0)
cell_of (Number number) row index known = number

-- Operands at which an operator has its value without a trap, and is evaluated in the same way at both types: a divisor
-- other than 0, and operands of bits in the type's range.
abbrev pub Takes : Op → Ty → (a b : ℤ) → Type 0
Takes Div ty a b = b ≢ pos 0
Takes Rem ty a b = b ≢ pos 0
Takes And ty a b = InRange ty a × InRange ty b
Takes Or ty a b = InRange ty a × InRange ty b
Takes Xor ty a b = InRange ty a × InRange ty b
Takes _ ty a b = Unit {0}

-- the operators that trap at a right operand 0, and those whose operands are read as bits
abbrev pub divides : Op → Bool
divides Div = true
divides Rem = true
divides _ = false

abbrev pub is_bitwise : Op → Bool
is_bitwise And = true
is_bitwise Or = true
is_bitwise Xor = true
is_bitwise _ = false

-- what is made of a cell and, where there are two operands, of another one
abbrev pub made_by : Action → ℤ → ℤ → Result ℤ Trap
made_by (action.Binary op ty) a b = op_of op ty a b
made_by (action.Negate ty) a b = Ok (prefix_of prefix.Neg ty a)
made_by action.Invert a b = Ok (prefix_of prefix.Inv Int a)
made_by action.Deny a b = Ok (prefix_of prefix.Not Int a)
made_by action.Wrap a b = Ok (wrapped Int a)
