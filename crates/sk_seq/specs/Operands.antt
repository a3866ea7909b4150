-- What a fold goes over.
use Rattle.std.specs.Prelude.{◌≡◌, ℕ, ◌+◌, ◌<◌, false, List, ℤ, pos, Option, Some, None, Result, Ok, Err, IsSomeAnd, length, slice_index_or}
use Rattle.sk_arguments.specs.Arguments.{Given}
use Rattle.sk_base.specs.Arithmetic.{InRange}
use Rattle.sk_base.specs.declared.number.Trap.{Trap}
use Rattle.sk_formula.specs.Elements.{TrapAt}
use Rattle.sk_formula.specs.Skeletons.{Functions, cell_at, value_at}
use Rattle.sk_kernel.specs.Kernels.{IsJoined, Meaning, Source, SuitsRun}
use Rattle.sk_kernel.specs.declared.kernel.RunTrap.{RunTrap}
use Rattle.sk_seq.specs.declared.operands.Filled.{Filled}
use Rattle.sk_seq.specs.declared.operands.Operands.{Operands}
use Rattle.sk_seq.specs.declared.operands.Operands.TheVariants.{Cells, Values}

-- the operand that is so many behind a place: a cell of the first container, or the function's value
abbrev pub operand_at : Operands → Meaning → Given → (first behind : ℕ) → Result ℤ Trap
operand_at Cells meaning given first behind = Ok (given.cells 0 (first + behind))
operand_at Values meaning given first behind = meaning.value given (first + behind) 0

-- an operand by its index
abbrev pub operand_of : Operands → Functions → (index : ℕ) → Result ℤ Trap
operand_of Cells functions = cell_at functions
operand_of Values functions = value_at functions

-- these cells of the first container are there, and of the operator's type
abbrev pub HoldsTaken : Meaning → Source → (first count : ℕ) → Type 0
HoldsTaken meaning source first count =
    (behind : ℕ) → behind < count → IsSomeAnd (source.held 0 (first + behind)) (IsJoined meaning)

-- the operator takes each value of the function's type
abbrev pub TakesValues : Meaning → Type 0
TakesValues meaning = (value : ℤ) → InRange meaning.ty value → IsJoined meaning value

-- the function is evaluated at single places, it suits at these, and the operator takes its values
pub record FoldsValues (meaning : Meaning) (source : Source) (first count : ℕ) : Type 0 where
  pub single : meaning.pairs ≡ false
  pub suits : SuitsRun meaning source first 0 count
  pub takes : TakesValues meaning

-- so many operands from a place on may be folded
abbrev pub MayFold : Operands → Meaning → Source → (first count : ℕ) → Type 0
MayFold Cells meaning source first count = HoldsTaken meaning source first count
MayFold Values meaning source first count = FoldsValues meaning source first count

-- cells are all the values, or the first of them up to a trap
abbrev pub StopsAt : (values : ℕ → Result ℤ Trap) → (cells : List ℤ) → (count : ℕ) → Option Trap → Type 0
StopsAt values cells count None = count ≡ length cells
StopsAt values cells count (Some trap) = (count < length cells) × (values count ≡ Err trap)

pub record AreFilled (values : ℕ → Result ℤ Trap) (cells : List ℤ) (filled : Filled) : Type 0 where
  pub each : (k : ℕ) → k < filled.count → values k ≡ Ok (slice_index_or cells k (pos 0))
  pub stops : StopsAt values cells filled.count filled.trap

-- a fold's value, or its trap by the number of operands before it
abbrev pub IsRunFold : (formula : Result (Option ℤ) TrapAt) → Result (Option ℤ) RunTrap → Type 0
IsRunFold formula (Ok value) = formula ≡ Ok value
IsRunFold formula (Err trapped) = formula ≡ Err (record { trap = trapped.trap; element = trapped.offset })
