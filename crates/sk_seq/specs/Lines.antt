-- Folds of lines.
use Rattle.std.specs.Prelude.{◌≡◌, ℕ, ◌+◌, ◌*◌, ◌<◌, ◌^◌, Bool, true, false, ℤ, Option, Result, Ok, Err, IsSomeAnd}
use Rattle.sk_base.specs.declared.number.Trap.{Trap}
use Rattle.sk_formula.specs.Calls.{cells_in, columns_of, first_operand, rows_of}
use Rattle.sk_formula.specs.Elements.{TrapAt, folded, joined}
use Rattle.sk_formula.specs.Skeletons.{Functions, cell_at, fold_value}
use Rattle.sk_kernel.specs.Kernels.{IsJoined, Meaning, Source, Suits}
use Rattle.sk_seq.specs.Given.{sizes_in}
use Rattle.sk_seq.specs.Operands.{TakesValues}
use Rattle.sk_seq.specs.declared.line_folds.Lines.{Lines}
use Rattle.sk_seq.specs.declared.line_folds.Lines.TheVariants.{Rows, Columns, PairRows, PairColumns}

-- the operand of a line that is so many behind its first
abbrev pub line_operand : Lines → Functions → (line behind : ℕ) → Result ℤ Trap
line_operand (Rows columns) functions line behind = cell_at functions (line * columns + behind)
line_operand (Columns columns) functions line behind = cell_at functions (behind * columns + line)
line_operand PairRows functions line behind = functions.value line behind
line_operand PairColumns functions line behind = functions.value behind line

-- the fold of a line's operands, behind what stands in front
abbrev pub line_fold : Lines → Functions → (front : Option ℤ) → (operands line : ℕ) → Result ℤ Trap
line_fold lines functions front operands line = fold_value (folded functions.join (line_operand lines functions line) front 0 operands)

-- the cell of the first container with this index is there, and of the operator's type
abbrev pub MayTakeCell : Meaning → Source → (index : ℕ) → Type 0
MayTakeCell meaning source index = (index < 2 ^ 32) × IsSomeAnd (source.held 0 index) (IsJoined meaning)

-- the function suits at a pair, and the operator takes its values
abbrev pub MayTakePair : Meaning → Source → (place pair : ℕ) → Type 0
MayTakePair meaning source place pair = Suits meaning source place pair × TakesValues meaning

-- an operand of a line may be folded
abbrev pub MayTake : Lines → Meaning → Source → (line behind : ℕ) → Type 0
MayTake (Rows columns) meaning source line behind = MayTakeCell meaning source (line * columns + behind)
MayTake (Columns columns) meaning source line behind = MayTakeCell meaning source (behind * columns + line)
MayTake PairRows meaning source line behind = MayTakePair meaning source line behind
MayTake PairColumns meaning source line behind = MayTakePair meaning source behind line

-- one more operand behind a fold, whose own trap comes before the operator's
abbrev pub joined_with : (join : ℤ → ℤ → Result ℤ Trap) → (before : Option ℤ) → (operand : Result ℤ Trap) → Result (Option ℤ) Trap
joined_with join before (Ok last) = joined join before last
joined_with join before (Err trap) = Err trap

-- a fold's value, or its trap
abbrev pub IsLineFold : (formula : Result (Option ℤ) TrapAt) → Result (Option ℤ) Trap → Type 0
IsLineFold formula (Ok value) = formula ≡ Ok value
IsLineFold formula (Err trap) = fold_value formula ≡ Err trap

-- the cells of a line of the first container, a row or a column, are there, and of the operator's type
abbrev pub HoldsLine : Meaning → Source → (columns : Bool) → (line : ℕ) → Type 0
HoldsLine meaning source true line =
    (row : ℕ) → row < rows_of (first_operand (sizes_in source))
    → IsSomeAnd (source.held 0 (row * columns_of (first_operand (sizes_in source)) + line)) (IsJoined meaning)
HoldsLine meaning source false line =
    (column : ℕ) → column < columns_of (first_operand (sizes_in source))
    → IsSomeAnd (source.held 0 (line * columns_of (first_operand (sizes_in source)) + column)) (IsJoined meaning)

-- the function suits at the pairs of a line: those of a place with all of the second container, or of all of the first with one
abbrev pub SuitsLine : Meaning → Source → (columns : Bool) → (line : ℕ) → Type 0
SuitsLine meaning source true line = (place : ℕ) → place < cells_in (sizes_in source) 0 → Suits meaning source place line
SuitsLine meaning source false line = (pair : ℕ) → pair < cells_in (sizes_in source) 1 → Suits meaning source line pair
