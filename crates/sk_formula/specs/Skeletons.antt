-- What the skeletons compute, by elements of the result, from the values of the function and the operator.
use Rattle.std.specs.Prelude.{ℕ, suc, ◌+◌, ◌-◌, ◌*◌, ◌/◌, ◌%◌, Bool, if◌then◌else◌, ℤ, pos, Option, Some, Result, Ok, Err, unwrap_or}
use Rattle.sk_base.specs.declared.number.Trap.{Trap}
use Rattle.sk_formula.specs.Elements.{TrapAt, folded}

-- The function and the operator of an instance over the operands of a call: the function's value at a place, or at a pair
-- of places; a cell of the first operand; and the operator's value.
pub record Functions : Type 0 where
  pub value : (place pair : ℕ) → Result ℤ Trap
  pub cell : ℕ → ℤ
  pub join : ℤ → ℤ → Result ℤ Trap

-- the value at a place where a skeleton does not go over pairs
abbrev pub value_at : Functions → ℕ → Result ℤ Trap
value_at functions place = functions.value place 0

abbrev pub cell_at : Functions → ℕ → Result ℤ Trap
cell_at functions index = Ok (functions.cell index)

-- a fold inside an element: its value; an element that folds nothing is refused before
abbrev pub fold_value : Result (Option ℤ) TrapAt → Result ℤ Trap
fold_value (Ok value) = Ok (unwrap_or value (pos 0))
fold_value (Err trapped) = Err trapped.trap

-- Reduce by rows: the fold of row i of a matrix of so many columns.
abbrev pub row_fold : Functions → (start : Option ℤ) → (columns : ℕ) → (row : ℕ) → Result ℤ Trap
row_fold functions start columns row =
    fold_value (folded functions.join (cell_at functions) start (row * columns) columns)

-- Reduce by columns: the fold of column j of a matrix of so many rows and columns.
abbrev pub column_fold : Functions → (start : Option ℤ) → (rows columns : ℕ) → (column : ℕ) → Result ℤ Trap
column_fold functions start rows columns column =
    fold_value (folded functions.join (λ row. cell_at functions (row * columns + column)) start 0 rows)

-- MapPairs: the value at the pair of places that an index of the result stands for.
abbrev pub pair_value : Functions → (columns : ℕ) → (index : ℕ) → Result ℤ Trap
pair_value functions columns index = functions.value (index / columns) (index % columns)

-- MapPairsReduce by rows folds over the second operand, and by columns over the first.
abbrev pub pairs_row_fold : Functions → (start : Option ℤ) → (columns : ℕ) → (row : ℕ) → Result ℤ Trap
pairs_row_fold functions start columns row = fold_value (folded functions.join (functions.value row) start 0 columns)

abbrev pub pairs_column_fold : Functions → (start : Option ℤ) → (rows : ℕ) → (column : ℕ) → Result ℤ Trap
pairs_column_fold functions start rows column =
    fold_value (folded functions.join (λ row. functions.value row column) start 0 rows)

-- Scan: an inclusive one folds the elements from `first` up to its own, an exclusive one those before its own; what stands
-- in front is the start value, or what the parts before gave.
abbrev pub prefix_fold : Functions → (exclusive : Bool) → (front : Option ℤ) → (first index : ℕ) → Result ℤ Trap
prefix_fold functions exclusive front first index =
    fold_value (folded functions.join (cell_at functions) front first (if exclusive then index - first else suc index - first))

-- an exclusive Scan without a start value has the start value 0
abbrev pub scan_front : (exclusive : Bool) → (start : Option ℤ) → Option ℤ
scan_front exclusive start = if exclusive then Some (unwrap_or start (pos 0)) else start
