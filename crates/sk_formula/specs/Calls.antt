-- Which skeleton calls are refused, and what the others compute.
use Rattle.std.specs.Prelude.{ℕ, ◌*◌, ◌-◌, ◌==◌, nat_lt, Bool, true, false, ◌&&◌, if◌then◌else◌, List, [], ◌∷◌, ℤ, pos, Option, Some, None, Result, Ok, Err, unwrap_or, slice_get}
use Rattle.std.specs.Cmp.Lexicographic.{pointwise}
use Rattle.std.specs.List.{list_all}
use Rattle.sk_base.specs.Shape.{cells_of}
use Rattle.sk_base.specs.declared.number.Trap.{Trap}
use Rattle.sk_base.specs.declared.number.Trap.TheVariants.{Shape, Empty}
use Rattle.sk_formula.specs.Elements.{TrapAt, at_element, mapped, folded}
use Rattle.sk_formula.specs.Skeletons.{Functions, value_at, cell_at, row_fold, column_fold, pair_value, pairs_row_fold, pairs_column_fold, prefix_fold, scan_front}
use Rattle.sk_tree.specs.declared.settings.Settings.{Settings}
use Rattle.sk_tree.specs.declared.tree.Skeleton.{Skeleton}
use Rattle.sk_tree.specs.declared.tree.Skeleton.TheVariants.{Map, Reduce, Scan, MapReduce, MapOverlap, MapPairs, MapPairsReduce, Call}

-- the sizes of what a call works on: its result, where that is a container, and its element or region arguments in order
pub record Sizes : Type 0 where
  pub result : Option (List ℕ)
  pub operands : List (List ℕ)

-- the same sizes
abbrev pub same_sizes : List ℕ → List ℕ → Bool
same_sizes = pointwise (λ a b. a == b)

-- the cells of an operand
abbrev pub cells_in : Sizes → (operand : ℕ) → ℕ
cells_in sizes operand = elim (slice_get sizes.operands operand) [ Some shape ↦ cells_of shape | None ↦ 0 ]

-- the rows and the columns of a matrix
abbrev pub rows_of : List ℕ → ℕ
rows_of (rows ∷ columns ∷ []) = rows
rows_of shape = 0

abbrev pub columns_of : List ℕ → ℕ
columns_of (rows ∷ columns ∷ []) = columns
columns_of shape = 0

-- the sizes of the first operand
abbrev pub first_operand : Sizes → List ℕ
first_operand sizes = unwrap_or (slice_get sizes.operands 0) []

abbrev pub are_all : List ℕ → List (List ℕ) → Bool
are_all shape = list_all (λ other. same_sizes other shape)

-- The shapes that fit a skeleton. Map, MapOverlap and Scan: each argument has the result's shape. Reduce with a result: its
-- length is the number of rows, or of columns. MapReduce: each argument has the first one's shape. MapPairs: the result is
-- as long as the first argument by as long as the second. MapPairsReduce: the result's length is that of the first
-- argument by rows, and of the second by columns. Any others fit.
abbrev pub shapes_fit : Skeleton → (columns : Bool) → Sizes → Bool
shapes_fit Map columns sizes = are_all (unwrap_or sizes.result []) sizes.operands
shapes_fit MapOverlap columns sizes = are_all (unwrap_or sizes.result []) sizes.operands
shapes_fit Scan columns sizes = are_all (unwrap_or sizes.result []) sizes.operands
shapes_fit Reduce columns sizes = elim sizes.result [
  | None ↦ true
  | Some result ↦ same_sizes result ((if columns then columns_of (first_operand sizes) else rows_of (first_operand sizes)) ∷ [])
]
shapes_fit MapReduce columns sizes = are_all (first_operand sizes) sizes.operands
shapes_fit MapPairs columns sizes = same_sizes (unwrap_or sizes.result []) (cells_in sizes 0 ∷ cells_in sizes 1 ∷ [])
shapes_fit MapPairsReduce columns sizes =
    same_sizes (unwrap_or sizes.result []) ((if columns then cells_in sizes 1 else cells_in sizes 0) ∷ [])
shapes_fit Call columns sizes = true

-- how many folds a call makes, and how many operands each of them has
pub record Folds : Type 0 where
  pub count : ℕ
  pub operands : ℕ

-- The folds that a call makes, where it makes some that may have no operands; a Scan's have some, or a start value.
abbrev pub folds_of : Skeleton → (columns : Bool) → Sizes → Option Folds
folds_of Reduce columns sizes = elim sizes.result [
  | None ↦ Some (record { count = 1; operands = cells_in sizes 0 })
  | Some result ↦ Some (
      if columns then record { count = columns_of (first_operand sizes); operands = rows_of (first_operand sizes) }
      else record { count = rows_of (first_operand sizes); operands = columns_of (first_operand sizes) })
]
folds_of MapReduce columns sizes = Some (record { count = 1; operands = cells_in sizes 0 })
folds_of MapPairsReduce columns sizes = Some (
    if columns then record { count = cells_in sizes 1; operands = cells_in sizes 0 }
    else record { count = cells_in sizes 0; operands = cells_in sizes 1 })
folds_of skeleton columns sizes = None

-- a fold of nothing without a start value would be made
abbrev pub folds_nothing : (start : Option ℤ) → Option Folds → Bool
folds_nothing (Some start) folds = false
folds_nothing None None = false
folds_nothing None (Some folds) = nat_lt 0 folds.count && folds.operands == 0

-- Which call is refused before anything is computed, and by which trap: shapes come before emptiness.
abbrev pub refusal_of : Skeleton → Settings → Sizes → Option Trap
refusal_of skeleton settings sizes =
    if shapes_fit skeleton settings.columns sizes then
    (if folds_nothing settings.start (folds_of skeleton settings.columns sizes) then Some Empty else None)
    else Some Shape

-- the value of a result's element by its index, where the result is a container
abbrev pub element_value : Skeleton → Settings → Sizes → Functions → ℕ → Result ℤ Trap
element_value Map settings sizes functions = value_at functions
element_value MapOverlap settings sizes functions = value_at functions
element_value MapPairs settings sizes functions = pair_value functions (cells_in sizes 1)
element_value Reduce settings sizes functions =
    if settings.columns
    then column_fold functions settings.start (rows_of (first_operand sizes)) (columns_of (first_operand sizes))
    else row_fold functions settings.start (columns_of (first_operand sizes))
element_value MapPairsReduce settings sizes functions =
    if settings.columns then pairs_column_fold functions settings.start (cells_in sizes 0)
    else pairs_row_fold functions settings.start (cells_in sizes 1)
element_value Scan settings sizes functions =
    prefix_fold functions settings.exclusive (scan_front settings.exclusive settings.start) 0
element_value MapReduce settings sizes functions = value_at functions
element_value Call settings sizes functions = value_at functions

-- the elements of a row of a matrix, and one of everything else
abbrev pub row_length : List ℕ → ℕ
row_length (rows ∷ columns ∷ []) = columns
row_length shape = 1

-- How many elements of the result a unit of a call gives, where the result is a container: a MapPairs goes by elements of
-- its first operand, and a MapOverlap of a matrix by rows.
abbrev pub unit_elements : Skeleton → Sizes → ℕ
unit_elements MapPairs sizes = cells_in sizes 1
unit_elements MapOverlap sizes = row_length (unwrap_or sizes.result [])
unit_elements skeleton sizes = 1

-- the rows of a matrix, and the elements of everything else
abbrev pub row_count : List ℕ → ℕ
row_count (rows ∷ columns ∷ []) = rows
row_count shape = cells_of shape

-- How many units a call has: elements of the result; rows of a matrix under MapOverlap; elements of the first operand of
-- a MapPairs, and of one that folds all to a number; and one of a Call.
abbrev pub unit_count : Skeleton → Sizes → ℕ
unit_count MapPairs sizes = cells_in sizes 0
unit_count Call sizes = 1
unit_count MapOverlap sizes = row_count (unwrap_or sizes.result [])
unit_count skeleton sizes = elim sizes.result [ Some result ↦ cells_of result | None ↦ cells_in sizes 0 ]

-- The elements that the units from `lo` up to but not including `hi` give, where the result is a container, or the trap at
-- the least of them. A part of a Scan is `part_scan`.
abbrev pub units_value : Skeleton → Settings → Sizes → Functions → (lo hi : ℕ) → Result (List ℤ) TrapAt
units_value skeleton settings sizes functions lo hi =
    mapped (element_value skeleton settings sizes functions) (lo * unit_elements skeleton sizes) ((hi - lo) * unit_elements skeleton sizes)

-- The fold of a part of the operands, behind what stands in front of it: the cells of a Reduce and of a Scan, and the
-- values of a MapReduce. In front of the first part of a Scan stands its `scan_front`.
abbrev pub part_fold : Skeleton → Functions → (front : Option ℤ) → (lo hi : ℕ) → Result (Option ℤ) TrapAt
part_fold MapReduce functions front lo hi = folded functions.join (value_at functions) front lo (hi - lo)
part_fold skeleton functions front lo hi = folded functions.join (cell_at functions) front lo (hi - lo)

-- the results of a part of a Scan, behind what the parts before gave, or its `scan_front` where there are none
abbrev pub part_scan : Functions → (exclusive : Bool) → (front : Option ℤ) → (lo hi : ℕ) → Result (List ℤ) TrapAt
part_scan functions exclusive front lo hi = mapped (prefix_fold functions exclusive front lo) lo (hi - lo)

-- the result of a call: the cells of a container, or a number
pub data Outcome : Type 0 where
  Cells : List ℤ → Outcome
  Number : ℤ → Outcome

abbrev pub cells_outcome : Result (List ℤ) TrapAt → Result Outcome TrapAt
cells_outcome (Ok cells) = Ok (Cells cells)
cells_outcome (Err trapped) = Err trapped

-- a fold that is not refused has a number
abbrev pub fold_outcome : Result (Option ℤ) TrapAt → Result Outcome TrapAt
fold_outcome (Ok value) = Ok (Number (unwrap_or value (pos 0)))
fold_outcome (Err trapped) = Err trapped

abbrev pub number_outcome : Result ℤ TrapAt → Result Outcome TrapAt
number_outcome (Ok value) = Ok (Number value)
number_outcome (Err trapped) = Err trapped

-- what a call without a container as its result computes
abbrev pub number_of : Skeleton → Settings → Sizes → Functions → Result Outcome TrapAt
number_of Call settings sizes functions = number_outcome (at_element 0 (value_at functions 0))
number_of skeleton settings sizes functions = fold_outcome (part_fold skeleton functions settings.start 0 (cells_in sizes 0))

-- what a call computes that is not refused
abbrev pub computed_of : Skeleton → Settings → Sizes → Functions → Result Outcome TrapAt
computed_of skeleton settings sizes functions = elim sizes.result [
  | Some result ↦ cells_outcome (mapped (element_value skeleton settings sizes functions) 0 (cells_of result))
  | None ↦ number_of skeleton settings sizes functions
]

-- The result of a call, or its trap: shapes first, then emptiness, and then the trap at the least element.
abbrev pub formula_of : Skeleton → Settings → Sizes → Functions → Result Outcome TrapAt
formula_of skeleton settings sizes functions = elim (refusal_of skeleton settings sizes) [
  | Some trap ↦ Err (record { trap = trap; element = 0 })
  | None ↦ computed_of skeleton settings sizes functions
]
