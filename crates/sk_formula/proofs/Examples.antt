-- Worked examples of the formula, one for each skeleton, by evaluation.
use Rattle.std.proofs.Common.{◌≡◌, ℕ, ℤ, refl}
use Rattle.std.specs.Prelude.{true, false, List, [], ◌∷◌, pos, ◌+ℤ◌, ◌*ℤ◌, ◌-ℤ◌, Some, None, Result, Ok, Err, slice_index_or}
use Rattle.sk_base.specs.Arithmetic.{op_of}
use Rattle.sk_base.specs.declared.number.Op.TheVariants.{Div}
use Rattle.sk_base.specs.declared.number.Trap.{Trap}
use Rattle.sk_base.specs.declared.number.Trap.TheVariants.{Divide, Shape, Empty}
use Rattle.sk_base.specs.declared.number.Ty.TheVariants.{Int}
use Rattle.sk_formula.specs.Calls.{units_value, part_scan, Cells, Number, formula_of}
use Rattle.sk_formula.specs.Skeletons.{Functions}
use Rattle.sk_tree.specs.InstanceSettings.{default_settings}
use Rattle.sk_tree.specs.declared.settings.Settings.{Settings}
use Rattle.sk_tree.specs.declared.tree.Skeleton.TheVariants.{Map, Reduce, Scan, MapReduce, MapOverlap, MapPairs, MapPairsReduce, Call}

abbrev at : List ℤ → ℕ → ℤ
at cells index = slice_index_or cells index (pos 0)

abbrev adding : ℤ → ℤ → Result ℤ Trap
adding a b = Ok (a +ℤ b)

-- a function of the first operand's element
abbrev of_one : (ℤ → Result ℤ Trap) → List ℤ → Functions
of_one value cells = record { value = λ place pair. value (at cells place); cell = at cells; join = adding }

-- a function of two operands' elements, at one place or at a pair of places
abbrev of_two : (ℤ → ℤ → Result ℤ Trap) → List ℤ → List ℤ → Functions
of_two value one other = record { value = λ place pair. value (at one place) (at other place); cell = at one; join = adding }

abbrev of_pair : (ℤ → ℤ → Result ℤ Trap) → List ℤ → List ℤ → Functions
of_pair value one other = record { value = λ place pair. value (at one place) (at other pair); cell = at one; join = adding }

abbrev times : ℤ → ℤ → Result ℤ Trap
times a b = Ok (a *ℤ b)

abbrev starting : ℤ → Settings
starting start = record default_settings { start = Some start }

abbrev by_columns : Settings
by_columns = record default_settings { columns = true }

-- the quotients of 6, 5, 4 by 3, 0, 0: the least element that traps is the second
quotients : formula_of Map default_settings (record { result = Some (3 ∷ []); operands = (3 ∷ []) ∷ (3 ∷ []) ∷ [] })
    (of_two (op_of Div Int) (pos 6 ∷ pos 5 ∷ pos 4 ∷ []) (pos 3 ∷ pos 0 ∷ pos 0 ∷ []))
    ≡ Err (record { trap = Divide; element = 1 })
quotients = refl

-- an argument of another shape
unequal : formula_of Map default_settings (record { result = Some (3 ∷ []); operands = (2 ∷ []) ∷ [] }) (of_one (λ a. Ok a) (pos 1 ∷ pos 2 ∷ []))
    ≡ Err (record { trap = Shape; element = 0 })
unequal = refl

-- 5 and 6 behind 100
summed : formula_of Reduce (starting (pos 100)) (record { result = None; operands = (2 ∷ []) ∷ [] }) (of_one (λ a. Ok a) (pos 5 ∷ pos 6 ∷ []))
    ≡ Ok (Number (pos 111))
summed = refl

-- from the left: 10 - 3 - 2
from_the_left : formula_of Reduce default_settings (record { result = None; operands = (3 ∷ []) ∷ [] })
    (record { value = λ place pair. Ok (pos 0); cell = at (pos 10 ∷ pos 3 ∷ pos 2 ∷ []); join = λ a b. Ok (a -ℤ b) })
    ≡ Ok (Number (pos 5))
from_the_left = refl

-- a fold of nothing
nothing : formula_of Reduce default_settings (record { result = None; operands = (0 ∷ []) ∷ [] }) (of_one (λ a. Ok a) [])
    ≡ Err (record { trap = Empty; element = 0 })
nothing = refl

nothing_but_a_start : formula_of Reduce (starting (pos 4)) (record { result = None; operands = (0 ∷ []) ∷ [] }) (of_one (λ a. Ok a) [])
    ≡ Ok (Number (pos 4))
nothing_but_a_start = refl

-- the rows and the columns of 1 2 3 over 4 5 6
rows_summed : formula_of Reduce default_settings (record { result = Some (2 ∷ []); operands = (2 ∷ 3 ∷ []) ∷ [] })
    (of_one (λ a. Ok a) (pos 1 ∷ pos 2 ∷ pos 3 ∷ pos 4 ∷ pos 5 ∷ pos 6 ∷ [])) ≡ Ok (Cells (pos 6 ∷ pos 15 ∷ []))
rows_summed = refl

columns_summed : formula_of Reduce by_columns (record { result = Some (3 ∷ []); operands = (2 ∷ 3 ∷ []) ∷ [] })
    (of_one (λ a. Ok a) (pos 1 ∷ pos 2 ∷ pos 3 ∷ pos 4 ∷ pos 5 ∷ pos 6 ∷ [])) ≡ Ok (Cells (pos 5 ∷ pos 7 ∷ pos 9 ∷ []))
columns_summed = refl

-- rows of no columns have no sum, and no rows have none to make
empty_rows : formula_of Reduce default_settings (record { result = Some (2 ∷ []); operands = (2 ∷ 0 ∷ []) ∷ [] }) (of_one (λ a. Ok a) [])
    ≡ Err (record { trap = Empty; element = 0 })
empty_rows = refl

no_rows : formula_of Reduce default_settings (record { result = Some (0 ∷ []); operands = (0 ∷ 3 ∷ []) ∷ [] }) (of_one (λ a. Ok a) [])
    ≡ Ok (Cells [])
no_rows = refl

-- the sums before each of 1 to 7, and up to each of 1 to 3
before_each : formula_of Scan (record default_settings { exclusive = true }) (record { result = Some (7 ∷ []); operands = (7 ∷ []) ∷ [] })
    (of_one (λ a. Ok a) (pos 1 ∷ pos 2 ∷ pos 3 ∷ pos 4 ∷ pos 5 ∷ pos 6 ∷ pos 7 ∷ []))
    ≡ Ok (Cells (pos 0 ∷ pos 1 ∷ pos 3 ∷ pos 6 ∷ pos 10 ∷ pos 15 ∷ pos 21 ∷ []))
before_each = refl

up_to_each : formula_of Scan default_settings (record { result = Some (3 ∷ []); operands = (3 ∷ []) ∷ [] })
    (of_one (λ a. Ok a) (pos 1 ∷ pos 2 ∷ pos 3 ∷ [])) ≡ Ok (Cells (pos 1 ∷ pos 3 ∷ pos 6 ∷ []))
up_to_each = refl

-- with a start value: 100 in front of 1, 2, 3
up_to_each_behind : formula_of Scan (starting (pos 100)) (record { result = Some (3 ∷ []); operands = (3 ∷ []) ∷ [] })
    (of_one (λ a. Ok a) (pos 1 ∷ pos 2 ∷ pos 3 ∷ [])) ≡ Ok (Cells (pos 101 ∷ pos 103 ∷ pos 106 ∷ []))
up_to_each_behind = refl

before_each_behind : formula_of Scan (record default_settings { exclusive = true; start = Some (pos 100) }) (record { result = Some (3 ∷ []); operands = (3 ∷ []) ∷ [] })
    (of_one (λ a. Ok a) (pos 1 ∷ pos 2 ∷ pos 3 ∷ [])) ≡ Ok (Cells (pos 100 ∷ pos 101 ∷ pos 103 ∷ []))
before_each_behind = refl

-- a part of a scan by differences, behind 7: 7 - 3, and that less 2
part_behind : part_scan (record { value = λ place pair. Ok (pos 0); cell = at (pos 10 ∷ pos 3 ∷ pos 2 ∷ []); join = λ a b. Ok (a -ℤ b) }) false (Some (pos 7)) 1 3
    ≡ Ok (pos 4 ∷ pos 2 ∷ [])
part_behind = refl

-- the sum of products; at one operand the function's trap comes before the operator's
products_summed : formula_of MapReduce default_settings (record { result = None; operands = (2 ∷ []) ∷ (2 ∷ []) ∷ [] })
    (of_two times (pos 2 ∷ pos 3 ∷ []) (pos 5 ∷ pos 7 ∷ [])) ≡ Ok (Number (pos 31))
products_summed = refl

function_first : formula_of MapReduce default_settings (record { result = None; operands = (2 ∷ []) ∷ (2 ∷ []) ∷ [] })
    (record (of_two (op_of Div Int) (pos 2 ∷ pos 3 ∷ []) (pos 1 ∷ pos 0 ∷ [])) { join = λ a b. Err Empty })
    ≡ Err (record { trap = Divide; element = 1 })
function_first = refl

-- each element and the one behind it, cyclically
overlapped : formula_of MapOverlap default_settings (record { result = Some (3 ∷ []); operands = (3 ∷ []) ∷ [] })
    (record {
      value = λ place pair. Ok (at (pos 1 ∷ pos 2 ∷ pos 3 ∷ pos 1 ∷ []) place +ℤ at (pos 2 ∷ pos 3 ∷ pos 1 ∷ []) place);
      cell = λ index. pos 0;
      join = adding;
    }) ≡ Ok (Cells (pos 3 ∷ pos 5 ∷ pos 4 ∷ []))
overlapped = refl

-- the second of two rows of three
second_row : units_value MapOverlap default_settings (record { result = Some (2 ∷ 3 ∷ []); operands = (2 ∷ 3 ∷ []) ∷ [] })
    (record { value = λ place pair. Ok (pos place); cell = λ index. pos 0; join = adding }) 1 2 ≡ Ok (pos 3 ∷ pos 4 ∷ pos 5 ∷ [])
second_row = refl

-- the products of pairs of 1, 2 and 10, 20, 30, and their sums by rows and by columns
pairs : formula_of MapPairs default_settings (record { result = Some (2 ∷ 3 ∷ []); operands = (2 ∷ []) ∷ (3 ∷ []) ∷ [] })
    (of_pair times (pos 1 ∷ pos 2 ∷ []) (pos 10 ∷ pos 20 ∷ pos 30 ∷ []))
    ≡ Ok (Cells (pos 10 ∷ pos 20 ∷ pos 30 ∷ pos 20 ∷ pos 40 ∷ pos 60 ∷ []))
pairs = refl

pairs_by_rows : formula_of MapPairsReduce default_settings (record { result = Some (2 ∷ []); operands = (2 ∷ []) ∷ (3 ∷ []) ∷ [] })
    (of_pair times (pos 1 ∷ pos 2 ∷ []) (pos 10 ∷ pos 20 ∷ pos 30 ∷ [])) ≡ Ok (Cells (pos 60 ∷ pos 120 ∷ []))
pairs_by_rows = refl

pairs_by_columns : formula_of MapPairsReduce by_columns (record { result = Some (3 ∷ []); operands = (2 ∷ []) ∷ (3 ∷ []) ∷ [] })
    (of_pair times (pos 1 ∷ pos 2 ∷ []) (pos 10 ∷ pos 20 ∷ pos 30 ∷ [])) ≡ Ok (Cells (pos 30 ∷ pos 60 ∷ pos 90 ∷ []))
pairs_by_columns = refl

-- one value
called : formula_of Call default_settings (record { result = None; operands = [] }) (record { value = λ place pair. Ok (pos 1); cell = λ index. pos 0; join = adding })
    ≡ Ok (Number (pos 1))
called = refl
