-- Which ranges of its operands some units of a call read.
use Rattle.std.specs.Prelude.{ℕ, zero, suc, ◌*◌, ◌-◌, ◌==◌, ◌&&◌, nat_le, nat_lt, Bool, false, if◌then◌else◌, List, [], ◌∷◌, map, filter, Some, None, slice_get}
use Rattle.std.specs.List.{list_any}
use Rattle.sk_arguments.specs.Places.{is_reached}
use Rattle.sk_base.specs.Shape.{cells_of}
use Rattle.sk_blocks.specs.Calls.{SizedCall, sizes_of}
use Rattle.sk_formula.specs.Calls.{Sizes, columns_of, first_operand}
use Rattle.sk_parts.specs.Cut.{Part}
use Rattle.sk_tree.specs.declared.settings.Settings.{Settings}
use Rattle.sk_tree.specs.declared.tree.Skeleton.{Skeleton}
use Rattle.sk_tree.specs.declared.tree.Skeleton.TheVariants.{Map, Reduce, Scan, MapReduce, MapOverlap, MapPairs, MapPairsReduce, Call}

abbrev pub range : (lo hi : ℕ) → Part
range lo hi = record { lo = lo; hi = hi }

abbrev pub whole_of : (shape : List ℕ) → Part
whole_of shape = range 0 (cells_of shape)

-- so many numbers from one on
abbrev pub numbers_from : (first count : ℕ) → List ℕ
numbers_from first zero = []
numbers_from first (suc count) = first ∷ numbers_from (suc first) count

-- ---- the runs of indices that a test holds

-- runs in order, with one more index behind them: it goes on with the last run, or begins one
abbrev pub with_index : List Part → (index : ℕ) → List Part
with_index [] index = range index (suc index) ∷ []
with_index (run ∷ []) index = if run.hi == index then range run.lo (suc index) ∷ [] else run ∷ range index (suc index) ∷ []
with_index (run ∷ next ∷ more) index = run ∷ with_index (next ∷ more) index

-- the maximal runs of the indices below a count that a test holds
abbrev pub runs_below : (test : ℕ → Bool) → (count : ℕ) → List Part
runs_below test zero = []
runs_below test (suc count) = if test count then with_index (runs_below test count) count else runs_below test count

-- ---- what a MapOverlap reads

-- an element is round one of the elements from `lo` up to `hi`
abbrev pub is_round : Settings → (size lo hi index : ℕ) → Bool
is_round settings size lo hi index =
    list_any (λ unit. is_reached settings.edge size settings.overlap.0 unit index) (numbers_from lo (hi - lo))

-- all of the rows of these numbers
abbrev pub rows_range : (columns : ℕ) → Part → Part
rows_range columns rows = range (rows.lo * columns) (rows.hi * columns)

-- The elements round those of a vector, or all rows round some rows of a matrix, in runs.
abbrev pub overlap_ranges : Settings → (shape : List ℕ) → (lo hi : ℕ) → List Part
overlap_ranges settings (rows ∷ columns ∷ []) lo hi = map (rows_range columns) (runs_below (is_round settings rows lo hi) rows)
overlap_ranges settings shape lo hi = runs_below (is_round settings (cells_of shape) lo hi) (cells_of shape)

-- ---- what each skeleton reads

-- the units of the first operand, and all of the second one; or the other way round
abbrev pub pair_range : (by_second : Bool) → (operand lo hi : ℕ) → (shape : List ℕ) → Part
pair_range by_second operand lo hi shape =
    if operand == (if by_second then 1 else 0) then range lo hi else whole_of shape

-- The ranges of an operand, which is read by elements, by rows or round places, that the units from `lo` up to but not
-- including `hi` read.
abbrev pub unit_ranges : Skeleton → Settings → Sizes → (shape : List ℕ) → (operand lo hi : ℕ) → List Part
unit_ranges Map settings sizes shape operand lo hi = range lo hi ∷ []
unit_ranges MapReduce settings sizes shape operand lo hi = range lo hi ∷ []
unit_ranges Scan settings sizes shape operand lo hi = range lo hi ∷ []
unit_ranges Reduce settings sizes shape operand lo hi = elim sizes.result [
  | None ↦ range lo hi ∷ []
  | Some result ↦
      (if settings.columns then whole_of shape else rows_range (columns_of (first_operand sizes)) (range lo hi)) ∷ []
]
unit_ranges MapOverlap settings sizes shape operand lo hi = overlap_ranges settings shape lo hi
unit_ranges MapPairs settings sizes shape operand lo hi = pair_range false operand lo hi shape ∷ []
unit_ranges MapPairsReduce settings sizes shape operand lo hi = pair_range settings.columns operand lo hi shape ∷ []
unit_ranges Call settings sizes shape operand lo hi = []

abbrev pub is_some_range : Part → Bool
is_some_range part = nat_lt part.lo part.hi

-- The ranges of an operand that these units read, those without an index left out. Containers that are given whole stand
-- behind the others, and are read whole.
abbrev pub ranges_of : SizedCall → (lo hi operand : ℕ) → List Part
ranges_of call lo hi operand = elim (slice_get call.operands operand) [
  | Some found ↦ filter is_some_range (
      if nat_lt operand call.elements
      then unit_ranges call.skeleton call.settings (sizes_of call) found.shape operand lo hi else whole_of found.shape ∷ [])
  | None ↦ []
]

-- an index is in one of some ranges
abbrev pub is_in : List Part → (index : ℕ) → Bool
is_in ranges index = list_any (λ (part : Part). nat_le part.lo index && nat_lt index part.hi) ranges
