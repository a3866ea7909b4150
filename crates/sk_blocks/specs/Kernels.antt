-- Into which parts a call is cut, which kernels run them, and what a kernel reads.
use Rattle.std.specs.Prelude.{ℕ, zero, suc, ◌+◌, ◌-◌, ◌*◌, ◌/◌, ◌%◌, ◌==◌, ◌&&◌, nat_lt, min, Bool, true, false, if◌then◌else◌, List, [], ◌∷◌, ◌++◌, map, filter, Option, Some, None}
use Rattle.sk_base.specs.Shape.{cells_of}
use Rattle.sk_base.specs.declared.choice.Variant.{Variant}
use Rattle.sk_base.specs.declared.choice.Variant.TheVariants.{Sequential, Chunked, Cluster, Lanes}
use Rattle.sk_blocks.specs.Calls.{SizedCall, sizes_of}
use Rattle.sk_blocks.specs.Ranges.{range, numbers_from, ranges_of, is_in}
use Rattle.sk_formula.specs.Calls.{unit_count, unit_elements}
use Rattle.sk_parts.specs.Cut.{Part, cut_of}
use Rattle.sk_spaces.specs.declared.step.KernelKind.{KernelKind}
use Rattle.sk_spaces.specs.declared.step.KernelKind.TheVariants.{Element, Fold, Join, Scan as ScanKernel, Value}
use Rattle.sk_tree.specs.declared.tree.Skeleton.TheVariants.{Map, Reduce, Scan, MapReduce, MapOverlap, MapPairs, MapPairsReduce, Call}

-- how many units a call has
abbrev pub units_in : SizedCall → ℕ
units_in call = unit_count call.skeleton (sizes_of call)

-- the result is a container without cells
abbrev pub has_no_cells : SizedCall → Bool
has_no_cells call = elim call.result [ Some result ↦ cells_of result == 0 | None ↦ false ]

-- Into how many parts a call is cut: as many as are wanted, but one at most where it is not cut, no more than there are
-- units, and none where the result has no cells.
abbrev pub part_count : Variant → (parts : ℕ) → SizedCall → ℕ
part_count variant parts call =
    if has_no_cells call then 0 else elim variant [
      | Sequential ↦ min 1 (units_in call)
      | Lanes ↦ min 1 (units_in call)
      | Chunked ↦ min parts (units_in call)
      | Cluster ↦ min parts (units_in call)
    ]

-- the units of a part, of so many
abbrev pub units_of : SizedCall → (count part : ℕ) → Part
units_of call count part = cut_of (units_in call) count part

-- where a part runs: each part of a cluster call in the space of a rank of its own, and every other in the host's
abbrev pub space_of : Variant → (part : ℕ) → ℕ
space_of Cluster part = suc part
space_of variant part = 0

-- The run of a kernel: its kind, the number of its part, its range, the units whose ranges of the operands it reads, and the
-- space in which it runs. The range is that of the result cells, which lie among the totals for a fold and a value; of a join
-- it is the index of the total that is taken in, and a join has no units.
pub record KernelRun : Type 0 where
  pub kind : KernelKind
  pub part : ℕ
  pub lo : ℕ
  pub hi : ℕ
  pub units : Part
  pub space : ℕ

module _ (variant : Variant) (call : SizedCall) (count : ℕ) where
  -- the results of a part's units
  abbrev pub results_kernel : KernelKind → (part : ℕ) → KernelRun
  results_kernel kind part =
      let units : Part = units_of call count part in
      let elements : ℕ = unit_elements call.skeleton (sizes_of call) in
      record {
        kind = kind;
        part = part;
        lo = units.lo * elements;
        hi = units.hi * elements;
        units = units;
        space = space_of variant part;
      }

  -- the fold of a part becomes the total of its number
  abbrev pub fold_kernel : (part : ℕ) → KernelRun
  fold_kernel part = record {
    kind = Fold;
    part = part;
    lo = part;
    hi = suc part;
    units = units_of call count part;
    space = space_of variant part;
  }

-- one total takes in another
abbrev pub join_kernel : Variant → (part with : ℕ) → KernelRun
join_kernel variant part with =
    record { kind = Join; part = part; lo = with; hi = suc with; units = range 0 0; space = space_of variant part }

-- which totals are joined, in order: one, and the one that it takes in
abbrev pub chunked_joins : (count : ℕ) → List (ℕ × ℕ)
chunked_joins count = map (λ with. (0, with)) (numbers_from 1 (count - 1))

-- the joins over a distance: each total whose number is a multiple of twice the distance takes in the one that far behind
abbrev pub joins_over : (count distance : ℕ) → List (ℕ × ℕ)
joins_over count distance =
    map (λ part. (part, part + distance))
    (filter (λ part. part % (2 * distance) == 0 && nat_lt (part + distance) count) (numbers_from 0 count))

-- over the distances 1, 2, 4 and so on below the count, of which there are no more than `most`
abbrev pub joins_from : (most count distance : ℕ) → List (ℕ × ℕ)
joins_from zero count distance = []
joins_from (suc fewer) count distance =
    if nat_lt distance count then joins_over count distance ++ joins_from fewer count (2 * distance) else []

abbrev pub joins_of : Variant → (count : ℕ) → List (ℕ × ℕ)
joins_of Cluster count = joins_from count count 1
joins_of variant count = chunked_joins count

-- ---- the kernels of a call that is cut into so many parts, kind by kind

abbrev pub fold_kinds : Variant → SizedCall → (count : ℕ) → List (List KernelRun)
fold_kinds variant call count =
    map (fold_kernel variant call count) (numbers_from 0 count)
    ∷ map (λ join. join_kernel variant join.0 join.1) (joins_of variant count) ∷ []

-- each part but the last one is folded, each total but the first takes in the one before, and then each part has its results
abbrev pub scan_kinds : Variant → SizedCall → (count : ℕ) → List (List KernelRun)
scan_kinds variant call count =
    map (fold_kernel variant call count) (numbers_from 0 (count - 1))
    ∷ map (λ part. join_kernel variant part (part - 1)) (numbers_from 1 (count - 2))
    ∷ map (results_kernel variant call count ScanKernel) (numbers_from 0 count) ∷ []

abbrev pub element_kinds : Variant → SizedCall → (count : ℕ) → List (List KernelRun)
element_kinds variant call count = map (results_kernel variant call count Element) (numbers_from 0 count) ∷ []

abbrev pub value_kinds : (count : ℕ) → List (List KernelRun)
value_kinds count =
    map (λ part. record { kind = Value; part = part; lo = 0; hi = 1; units = range 0 1; space = 0 }) (numbers_from 0 count) ∷ []

abbrev pub kinds_of : Variant → SizedCall → (count : ℕ) → List (List KernelRun)
kinds_of variant call count = elim call.skeleton [
  | Map ↦ element_kinds variant call count
  | MapOverlap ↦ element_kinds variant call count
  | MapPairs ↦ element_kinds variant call count
  | MapPairsReduce ↦ element_kinds variant call count
  | MapReduce ↦ fold_kinds variant call count
  | Scan ↦ scan_kinds variant call count
  | Call ↦ value_kinds count
  | Reduce ↦ elim call.result [
    | Some result ↦ element_kinds variant call count
    | None ↦ fold_kinds variant call count
  ]
]

abbrev pub is_some_kind : List KernelRun → Bool
is_some_kind [] = false
is_some_kind (kernel ∷ kernels) = true

-- The kernels of a call that is run at once by a variant in so many parts, kind by kind, and no kind without kernels: where
-- one traps, the others of its kind still run, and later kinds do not.
abbrev pub call_kernels : Variant → (parts : ℕ) → SizedCall → List (List KernelRun)
call_kernels variant parts call = filter is_some_kind (kinds_of variant call (part_count variant parts call))

-- ---- recorded calls, which are computed tile by tile

-- a container of so many cells has a tile of this number: the tile begins inside
abbrev pub is_tile : (size cells tile : ℕ) → Bool
is_tile size cells tile = nat_lt (tile * size) cells

-- how many tiles it has
abbrev pub tile_count : (size cells : ℕ) → ℕ
tile_count size cells = (cells + (size - 1)) / size

-- the indices of a tile
abbrev pub tile_range : (size cells tile : ℕ) → Part
tile_range size cells tile = range (tile * size) (min (suc tile * size) cells)

-- where a tile is computed: those of a cluster call go round the ranks, and every other one is computed in the host's space
abbrev pub tile_space : Variant → (parts tile : ℕ) → ℕ
tile_space Cluster parts tile = suc (tile % parts)
tile_space variant parts tile = 0

-- The one kernel of a tile, of so many elements, of a call with so many cells, where it has such a tile. The tile's number
-- stands for the part's, and its elements are its units.
abbrev pub tile_kernel : Variant → (parts size cells tile : ℕ) → Option KernelRun
tile_kernel variant parts size cells tile =
    let elements : Part = tile_range size cells tile in
    if is_tile size cells tile
    then Some (record {
      kind = Element;
      part = tile;
      lo = elements.lo;
      hi = elements.hi;
      units = elements;
      space = tile_space variant parts tile;
    })
    else None

-- ---- what kernels read

-- The ranges of an operand that a kernel reads: those of its units, and a join reads totals alone.
abbrev pub kernel_ranges : SizedCall → KernelRun → (operand : ℕ) → List Part
kernel_ranges call kernel operand = elim kernel.kind [
  | Join ↦ []
  | Element ↦ ranges_of call kernel.units.lo kernel.units.hi operand
  | Fold ↦ ranges_of call kernel.units.lo kernel.units.hi operand
  | ScanKernel ↦ ranges_of call kernel.units.lo kernel.units.hi operand
  | Value ↦ ranges_of call kernel.units.lo kernel.units.hi operand
]

-- a kernel may read an index of an operand
abbrev pub reads_index : SizedCall → KernelRun → (operand index : ℕ) → Bool
reads_index call kernel operand index = is_in (kernel_ranges call kernel operand) index

-- Which totals a kernel reads: a join both of those that it joins, and the scan of each part but the first the one before it.
abbrev pub totals_read : KernelRun → List ℕ
totals_read kernel = elim kernel.kind [
  | Join ↦ kernel.part ∷ kernel.lo ∷ []
  | ScanKernel ↦ if kernel.part == 0 then [] else (kernel.part - 1) ∷ []
  | Element ↦ []
  | Fold ↦ []
  | Value ↦ []
]

-- a total that goes from the space of one part to that of another
pub record TotalSent : Type 0 where
  pub total : ℕ
  pub from : ℕ
  pub to : ℕ

-- Which totals are sent between ranks, in so many parts: before a join the one that is taken in, and of a Scan each but the
-- last to the part behind it, once.
abbrev pub totals_sent : SizedCall → (count : ℕ) → List TotalSent
totals_sent call count = elim call.skeleton [
  | Scan ↦ map (λ part. record { total = part - 1; from = part - 1; to = part }) (numbers_from 1 (count - 1))
  | _ ↦ elim call.result [
    | Some result ↦ []
    | None ↦ map (λ join. record { total = join.1; from = join.1; to = join.0 }) (joins_of Cluster count)
  ]
]

-- how many totals a call has in so many parts: one for each part where its value is a number, and where a Scan has more than one
abbrev pub total_count : SizedCall → (count : ℕ) → ℕ
total_count call count = elim call.skeleton [
  | Scan ↦ if nat_lt 1 count then count else 0
  | _ ↦ elim call.result [ Some result ↦ 0 | None ↦ count ]
]

-- ---- the totals of a call that is run at once by a variant in so many parts

abbrev pub call_totals : Variant → (parts : ℕ) → SizedCall → ℕ
call_totals variant parts call = total_count call (part_count variant parts call)

-- only ranks send totals
abbrev pub call_sends : Variant → (parts : ℕ) → SizedCall → List TotalSent
call_sends Cluster parts call = totals_sent call (part_count Cluster parts call)
call_sends variant parts call = []
