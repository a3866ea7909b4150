-- By which variant and in how many parts a call is run, where a table chooses.
use Rattle.std.specs.Prelude.{ℕ, ◌*◌, Bool, true, false, if◌then◌else◌, [], Some, None, unwrap_or}
use Rattle.sk_base.specs.Shape.{cells_of}
use Rattle.sk_base.specs.declared.choice.Variant.{Variant}
use Rattle.sk_base.specs.declared.choice.Variant.TheVariants.{Sequential, Chunked, Cluster, Lanes}
use Rattle.sk_blocks.specs.Calls.{SizedCall, sizes_of}
use Rattle.sk_blocks.specs.Needs.{fits}
use Rattle.sk_formula.specs.Calls.{cells_in}
use Rattle.sk_tree.specs.declared.tree.Skeleton.TheVariants.{Map, Reduce, Scan, MapReduce, MapOverlap, MapPairs, MapPairsReduce, Call}

-- the cells of the result, where that is a container
abbrev pub result_cells : SizedCall → ℕ
result_cells call = cells_of (unwrap_or call.result [])

-- the number of elements by which a rule of a table is found
abbrev pub rule_elements : SizedCall → ℕ
rule_elements call = elim call.skeleton [
  | Map ↦ result_cells call
  | MapOverlap ↦ result_cells call
  | MapPairs ↦ result_cells call
  | Scan ↦ result_cells call
  | Reduce ↦ cells_in (sizes_of call) 0
  | MapReduce ↦ cells_in (sizes_of call) 0
  | MapPairsReduce ↦ cells_in (sizes_of call) 0 * cells_in (sizes_of call) 1
  | Call ↦ 1
]

-- lanes of a Reduce give a number, and no container
abbrev pub lanes_give : SizedCall → Bool
lanes_give call = elim call.skeleton [
  | Reduce ↦ elim call.result [ Some result ↦ false | None ↦ true ]
  | _ ↦ true
]

-- By which variant and in how many parts a call is run that is chosen for one, in ranks of this capacity: sequentially in one
-- part where a cluster call does not fit, or where lanes do not give its result. A recorded call is computed by tiles of this
-- size.
abbrev pub chosen_of : (recorded : Bool) → (tile capacity : ℕ) → SizedCall → Variant × ℕ → Variant × ℕ
chosen_of recorded tile capacity call (Cluster, parts) =
    if fits recorded tile capacity call parts then (Cluster, parts) else (Sequential, 1)
chosen_of recorded tile capacity call (Lanes, parts) = if lanes_give call then (Lanes, parts) else (Sequential, 1)
chosen_of recorded tile capacity call (Sequential, parts) = (Sequential, parts)
chosen_of recorded tile capacity call (Chunked, parts) = (Chunked, parts)
