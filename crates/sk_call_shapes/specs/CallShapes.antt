-- Which containers, uniform arguments and settings an instance of a compiled program takes.
use Rattle.std.specs.Prelude.{ℕ, Bool, true, false, ◌&&◌, ◌||◌, ◌==◌, List, [], ◌∷◌, ◌++◌, length, map, take, Option, Some, None, codes}
use Rattle.sk_arguments.specs.Operands.{uniforms_taken}
use Rattle.sk_base.specs.declared.number.Ty.{Ty}
use Rattle.sk_isa.specs.declared.object.Plan.{Plan}
use Rattle.sk_isa.specs.declared.object.Signature.{Signature}
use Rattle.sk_names.specs.Bytes.{same_bytes}
use Rattle.sk_tree.specs.Parameters.{same_type, scalar_types, index_dimension, region_of}
use Rattle.sk_tree.specs.declared.tree.ParamKind.{ParamKind}
use Rattle.sk_tree.specs.declared.tree.ParamKind.TheVariants.{Scalar, Index, Proxy, Region}
use Rattle.sk_tree.specs.declared.tree.Skeleton.TheVariants.{Map, Reduce, Scan, MapReduce, MapOverlap, MapPairs, MapPairsReduce, Call}
use Rattle.sk_typing.specs.TypingInstances.{has_start, has_lines, is_scan, is_overlap}

-- a container that is given to a call: its number of sizes, and the type of its elements
pub record Container : Type 0 where
  pub kind : ℕ
  pub ty : Ty

-- a container that a call takes, of any number of sizes where none is said
pub record Wanted : Type 0 where
  pub kind : Option ℕ
  pub ty : Ty

abbrev pub wanting : (kind : ℕ) → Ty → Wanted
wanting kind ty = record { kind = Some kind; ty = ty }

abbrev pub is_wanted : Wanted → Container → Bool
is_wanted wanted container =
    (elim wanted.kind [ Some kind ↦ kind == container.kind | None ↦ true ]) && same_type wanted.ty container.ty

abbrev pub are_wanted : List Wanted → List Container → Bool
are_wanted [] [] = true
are_wanted [] (container ∷ containers) = false
are_wanted (wanted ∷ more) [] = false
are_wanted (wanted ∷ more) (container ∷ containers) = is_wanted wanted container && are_wanted more containers

-- the containers that a function takes whole
abbrev pub wanted_whole : List ParamKind → List Wanted
wanted_whole [] = []
wanted_whole (Proxy dimension ty ∷ kinds) = wanting dimension ty ∷ wanted_whole kinds
wanted_whole (Scalar ty ∷ kinds) = wanted_whole kinds
wanted_whole (Index dimension ∷ kinds) = wanted_whole kinds
wanted_whole (Region dimension ty ∷ kinds) = wanted_whole kinds

-- the containers that it takes by elements
abbrev pub wanted_elements : (kind elements : ℕ) → List ParamKind → List Wanted
wanted_elements kind elements kinds = map (wanting kind) (take elements (scalar_types kinds))

-- The number of sizes that a Map or a MapReduce goes over: that of the function's index, or else that of the first
-- container.
abbrev pub common_kind : List ParamKind → List Container → ℕ
common_kind kinds containers = elim (index_dimension kinds) [
  | Some dimension ↦ dimension
  | None ↦ elim containers [ [] ↦ 0 | container ∷ more ↦ container.kind ]
]

-- the containers of a call statement, the result first; none where calls of the skeleton are no statements
abbrev pub wanted_by_statement : Plan → Signature → List Container → Option (List Wanted)
wanted_by_statement plan first given =
    let common : ℕ = common_kind first.params given in
    let whole : List Wanted = wanted_whole first.params in
    elim plan.skeleton [
      | Map ↦ Some (wanting common first.ret ∷ wanted_elements common plan.elements first.params ++ whole)
      | Reduce ↦ Some (wanting 1 first.ret ∷ wanting 2 first.ret ∷ [])
      | Scan ↦ Some (wanting 1 first.ret ∷ wanting 1 first.ret ∷ [])
      | MapOverlap ↦ elim (region_of first.params) [
        | Some region ↦ Some (wanting region.0 first.ret ∷ wanting region.0 region.1 ∷ whole)
        | None ↦ None
      ]
      | MapPairs ↦ Some (wanting 2 first.ret ∷ wanted_elements 1 2 first.params ++ whole)
      | MapPairsReduce ↦ Some (wanting 1 first.ret ∷ wanted_elements 1 2 first.params ++ whole)
      | MapReduce ↦ None
      | Call ↦ None
    ]

-- the containers of a call that is a value; none where calls of the skeleton are statements
abbrev pub wanted_by_value : Plan → Signature → List Container → Option (List Wanted)
wanted_by_value plan first given =
    let whole : List Wanted = wanted_whole first.params in
    elim plan.skeleton [
      | Reduce ↦ Some (record { kind = None; ty = first.ret } ∷ [])
      | MapReduce ↦ Some (wanted_elements (common_kind first.params given) plan.elements first.params ++ whole)
      | Call ↦ Some whole
      | Map ↦ None
      | Scan ↦ None
      | MapOverlap ↦ None
      | MapPairs ↦ None
      | MapPairsReduce ↦ None
    ]

abbrev pub fits : Option (List Wanted) → List Container → Bool
fits (Some wanted) given = are_wanted wanted given
fits None given = false

-- an instance, whose first function is this, may be called for these containers in a statement, or for a value
abbrev pub fits_statement : Plan → Signature → List Container → Bool
fits_statement plan first given = fits (wanted_by_statement plan first given) given

abbrev pub fits_value : Plan → Signature → List Container → Bool
fits_value plan first given = fits (wanted_by_value plan first given) given

-- how many uniform arguments a call takes
abbrev pub uniform_count : Plan → Signature → ℕ
uniform_count plan first = length (uniforms_taken plan.skeleton plan.elements first.params)

-- one overlap, or two for the region of a matrix
abbrev pub are_overlaps : List ParamKind → (values : ℕ) → Bool
are_overlaps kinds values =
    values == 1 || (values == 2 && (elim (region_of kinds) [ Some region ↦ region.0 == 2 | None ↦ false ]))

abbrev pub is_one_of : List (List ℕ) → List ℕ → Bool
is_one_of [] word = false
is_one_of (other ∷ words) word = same_bytes other word || is_one_of words word

-- A word sets an instance with so many values: start belongs to the skeletons that fold, scan mode to Scan, reduce mode to
-- Reduce and MapPairsReduce, the others to MapOverlap. A mode has no value.
abbrev pub may_be_set : Plan → Signature → (word : List ℕ) → (values : ℕ) → Bool
may_be_set plan first word values =
    (is_one_of (codes "setStartValue" ∷ []) word && has_start plan.skeleton && values == 1)
    || (is_one_of (codes "setPad" ∷ []) word && is_overlap plan.skeleton && values == 1)
    || (is_one_of (codes "setOverlap" ∷ []) word && is_overlap plan.skeleton && are_overlaps first.params values)
    || (is_one_of (codes "ScanMode::Inclusive" ∷ codes "ScanMode::Exclusive" ∷ []) word && is_scan plan.skeleton && values == 0)
    || (is_one_of (codes "ReduceMode::RowWise" ∷ codes "ReduceMode::ColWise" ∷ []) word && has_lines plan.skeleton && values == 0)
    || (is_one_of (codes "Edge::Duplicate" ∷ codes "Edge::Cyclic" ∷ codes "Edge::Pad" ∷ []) word && is_overlap plan.skeleton && values == 0)
