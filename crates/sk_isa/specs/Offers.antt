-- By which variants the calls of an instance may be run.
use Rattle.std.specs.Prelude.{ℕ, Bool, true, false, ◌&&◌, ◌==◌, if◌then◌else◌, List, [], ◌∷◌, ◌++◌, is_some}
use Rattle.std.specs.List.{list_any}
use denote.Enum.Bare.{sameb}
use Rattle.sk_base.specs.contracts.choice.Variant as variants
use Rattle.sk_base.specs.declared.choice.Variant.{Variant}
use Rattle.sk_base.specs.declared.choice.Variant.TheVariants.{Sequential, Chunked, Cluster, Lanes}
use Rattle.sk_tree.specs.declared.tree.Skeleton.TheVariants.{Map, Reduce, Scan, MapReduce, MapOverlap, MapPairs, MapPairsReduce, Call}
use Rattle.sk_isa.specs.Objects.{function_at, operator_at}
use Rattle.sk_isa.specs.declared.object.Object.{Object}
use Rattle.sk_isa.specs.declared.object.Plan.{Plan}

-- a function of the instance, by its place in the declaration, is marked as an associative operator
abbrev pub is_listed : Object → Plan → (place : ℕ) → Bool
is_listed object plan place = is_some (operator_at object (function_at plan place))

-- A call may be cut into parts where no fold goes over them, or where its operator is associative. Call has one part.
abbrev pub has_parts : Object → Plan → Bool
has_parts object plan = elim plan.skeleton [
  | Map ↦ true
  | MapOverlap ↦ true
  | MapPairs ↦ true
  | Reduce ↦ is_listed object plan 0
  | Scan ↦ is_listed object plan 0
  | MapReduce ↦ is_listed object plan 1
  | MapPairsReduce ↦ is_listed object plan 1
  | Call ↦ false
]

-- lanes compute an associative operator: a Map's function of two elements, or the operator of a Reduce
abbrev pub has_lanes : Object → Plan → Bool
has_lanes object plan = elim plan.skeleton [
  | Map ↦ plan.elements == 2 && is_listed object plan 0
  | Reduce ↦ is_listed object plan 0
  | MapOverlap ↦ false
  | MapPairs ↦ false
  | Scan ↦ false
  | MapReduce ↦ false
  | MapPairsReduce ↦ false
  | Call ↦ false
]

-- a variant may run the instance's calls, by the marks of its functions
abbrev pub offers : Object → Plan → Variant → Bool
offers object plan Sequential = true
offers object plan Chunked = has_parts object plan
offers object plan Cluster = has_parts object plan
offers object plan Lanes = has_lanes object plan

-- the variants that may run the instance's calls by these marks, in the order in which they are listed
abbrev pub offers_of : Object → Plan → List Variant
offers_of object plan =
    Sequential ∷ (if has_parts object plan then Chunked ∷ Cluster ∷ [] else [])
    ++ (if has_lanes object plan then Lanes ∷ [] else [])

unfoldable pub same_variant : Variant → Variant → Bool
same_variant = sameb variants.the_type

-- the instance offers a variant: its plan lists it
abbrev pub is_offered : Plan → Variant → Bool
is_offered plan variant = list_any (λ offered. same_variant offered variant) plan.variants
