-- Which functions and numbers an instance of a skeleton is made of.
use Rattle.std.specs.Prelude.{ℕ, ◌==◌, nat_le, Bool, true, false, not, ◌&&◌, List, [], ◌∷◌, ℤ, nat_abs, Option, Some, None, is_none}
use Rattle.std.specs.List.{list_any}
use Rattle.sk_base.specs.declared.number.Ty.{Ty}
use Rattle.sk_tree.specs.Parameters.{is_region, same_type, leading_scalars, index_dimension, index_fits, region_of}
use Rattle.sk_tree.specs.declared.tree.ParamKind.{ParamKind}
use Rattle.sk_tree.specs.declared.tree.ParamKind.TheVariants.{Scalar}
use Rattle.sk_tree.specs.declared.tree.Skeleton.{Skeleton}
use Rattle.sk_tree.specs.declared.tree.Skeleton.TheVariants.{Map, Reduce, Scan, MapReduce, MapOverlap, MapPairs, MapPairsReduce, Call}

-- MapReduce and MapPairsReduce name two functions, the others one.
abbrev pub function_count : Skeleton → ℕ
function_count MapReduce = 2
function_count MapPairsReduce = 2
function_count skeleton = 1

-- An operator has two scalar parameters of its return type and no others.
abbrev pub is_operator : Ty → List ParamKind → Bool
is_operator ty (Scalar left ∷ Scalar right ∷ []) = same_type left ty && same_type right ty
is_operator ty kinds = false

-- Which functions a skeleton takes first. Reduce and Scan take an operator. MapOverlap's function has a region after the
-- index, and no element parameters; no other skeleton's has a region. MapPairs and MapPairsReduce have two element
-- parameters. Call's function has no index. The dimension of an index is the region's for MapOverlap, and 2 for MapPairs
-- and MapPairsReduce.
abbrev pub fits_skeleton : Skeleton → Ty → List ParamKind → Bool
fits_skeleton Reduce ret kinds = is_operator ret kinds
fits_skeleton Scan ret kinds = is_operator ret kinds
fits_skeleton MapOverlap ret kinds =
    elim (region_of kinds) [ Some region ↦ index_fits kinds region.0 | None ↦ false ]
fits_skeleton Map ret kinds = not (list_any is_region kinds)
fits_skeleton MapReduce ret kinds = not (list_any is_region kinds)
fits_skeleton MapPairs ret kinds = not (list_any is_region kinds) && nat_le 2 (leading_scalars kinds) && index_fits kinds 2
fits_skeleton MapPairsReduce ret kinds = not (list_any is_region kinds) && nat_le 2 (leading_scalars kinds) && index_fits kinds 2
fits_skeleton Call ret kinds = not (list_any is_region kinds) && is_none (index_dimension kinds)

-- Map and MapReduce take one optional number, the count of element parameters, at most the count of leading scalars;
-- MapReduce's is at least 1. Without it all scalars before the first proxy are elements, and MapReduce has some. MapPairs
-- and MapPairsReduce take `<1, 1>` or none. Others take no number.
abbrev pub numbers_fit : Skeleton → List ℤ → List ParamKind → Bool
numbers_fit Map [] kinds = true
numbers_fit Map (count ∷ []) kinds = nat_le (nat_abs count) (leading_scalars kinds)
numbers_fit Map numbers kinds = false
numbers_fit MapReduce [] kinds = nat_le 1 (leading_scalars kinds)
numbers_fit MapReduce (count ∷ []) kinds = nat_le 1 (nat_abs count) && nat_le (nat_abs count) (leading_scalars kinds)
numbers_fit MapReduce numbers kinds = false
numbers_fit MapPairs [] kinds = true
numbers_fit MapPairs (left ∷ right ∷ []) kinds = nat_abs left == 1 && nat_abs right == 1
numbers_fit MapPairs numbers kinds = false
numbers_fit MapPairsReduce [] kinds = true
numbers_fit MapPairsReduce (left ∷ right ∷ []) kinds = nat_abs left == 1 && nat_abs right == 1
numbers_fit MapPairsReduce numbers kinds = false
numbers_fit skeleton [] kinds = true
numbers_fit skeleton numbers kinds = false

-- how many element parameters an instance has
abbrev pub elements_of : Skeleton → List ℤ → List ParamKind → ℕ
elements_of Map [] kinds = leading_scalars kinds
elements_of Map (count ∷ more) kinds = nat_abs count
elements_of MapReduce [] kinds = leading_scalars kinds
elements_of MapReduce (count ∷ more) kinds = nat_abs count
elements_of MapPairs numbers kinds = 2
elements_of MapPairsReduce numbers kinds = 2
elements_of skeleton numbers kinds = 0

-- which of an instance's functions is its operator, if any
abbrev pub operator_place : Skeleton → Option ℕ
operator_place Reduce = Some 0
operator_place Scan = Some 0
operator_place MapReduce = Some 1
operator_place MapPairsReduce = Some 1
operator_place Map = None
operator_place MapOverlap = None
operator_place MapPairs = None
operator_place Call = None

-- the skeletons that go over pairs of elements
abbrev pub is_over_pairs : Skeleton → Bool
is_over_pairs MapPairs = true
is_over_pairs MapPairsReduce = true
is_over_pairs skeleton = false
