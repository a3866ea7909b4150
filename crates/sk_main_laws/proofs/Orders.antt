-- The operands of a call in the order of its function's parameters, and where indices are counted.
use Rattle.std.proofs.Common.{◌≡◌, ℕ, zero, suc, ◌/◌, ◌%◌, ◌^◌, ◌<◌, ◌≤◌, Bool, true, false, ◌&&◌, not, ◌==◌, nat_le, List, [], ◌∷◌, ◌++◌, length, map, take, Option, Some, None, slice_get, unwrap_or, arith, ap, sym, refl, subst, ◌∙◌}
use Rattle.std.proofs.lemmas.Bool.{and_parts, eqb-true, leb-true}
use Rattle.std.proofs.Math.Nat.{div-le_self, mod-le}
use Rattle.std.specs.List.{list_any}
use Rattle.sk_arguments.specs.Arguments.{operand_kinds}
use Rattle.sk_arguments.specs.Places.{coordinates_of}
use Rattle.sk_base.specs.Shape.{IsShape, cells_of}
use Rattle.sk_base.specs.declared.number.Ty.{Ty}
use Rattle.sk_isa.specs.Soundness.{SuitsParam}
use Rattle.sk_call_shapes.specs.CallShapes.{Container as Kinded, Wanted, common_kind, wanted_elements, wanted_whole, wanting}
use Rattle.sk_main_laws.proofs.Arguments.{wanted_for, wanted_in_order}
use Rattle.sk_main_laws.proofs.Skeletons.{index_in}
use Rattle.sk_main_laws.specs.Calls.{AreAsWanted}
use Rattle.sk_meaning.specs.Evaluation.{Place}
use Rattle.sk_tree.specs.Parameters.{index_dimension, index_fits, is_region, leading_scalars, scalar_types}
use Rattle.sk_tree.specs.declared.tree.ParamKind.{ParamKind}
use Rattle.sk_tree.specs.declared.tree.ParamKind.TheVariants.{Scalar, Index, Proxy, Region}
use Rattle.sk_tree.specs.declared.tree.Skeleton.TheVariants.{MapReduce}
use Rattle.sk_world.specs.Calls.{counted_in}
use Rattle.sk_world.specs.World.{Container}

-- indices of a MapReduce lie in its first element operand
pub first_index : (common elements : ℕ) (types : List Ty) (whole : List Wanted) (containers : List Container) → 1 ≤ elements → elements ≤ length types
    → AreAsWanted (map (wanting common) (take elements types) ++ whole) containers → (dimension index : ℕ) → common ≡ dimension
    → index < (elim (slice_get (take elements (map (λ (c : Container). c.sizes) containers)) 0) [ Some shape ↦ cells_of shape | None ↦ 0 ])
    → SuitsParam (Index dimension) (Place (coordinates_of (unwrap_or (counted_in MapReduce None containers) []) index))
first_index common zero types whole containers some upto h dimension index is less = absurd (omega arith)
first_index common (suc n) [] whole containers some upto h dimension index is less = absurd (omega arith)
first_index common (suc n) (ty ∷ types) whole [] some upto h dimension index is less = absurd h
first_index common (suc n) (ty ∷ types) whole (container ∷ containers) some upto h dimension index is less =
    index_in container.sizes dimension index h.0.shape (h.0.kind ∙ is) less

pub types_many : (kinds : List ParamKind) → leading_scalars kinds ≤ length (scalar_types kinds)
types_many [] = omega arith
types_many (Scalar ty ∷ kinds) = let h = types_many kinds in omega arith
types_many (Index dimension ∷ kinds) = types_many kinds
types_many (Proxy dimension ty ∷ kinds) = omega arith
types_many (Region dimension ty ∷ kinds) = omega arith

-- a call that is not made
pub not_made : {A : Type 0} → (false ≡ true) → A
not_made e = absurd (no e)
  where
    no : (false ≡ true) → ⊥
    no e = cc

pub not_so : (test : Bool) → not test ≡ true → test ≡ false
not_so true e = cc
not_so false e = refl

-- the index of a Map or a MapReduce goes over the common kind
pub common_is : (kinds : List ParamKind) (given : List Kinded) (dimension : ℕ) → index_dimension kinds ≡ Some dimension → common_kind kinds given ≡ dimension
common_is kinds given dimension is =
    ap (λ (found : Option ℕ). elim found [ Some dimension ↦ dimension | None ↦ elim given [ [] ↦ 0 | container ∷ more ↦ container.kind ] ]) is

-- elements and containers given whole, in the order of the parameters
pub in_order : (common elements : ℕ) (kinds : List ParamKind) → elements ≤ leading_scalars kinds → not (list_any is_region kinds) ≡ true → (more : List Container)
    → AreAsWanted (map (wanting common) (take elements (scalar_types kinds)) ++ wanted_whole kinds) more
    → AreAsWanted (map (wanted_for common) (operand_kinds elements kinds)) more
in_order common elements kinds upto none more h =
    subst (λ (wanted : List Wanted). AreAsWanted wanted more) (sym (wanted_in_order common elements kinds upto (not_so (list_any is_region kinds) none))) h

-- a function over pairs: no region, two elements at least, and an index of two places if any
pub record PairsFit (kinds : List ParamKind) : Type 0 where
  pub none : not (list_any is_region kinds) ≡ true
  pub two : 2 ≤ leading_scalars kinds
  pub index : index_fits kinds 2 ≡ true

pub pairs_fit : (kinds : List ParamKind) → (not (list_any is_region kinds) && nat_le 2 (leading_scalars kinds) && index_fits kinds 2) ≡ true → PairsFit kinds
pairs_fit kinds e =
    let both = and_parts (not (list_any is_region kinds) && nat_le 2 (leading_scalars kinds)) (index_fits kinds 2) e in
    let two = and_parts (not (list_any is_region kinds)) (nat_le 2 (leading_scalars kinds)) both.0 in
    record { none = two.0; two = leb-true 2 (leading_scalars kinds) two.1; index = both.1 }

pub index_is : (kinds : List ParamKind) (dimension wanted : ℕ) → index_dimension kinds ≡ Some dimension → index_fits kinds wanted ≡ true → dimension ≡ wanted
index_is kinds dimension wanted is e =
    eqb-true dimension wanted (subst (λ (found : Option ℕ). (elim found [ Some index ↦ index == wanted | None ↦ true ]) ≡ true) is e)

pub pairs_in_order : (elements : ℕ) (kinds : List ParamKind) → elements ≡ 2 → PairsFit kinds → (more : List Container)
    → AreAsWanted (wanted_elements 1 2 kinds ++ wanted_whole kinds) more → AreAsWanted (map (wanted_for 1) (operand_kinds elements kinds)) more
pairs_in_order elements kinds two pairs more h =
    in_order 1 elements kinds (subst (λ (n : ℕ). n ≤ leading_scalars kinds) (sym two) pairs.two) pairs.none more
    (subst (λ (n : ℕ). AreAsWanted (map (wanting 1) (take n (scalar_types kinds)) ++ wanted_whole kinds) more) (sym two) h)

-- both places of a pair are small
pub quotient_small : (n columns bound : ℕ) → n < bound → n / columns < bound
quotient_small n columns bound less = upto (n / columns) (div-le_self n columns)
  where
    upto : (q : ℕ) → q ≤ n → q < bound
    upto q h = omega arith

pub rest_small : (n columns bound : ℕ) → n < bound → n % columns < bound
rest_small n columns bound less = upto (n % columns) (mod-le n columns)
  where
    upto : (q : ℕ) → q ≤ n → q < bound
    upto q h = omega arith

-- an index in a container is small
pub in_shape : (index : ℕ) (sizes : List ℕ) → IsShape sizes → index < cells_of sizes → index < 2 ^ 24
in_shape index sizes shape less = below (cells_of sizes) less shape.product
  where
    below : (cells : ℕ) → index < cells → cells ≤ 2 ^ 24 → index < 2 ^ 24
    below cells less upto = omega arith
