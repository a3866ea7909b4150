-- Which operands stand for containers.
use Rattle.std.proofs.Common.{◌≡◌, ℕ, zero, suc, ◌+◌, ◌-◌, ◌<◌, ◌≤◌, true, false, List, [], ◌∷◌, length, ℤ, Option, Some, slice_get, refl, sym, ap, subst, ◌∙◌, arith}
use Rattle.std.specs.List.{list_all}
use Rattle.sk_base.specs.declared.number.Ty.{Ty}
use Rattle.sk_meaning.specs.Evaluation.{Argument, Place}
use Rattle.sk_tree.specs.Parameters.{is_scalar, leading_scalars, proxies_then_scalars, scalars_then_proxies}
use Rattle.sk_tree.specs.declared.tree.ParamKind.{ParamKind}
use Rattle.sk_tree.specs.declared.tree.ParamKind.TheVariants.{Scalar, Index, Proxy, Region}
use Rattle.sk_arguments.specs.Arguments.{At, Given, Reading, arguments_after, arguments_of, operand_kinds, place_of, whole_of}
use Rattle.sk_isa.specs.Soundness.{is_container}
use Rattle.sk_vm.specs.Places.{indices_in, takes_places}
use Rattle.sk_vm.specs.Surroundings.{skipped_by}
use Rattle.sk_vm.proofs.Arguments.{later, plus_none, taken}
use Rattle.sk_vm.proofs.Finds.{all_scalars}

-- a container is no scalar
no_scalar : (kind : ParamKind) → is_container kind ≡ true → is_scalar kind ≡ true → ⊥
no_scalar (Scalar ty) container scalar = cc
no_scalar (Index dimension) container scalar = cc
no_scalar (Proxy dimension ty) container scalar = cc
no_scalar (Region dimension ty) container scalar = cc

same_kind : (own kind : ParamKind) → Some own ≡ Some kind → own ≡ kind
same_kind own kind is = cc

-- Of parameters, some having been given their arguments, the container in a place is given an operand, which is of its kind.
pub record Stands (reading : Reading) (given : Given) (at : At) (elements operand uniform : ℕ) (kinds : List ParamKind) (k : ℕ) (kind : ParamKind) (before : ℕ) : Type 0 where
  pub argument : slice_get (arguments_after reading given at (taken elements operand uniform) kinds) k ≡ Some (whole_of given (operand + before))
  pub kind_is : slice_get (operand_kinds elements kinds) before ≡ Some kind

module _ (reading : Reading) (given : Given) (at : At) where
  proxies_stand : (elements operand uniform : ℕ) (kinds : List ParamKind) (k : ℕ) (kind : ParamKind) → proxies_then_scalars kinds ≡ true
      → slice_get kinds k ≡ Some kind → is_container kind ≡ true → Stands reading given at elements operand uniform kinds k kind k
  proxies_stand elements operand uniform [] k kind ordered is container = cc
  proxies_stand elements operand uniform (Scalar ty ∷ kinds) k kind ordered is container =
      absurd (no_scalar kind container (all_scalars (Scalar ty ∷ kinds) ordered k kind is))
  proxies_stand elements operand uniform (Index dimension ∷ kinds) k kind ordered is container = cc
  proxies_stand elements operand uniform (Proxy dimension ty ∷ kinds) zero kind ordered is container =
      record { argument = ap (λ (n : ℕ). Some (whole_of given n)) (plus_none operand); kind_is = is }
  proxies_stand elements operand uniform (Proxy dimension ty ∷ kinds) (suc k) kind ordered is container =
      let rest = proxies_stand elements (suc operand) uniform kinds k kind ordered is container in
      record { argument = rest.argument ∙ ap (λ (n : ℕ). Some (whole_of given n)) (later operand k); kind_is = rest.kind_is }
  proxies_stand elements operand uniform (Region dimension ty ∷ kinds) k kind ordered is container = cc

  scalars_stand : (elements operand uniform : ℕ) (kinds : List ParamKind) (k : ℕ) (kind : ParamKind) → scalars_then_proxies kinds ≡ true
      → slice_get kinds k ≡ Some kind → is_container kind ≡ true
      → (leading_scalars kinds ≤ k) × Stands reading given at elements operand uniform kinds k kind (k - (leading_scalars kinds - elements))
  scalars_stand elements operand uniform [] k kind ordered is container = cc
  scalars_stand elements operand uniform (Scalar ty ∷ kinds) zero kind ordered is container =
      let not_so : false ≡ true = ap is_container (same_kind (Scalar ty) kind is) ∙ container in cc
  scalars_stand zero operand uniform (Scalar ty ∷ kinds) (suc k) kind ordered is container =
      let rest = scalars_stand zero operand (suc uniform) kinds k kind ordered is container in
      let upto = rest.0 in
      let same : k - (leading_scalars kinds - 0) ≡ suc k - (suc (leading_scalars kinds) - 0) = omega arith in (
        omega arith,
        record {
          argument = rest.1.argument ∙ ap (λ (n : ℕ). Some (whole_of given (operand + n))) same;
          kind_is = ap (λ (n : ℕ). slice_get (operand_kinds zero kinds) n) (sym same) ∙ rest.1.kind_is;
        },
      )
  scalars_stand (suc fewer) operand uniform (Scalar ty ∷ kinds) (suc k) kind ordered is container =
      let rest = scalars_stand fewer (suc operand) uniform kinds k kind ordered is container in
      let upto = rest.0 in
      let same : suc operand + (k - (leading_scalars kinds - fewer)) ≡ operand + (suc k - (suc (leading_scalars kinds) - suc fewer)) = omega arith in
      let more : suc k - (suc (leading_scalars kinds) - suc fewer) ≡ suc (k - (leading_scalars kinds - fewer)) = omega arith in (
        omega arith,
        record {
          argument = rest.1.argument ∙ ap (λ (n : ℕ). Some (whole_of given n)) same;
          kind_is = ap (λ (n : ℕ). slice_get (Scalar ty ∷ operand_kinds fewer kinds) n) more ∙ rest.1.kind_is;
        },
      )
  scalars_stand elements operand uniform (Index dimension ∷ kinds) k kind ordered is container = cc
  scalars_stand elements operand uniform (Proxy dimension ty ∷ kinds) k kind ordered is container =
      let rest = proxies_stand elements operand uniform (Proxy dimension ty ∷ kinds) k kind ordered is container in
      let same : k ≡ k - (0 - elements) = omega arith in (
        omega arith,
        record {
          argument = rest.argument ∙ ap (λ (n : ℕ). Some (whole_of given (operand + n))) same;
          kind_is = ap (λ (n : ℕ). slice_get (operand_kinds elements (Proxy dimension ty ∷ kinds)) n) (sym same) ∙ rest.kind_is;
        },
      )
  scalars_stand elements operand uniform (Region dimension ty ∷ kinds) k kind ordered is container = cc

  -- a function's container
  pub record Standing (params : List ParamKind) (slot : ℕ) (kind : ParamKind) : Type 0 where
    pub behind : indices_in params ≤ slot
    pub enough : skipped_by (indices_in params) (leading_scalars params) reading.elements ≤ slot
    pub argument : slice_get (arguments_of reading params given at) slot
        ≡ Some (whole_of given (slot - skipped_by (indices_in params) (leading_scalars params) reading.elements))
    pub kind_is : slice_get (operand_kinds reading.elements params) (slot - skipped_by (indices_in params) (leading_scalars params) reading.elements) ≡ Some kind

  from_first : (params : List ParamKind) (slot : ℕ) (kind : ParamKind) → indices_in params ≡ 0 → (leading_scalars params ≤ slot)
      × Stands reading given at reading.elements 0 0 params slot kind (slot - (leading_scalars params - reading.elements)) → Standing params slot kind
  from_first params slot kind none h =
      let upto = h.0 in
      let same : slot - (leading_scalars params - reading.elements) ≡ slot - (indices_in params + (leading_scalars params - reading.elements)) = omega arith in
      let same_first : 0 + (slot - (leading_scalars params - reading.elements)) ≡ slot - (indices_in params + (leading_scalars params - reading.elements)) = omega arith in
      record {
        behind = omega arith;
        enough = omega arith;
        argument = h.1.argument ∙ ap (λ (n : ℕ). Some (whole_of given n)) same_first;
        kind_is = ap (λ (n : ℕ). slice_get (operand_kinds reading.elements params) n) (sym same) ∙ h.1.kind_is;
      }

  pub container_stands : (params : List ParamKind) (slot : ℕ) (kind : ParamKind) → takes_places params ≡ true → slice_get params slot ≡ Some kind → is_container kind ≡ true
      → Standing params slot kind
  container_stands [] slot kind takes is container = cc
  container_stands (Scalar ty ∷ kinds) slot kind takes is container =
      from_first (Scalar ty ∷ kinds) slot kind refl (scalars_stand reading.elements 0 0 (Scalar ty ∷ kinds) slot kind takes is container)
  container_stands (Proxy dimension ty ∷ kinds) slot kind takes is container =
      from_first (Proxy dimension ty ∷ kinds) slot kind refl (scalars_stand reading.elements 0 0 (Proxy dimension ty ∷ kinds) slot kind takes is container)
  container_stands (Region dimension ty ∷ kinds) slot kind takes is container = cc
  container_stands (Index dimension ∷ kinds) zero kind takes is container =
      let not_so : false ≡ true = ap is_container (same_kind (Index dimension) kind is) ∙ container in cc
  container_stands (Index dimension ∷ kinds) (suc k) kind takes is container =
      let h = scalars_stand reading.elements 0 0 kinds k kind takes is container in
      let upto = h.0 in
      let same : k - (leading_scalars kinds - reading.elements) ≡ suc k - (1 + (leading_scalars kinds - reading.elements)) = omega arith in
      let same_first : 0 + (k - (leading_scalars kinds - reading.elements)) ≡ suc k - (1 + (leading_scalars kinds - reading.elements)) = omega arith in
      record {
        behind = omega arith;
        enough = omega arith;
        argument = h.1.argument ∙ ap (λ (n : ℕ). Some (whole_of given n)) same_first;
        kind_is = ap (λ (n : ℕ). slice_get (operand_kinds reading.elements kinds) n) (sym same) ∙ h.1.kind_is;
      }

-- an index stands first, and is given the place
behind_index : (kinds : List ParamKind) (k dimension : ℕ) → proxies_then_scalars kinds ≡ true → slice_get kinds k ≡ Some (Index dimension) → ⊥
behind_index [] k dimension ordered is = cc
behind_index (Scalar ty ∷ kinds) k dimension ordered is = let not_so : false ≡ true = all_scalars (Scalar ty ∷ kinds) ordered k (Index dimension) is in cc
behind_index (Index own ∷ kinds) k dimension ordered is = cc
behind_index (Proxy own ty ∷ kinds) zero dimension ordered is = cc
behind_index (Proxy own ty ∷ kinds) (suc k) dimension ordered is = behind_index kinds k dimension ordered is
behind_index (Region own ty ∷ kinds) k dimension ordered is = cc

no_later_index : (kinds : List ParamKind) (k dimension : ℕ) → scalars_then_proxies kinds ≡ true → slice_get kinds k ≡ Some (Index dimension) → ⊥
no_later_index [] k dimension ordered is = cc
no_later_index (Scalar ty ∷ kinds) zero dimension ordered is = cc
no_later_index (Scalar ty ∷ kinds) (suc k) dimension ordered is = no_later_index kinds k dimension ordered is
no_later_index (Index own ∷ kinds) k dimension ordered is = cc
no_later_index (Proxy own ty ∷ kinds) k dimension ordered is = behind_index (Proxy own ty ∷ kinds) k dimension ordered is
no_later_index (Region own ty ∷ kinds) k dimension ordered is = cc

pub record IndexStands (params : List ParamKind) (slot dimension : ℕ) : Type 0 where
  pub first : slot ≡ 0
  pub kinds : List ParamKind
  pub is : params ≡ Index dimension ∷ kinds
  pub ordered : scalars_then_proxies kinds ≡ true

pub index_stands : (params : List ParamKind) (slot dimension : ℕ) → takes_places params ≡ true → slice_get params slot ≡ Some (Index dimension) → IndexStands params slot dimension
index_stands [] slot dimension takes is = cc
index_stands (Scalar ty ∷ kinds) slot dimension takes is = absurd (no_later_index (Scalar ty ∷ kinds) slot dimension takes is)
index_stands (Proxy own ty ∷ kinds) slot dimension takes is = absurd (no_later_index (Proxy own ty ∷ kinds) slot dimension takes is)
index_stands (Region own ty ∷ kinds) slot dimension takes is = cc
index_stands (Index own ∷ kinds) zero dimension takes is =
    let same : own ≡ dimension = cc in
    record { first = refl; kinds = kinds; is = ap (λ (n : ℕ). Index n ∷ kinds) same; ordered = takes }
index_stands (Index own ∷ kinds) (suc k) dimension takes is = absurd (no_later_index kinds k dimension takes is)
