-- Parameters: their kinds, and the names that they bring into scope.
use Rattle.std.proofs.Common.{◌≡◌, ℕ, suc, List, [], ◌∷◌, length, map, refl, ◌∙◌}
use Rattle.std.proofs.lemmas.List.{length-map}
use Rattle.std.proofs.lemmas.List.Folds.{list_all-map}
use mathlib.Core.List.{reverse_aux}
use Rattle.std.specs.Prelude.{true, false, Bool}
use Rattle.std.specs.List.{list_all}
use Rattle.sk_base.specs.declared.number.Ty.{Ty}
use Rattle.sk_tree.specs.declared.tree.Param.{Param}
use Rattle.sk_tree.specs.declared.tree.ParamKind.{ParamKind}
use Rattle.sk_tree.specs.declared.tree.ParamKind.TheVariants.{Scalar, Index, Proxy, Region}
use Rattle.sk_scheme.specs.Scheme.{Slot, parameters_from, kinds_of}
use Rattle.sk_tree.specs.Parameters.{is_scalar, is_field}
use Rattle.sk_plain.proofs.Bindings.{names_of}

pub scalar_is : (kind : ParamKind) → is_scalar kind ≡ true → (ty : Ty) × (kind ≡ Scalar ty)
scalar_is (Scalar ty) e = (ty, refl)
scalar_is (Index dimension) e = let no : ⊥ = cc in absurd no
scalar_is (Proxy dimension ty) e = let no : ⊥ = cc in absurd no
scalar_is (Region dimension ty) e = let no : ⊥ = cc in absurd no

-- a scalar has no field
pub field_is_none : (kind : ParamKind) (field : List ℕ) → is_field kind field ≡ true → is_scalar kind ≡ false
field_is_none (Scalar ty) field e = let no : ⊥ = cc in absurd no
field_is_none (Index dimension) field e = refl
field_is_none (Proxy dimension ty) field e = refl
field_is_none (Region dimension ty) field e = refl

pub kinds-length : (params : List Param) → length (kinds_of params) ≡ length params
kinds-length params = length-map params (λ param. param.kind)

-- what holds of the kinds of all parameters
pub kinds_all : (test : ParamKind → Bool) (params : List Param) → list_all (λ param. test param.kind) params ≡ true → list_all test (kinds_of params) ≡ true
kinds_all test params e = list_all-map test (λ (param : Param). param.kind) params ∙ e

-- the parameters with their kinds, the latest first, before those that were in scope
pub params_names : (params : List Param) (number : ℕ) (scope : List (List ℕ × Slot)) → reverse_aux (map (λ (param : Param). (param.name, param.kind)) params) (names_of scope) ≡ names_of (parameters_from number params scope)
params_names [] number scope = refl
params_names (param ∷ params) number scope = params_names params (suc number) ((param.name, record { number = number; kind = param.kind }) ∷ scope)
