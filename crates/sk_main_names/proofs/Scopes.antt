-- The names in scope in main: what they stand for is there in the object.
use Rattle.std.proofs.Common.{◌≡◌, ℕ, zero, suc, List, [], ◌∷◌, ◌++◌, take, Option, Some, None, slice_get, refl, sym, ap, ◌∙◌, subst}
use Rattle.std.specs.List.{list_all}
use Rattle.std.specs.Prelude.{true, false, Bool, ◌&&◌}
use Rattle.sk_base.specs.declared.number.Ty.{Ty}
use Rattle.sk_isa.specs.Objects.{function_at, signature_at}
use Rattle.sk_isa.specs.declared.code.Instr.{Instr}
use Rattle.sk_isa.specs.declared.code.Instr.TheVariants as instr
use Rattle.sk_isa.specs.declared.object.Object.{Object}
use Rattle.sk_isa.specs.declared.object.Plan.{Plan}
use Rattle.sk_isa.specs.declared.object.Signature.{Signature}
use Rattle.sk_main_code.specs.MainSoundness.{is_declared, main_scalar, names_in_main}
use Rattle.sk_main_scheme.specs.MainScheme.{Made, Named, Number, Whole, Called, dropped}
use Rattle.sk_names.specs.Bindings.{bound_to}
use Rattle.sk_names.specs.Bytes.{same_bytes}
use Rattle.sk_plain.proofs.Bindings.{bound_to-here}
use Rattle.sk_plain.proofs.Lists.{all_append}
use Rattle.sk_tree.specs.Parameters.{is_scalar}
use Rattle.sk_tree.specs.declared.declared.Declared.{Declared}
use Rattle.sk_tree.specs.declared.tree.Skeleton.TheVariants.{Map}

abbrev pub Scope : Type 0
Scope = List (List ℕ × Named)

-- an instance as main knows it, from its plan and its first function
abbrev pub planned : (number : ℕ) → Plan → Signature → Made
planned number plan first = record { number = number; skeleton = plan.skeleton; elements = plan.elements; kinds = first.params; ret = first.ret }

module _ (object : Object) where
  -- all that a code names is there
  abbrev pub Names : List Instr → Type 0
  Names code = list_all (names_in_main object) code ≡ true

  pub names_append : (one other : List Instr) → Names one → Names other → Names (one ++ other)
  names_append one other = all_append (names_in_main object) one other

  pub one_named : (i : Instr) → names_in_main object i ≡ true → Names (i ∷ [])
  one_named i e = ap (λ (b : Bool). b && true) e

  -- a test of a container that is declared
  pub declared_passes : (container : ℕ) (test : Declared → Bool) (declared : Declared) → slice_get object.containers container ≡ Some declared → test declared ≡ true
      → is_declared object container test ≡ true
  declared_passes container test declared there e =
      ap (λ (o : Option Declared). elim o as (λ x. Bool) [ Some declared ↦ test declared | None ↦ false ]) there ∙ e

  -- a vector that is declared
  pub record IsVector (container : ℕ) (ty : Ty) : Type 0 where
    pub declared : Declared
    pub there : slice_get object.containers container ≡ Some declared
    pub kind : declared.kind ≡ 1
    pub ty_is : declared.ty ≡ ty

  -- a Map of a function of scalars
  pub record IsMap (made : Made) : Type 0 where
    pub plan : Plan
    pub there : slice_get object.instances made.number ≡ Some plan
    pub same : made ≡ planned made.number plan (signature_at object (function_at plan 0))
    pub skeleton : plan.skeleton ≡ Map
    pub scalars : list_all is_scalar (signature_at object (function_at plan 0)).params ≡ true

  -- what a name stands for is there
  abbrev pub IsThere : Named → Type 0
  IsThere (Number slot ty) = main_scalar object slot ≡ Some ty
  IsThere (Whole container ty) = IsVector container ty
  IsThere (Called made) = IsMap made

  abbrev pub InScope : Scope → Type 0
  InScope [] = Unit {0}
  InScope (one ∷ scope) = IsThere one.1 × InScope scope

  abbrev pub IsFound : Option Named → Type 0
  IsFound (Some named) = IsThere named
  IsFound None = Unit {0}

  -- a name is looked up
  pub name_found : (name : List ℕ) (scope : Scope) → InScope scope → IsFound (bound_to name scope)
  name_found name [] h = tt
  name_found name (one ∷ scope) h = by_test (same_bytes one.0 name) refl (name_found name scope h.1)
    where
      by_test : (b : Bool) → same_bytes one.0 name ≡ b → IsFound (bound_to name scope) → IsFound (bound_to name (one ∷ scope))
      by_test true s later = subst (λ (o : Option Named). IsFound o) (sym (bound_to-here name one.0 one scope true refl s)) h.0
      by_test false s later = subst (λ (o : Option Named). IsFound o) (sym (bound_to-here name one.0 one scope false refl s)) later

  -- the latest names are in scope
  pub taken_in_scope : (n : ℕ) (scope : Scope) → InScope scope → InScope (take n scope)
  taken_in_scope zero scope h = tt
  taken_in_scope (suc n) [] h = tt
  taken_in_scope (suc n) (one ∷ scope) h = (h.0, taken_in_scope n scope h.1)

  -- containers that are dropped are declared
  pub dropped_named : (scope : Scope) → InScope scope → Names (dropped scope)
  dropped_named [] h = refl
  dropped_named (one ∷ scope) h = by_named one.1 h.0 (dropped_named scope h.1)
    where
      by_named : (named : Named) → IsThere named → Names (dropped scope)
          → Names (elim named as (λ x. List Instr) [ Whole container ty ↦ dropped scope ++ instr.Drop container ∷ [] | Number slot ty ↦ dropped scope | Called made ↦ dropped scope ])
      by_named (Whole container ty) there later =
          names_append (dropped scope) (instr.Drop container ∷ []) later
          (one_named (instr.Drop container) (declared_passes container (λ declared. true) there.declared there.there refl))
      by_named (Number slot ty) there later = later
      by_named (Called made) there later = later
