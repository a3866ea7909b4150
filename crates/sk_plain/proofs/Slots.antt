-- What the names in scope are kept in, by their kinds.
use Rattle.std.proofs.Common.{◌≡◌, ℕ, List, [], ◌∷◌, Option, Some, None, refl, sym, ap, ◌∙◌}
use Rattle.std.specs.Prelude.{if◌then◌else◌, true, false, Bool, option_map}
use Rattle.sk_base.specs.declared.number.Ty.{Ty}
use Rattle.sk_names.specs.Bindings.{bound_to}
use Rattle.sk_names.specs.Bytes.{same_bytes}
use Rattle.sk_scheme.specs.Scheme.{Slot}
use Rattle.sk_tree.specs.Parameters.{is_scalar, is_field}
use Rattle.sk_tree.specs.declared.tree.ParamKind.{ParamKind}
use Rattle.sk_tree.specs.declared.tree.ParamKind.TheVariants.{Scalar}
use Rattle.sk_plain.specs.Plain.{is_scalar_name, is_some_and}
use Rattle.sk_plain.proofs.Bindings.{names_of}
use Rattle.sk_plain.proofs.Parameters.{scalar_is, field_is_none}
use Rattle.sk_plain.proofs.Truths.{is_some_and_is}

abbrev kind_in : Option Slot → Option ParamKind
kind_in found = option_map (λ slot. slot.kind) found

kind_if : (b : Bool) (slot : Slot) (earlier : Option Slot) → (if b then Some slot.kind else kind_in earlier) ≡ kind_in (if b then Some slot else earlier)
kind_if true slot earlier = refl
kind_if false slot earlier = refl

kind_found : (name : List ℕ) (scope : List (List ℕ × Slot)) → bound_to name (names_of scope) ≡ kind_in (bound_to name scope)
kind_found name [] = refl
kind_found name (one ∷ scope) =
    ap (λ (o : Option ParamKind). if same_bytes one.0 name then Some one.1.kind else o) (kind_found name scope)
    ∙ kind_if (same_bytes one.0 name) one.1 (bound_to name scope)

-- a name in scope has a slot of its kind
pub record IsSlotOf (name : List ℕ) (kind : ParamKind) (scope : List (List ℕ × Slot)) : Type 0 where
  pub slot : Slot
  pub is : bound_to name scope ≡ Some slot
  pub kind_is : slot.kind ≡ kind

pub slot_of : (name : List ℕ) (kind : ParamKind) (scope : List (List ℕ × Slot)) → bound_to name (names_of scope) ≡ Some kind → IsSlotOf name kind scope
slot_of name kind scope e = by_case (bound_to name scope) refl (sym (kind_found name scope) ∙ e)
  where
    by_case : (o : Option Slot) → bound_to name scope ≡ o → kind_in o ≡ Some kind → IsSlotOf name kind scope
    by_case (Some slot) is e = record { slot = slot; is = is; kind_is = cc }
    by_case None is e = let no : ⊥ = cc in absurd no

-- a name that is not in scope has none
pub no_slot : (name : List ℕ) (scope : List (List ℕ × Slot)) → bound_to name (names_of scope) ≡ None → bound_to name scope ≡ None
no_slot name scope e = by_case (bound_to name scope) refl (sym (kind_found name scope) ∙ e)
  where
    by_case : (o : Option Slot) → bound_to name scope ≡ o → kind_in o ≡ None → bound_to name scope ≡ None
    by_case (Some slot) is e = let no : ⊥ = cc in absurd no
    by_case None is e = is

-- a name that is used as a number has the slot of a scalar
pub record IsScalarSlot (name : List ℕ) (scope : List (List ℕ × Slot)) : Type 0 where
  pub slot : Slot
  pub is : bound_to name scope ≡ Some slot
  pub ty : Ty
  pub kind : slot.kind ≡ Scalar ty

pub scalar_slot : (name : List ℕ) (scope : List (List ℕ × Slot)) → is_scalar_name name (names_of scope) ≡ true → IsScalarSlot name scope
scalar_slot name scope e =
    let found = is_some_and_is is_scalar (bound_to name (names_of scope)) e in
    let slot = slot_of name found.0 scope found.1 in
    let scalar = scalar_is found.0 found.2 in
    record { slot = slot.slot; is = slot.is; ty = scalar.0; kind = slot.kind_is ∙ scalar.1 }

-- a name with a field has the slot of a parameter
pub record IsFieldSlot (name field : List ℕ) (scope : List (List ℕ × Slot)) : Type 0 where
  pub slot : Slot
  pub is : bound_to name scope ≡ Some slot
  pub has_field : is_field slot.kind field ≡ true
  pub other : is_scalar slot.kind ≡ false

pub field_slot : (name field : List ℕ) (scope : List (List ℕ × Slot)) → is_some_and (λ kind. is_field kind field) (bound_to name (names_of scope)) ≡ true → IsFieldSlot name field scope
field_slot name field scope e =
    let found = is_some_and_is (λ (kind : ParamKind). is_field kind field) (bound_to name (names_of scope)) e in
    let slot = slot_of name found.0 scope found.1 in
    let has : is_field slot.slot.kind field ≡ true = ap (λ (kind : ParamKind). is_field kind field) slot.kind_is ∙ found.2 in
    record { slot = slot.slot; is = slot.is; has_field = has; other = field_is_none slot.slot.kind field has }
