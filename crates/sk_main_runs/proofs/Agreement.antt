-- The names in scope, where one is declared or assigned, and where a block ends.
use Rattle.std.proofs.Common.{◌≡◌, ℕ, suc, ◌<◌, ◌≤◌, List, [], ◌∷◌, ◌++◌, length, ℤ, Option, Some, None, refl, sym, ap, ◌∙◌, subst, arith}
use Rattle.std.specs.Prelude.{slice_set, if◌then◌else◌, true, false, Bool}
use Rattle.sk_base.specs.Arithmetic.{InRange, wrapped}
use Rattle.sk_base.specs.ArithmeticLaws.{wrapped-in_range}
use Rattle.sk_base.specs.declared.number.Ty.{Ty}
use Rattle.sk_isa.specs.declared.object.Object.{Object}
use Rattle.sk_main_run.specs.MainNames.{Meant, Scope}
use Rattle.sk_main_run.specs.MainNames as tree
use Rattle.sk_main_run.specs.MainRun.{assigned}
use Rattle.sk_main_runs.proofs.Names.{named_wider, below_le}
use Rattle.sk_main_runs.specs.SameMeaning.{Agree, IsNamed, below_it}
use Rattle.sk_main_scheme.specs.MainScheme.{Named, Number, Whole, Called}
use Rattle.sk_names.specs.Bindings.{bound_to, rebound}
use Rattle.sk_names.specs.Bytes.{same_bytes}
use Rattle.sk_plain.proofs.Bindings.{bound_to-here}
use Rattle.sk_plain.proofs.Lists.{slice_get-set_same, slice_get-set_other, slice_get-set_above}

rebound-here : (name : List ℕ) (change : Meant → Meant) (p : List ℕ × Meant) (values : Scope) (b : Bool) → same_bytes p.0 name ≡ b
    → rebound name change (p ∷ values) ≡ (if b then (p.0, change p.1) ∷ values else p ∷ rebound name change values)
rebound-here name change p values b s = ap (λ c. if c then (p.0, change p.1) ∷ values else p ∷ rebound name change values) s

-- a higher bound for the names before one
below_mono : (named : Named) (bound more : ℕ) → bound ≤ more → below_it named bound ≤ below_it named more
below_mono (Number slot ty) bound more le = omega arith
below_mono (Whole container ty) bound more le = le
below_mono (Called made) bound more le = le

module _ (object : Object) where
  pub agree_wider : (scope : List (List ℕ × Named)) (values : Scope) (slots : List ℤ) (bound more : ℕ) → bound ≤ more → Agree object scope values slots bound → Agree object scope values slots more
  agree_wider [] [] slots bound more le h = tt
  agree_wider (one ∷ scope) (other ∷ values) slots bound more le h = (
    h.0,
    named_wider object one.1 other.1 slots bound more le h.1,
    agree_wider scope values slots (below_it one.1 bound) (below_it one.1 more) (below_mono one.1 bound more le) h.2,
  )
  agree_wider scope values slots bound more le h = absurd h

  named_set : (one : Named) (other : Meant) (slots : List ℤ) (bound slot : ℕ) (v : ℤ) → bound ≤ slot → IsNamed object one other slots bound → IsNamed object one other (slice_set slots slot v) bound
  named_set (Number number ty) (tree.Scalar other value) slots bound slot v le h =
      record { ty_is = h.ty_is; below = h.below; held = slice_get-set_other slots number slot v (omega (arith, h.below, le)) ∙ h.held; fits = h.fits }
  named_set (Whole container ty) (tree.Whole number other) slots bound slot v le h = h
  named_set (Called made) (tree.Called instance) slots bound slot v le h = h
  named_set one other slots bound slot v le h = absurd h

  -- a slot that is not yet one of a name
  pub agree_set : (scope : List (List ℕ × Named)) (values : Scope) (slots : List ℤ) (bound slot : ℕ) (v : ℤ) → bound ≤ slot → Agree object scope values slots bound
      → Agree object scope values (slice_set slots slot v) bound
  agree_set [] [] slots bound slot v le h = tt
  agree_set (one ∷ scope) (other ∷ values) slots bound slot v le h = (
    h.0,
    named_set one.1 other.1 slots bound slot v le h.1,
    agree_set scope values slots (below_it one.1 bound) slot v (omega (arith, le, below_le object one.1 other.1 slots bound h.1)) h.2,
  )
  agree_set scope values slots bound slot v le h = absurd h

  -- a scalar is declared in the next slot
  pub agree_declare : (scope : List (List ℕ × Named)) (values : Scope) (slots : List ℤ) (slot : ℕ) (name : List ℕ) (ty : Ty) (v : ℤ) → slot < length slots → InRange ty v
      → Agree object scope values slots slot → Agree object ((name, Number slot ty) ∷ scope) ((name, tree.Scalar ty v) ∷ values) (slice_set slots slot v) (suc slot)
  agree_declare scope values slots slot name ty v within fits h = (
    refl,
    record { ty_is = refl; below = omega arith; held = slice_get-set_same slots slot v within; fits = fits },
    agree_set scope values slots slot slot v (omega arith) h,
  )

  -- what assigning to a name that is looked up leaves
  abbrev pub IsSet : Option Named → List (List ℕ × Named) → List ℕ → Scope → List ℤ → ℕ → Type 0
  IsSet (Some (Number slot ty)) scope name values slots bound =
      (slot < bound) × ((v : ℤ) → slot < length slots → Agree object scope (rebound name (assigned v) values) (slice_set slots slot (wrapped ty v)) bound)
  IsSet (Some (Whole container ty)) scope name values slots bound = Unit {0}
  IsSet (Some (Called made)) scope name values slots bound = Unit {0}
  IsSet None scope name values slots bound = Unit {0}

  set_first : (name a b : List ℕ) (one : Named) (other : Meant) (scope : List (List ℕ × Named)) (values : Scope) (slots : List ℤ) (bound : ℕ) → a ≡ b → IsNamed object one other slots bound
      → Agree object scope values slots (below_it one bound) → same_bytes b name ≡ true → IsSet (Some one) ((a, one) ∷ scope) name ((b, other) ∷ values) slots bound
  set_first name a b (Number slot ty) (tree.Scalar other value) scope values slots bound e h rest s = (
    h.below,
    λ v within.
        subst (λ (vs : Scope). Agree object ((a, Number slot ty) ∷ scope) vs (slice_set slots slot (wrapped ty v)) bound) (sym (rebound-here name (assigned v) (b, tree.Scalar other value) values true s)) (
          e,
          record {
            ty_is = h.ty_is;
            below = h.below;
            held = slice_get-set_same slots slot (wrapped ty v) within ∙ ap (λ t. Some (wrapped t v)) (sym h.ty_is);
            fits = subst (λ t. InRange ty (wrapped t v)) (sym h.ty_is) (wrapped-in_range ty v);
          },
          agree_set scope values slots slot slot (wrapped ty v) (omega arith) rest,
        ),
  )
  set_first name a b (Whole container ty) (tree.Whole number other) scope values slots bound e h rest s = tt
  set_first name a b (Called made) (tree.Called instance) scope values slots bound e h rest s = tt
  set_first name a b one other scope values slots bound e h rest s = absurd h

  -- a slot of an earlier name is set
  named_above : (one : Named) (other : Meant) (slots : List ℤ) (bound slot : ℕ) (v : ℤ) → slot < below_it one bound → IsNamed object one other slots bound → IsNamed object one other (slice_set slots slot v) bound
  named_above (Number number ty) (tree.Scalar other value) slots bound slot v above h =
      record { ty_is = h.ty_is; below = h.below; held = slice_get-set_above slots number slot v above ∙ h.held; fits = h.fits }
  named_above (Whole container ty) (tree.Whole number other) slots bound slot v above h = h
  named_above (Called made) (tree.Called instance) slots bound slot v above h = h
  named_above one other slots bound slot v above h = absurd h

  set_later : (n : Option Named) (name : List ℕ) (one : List ℕ × Named) (other : List ℕ × Meant) (scope : List (List ℕ × Named)) (values : Scope) (slots : List ℤ) (bound : ℕ)
      → one.0 ≡ other.0 → IsNamed object one.1 other.1 slots bound → same_bytes other.0 name ≡ false
      → IsSet n scope name values slots (below_it one.1 bound) → IsSet n (one ∷ scope) name (other ∷ values) slots bound
  set_later (Some (Number slot ty)) name one other scope values slots bound e h s later = (
    omega (arith, later.0, below_le object one.1 other.1 slots bound h),
    λ v within.
        subst (λ (vs : Scope). Agree object (one ∷ scope) vs (slice_set slots slot (wrapped ty v)) bound) (sym (rebound-here name (assigned v) other values false s))
        (e, named_above one.1 other.1 slots bound slot (wrapped ty v) later.0 h, later.1 v within),
  )
  set_later (Some (Whole container ty)) name one other scope values slots bound e h s later = tt
  set_later (Some (Called made)) name one other scope values slots bound e h s later = tt
  set_later None name one other scope values slots bound e h s later = tt

  pub name_set : (name : List ℕ) (scope : List (List ℕ × Named)) (values : Scope) (slots : List ℤ) (bound : ℕ) → Agree object scope values slots bound
      → IsSet (bound_to name scope) scope name values slots bound
  name_set name [] [] slots bound h = tt
  name_set name (one ∷ scope) (other ∷ values) slots bound h =
      by_test (same_bytes one.0 name) refl (name_set name scope values slots (below_it one.1 bound) h.2)
    where
      by_test : (b : Bool) → same_bytes one.0 name ≡ b → IsSet (bound_to name scope) scope name values slots (below_it one.1 bound)
          → IsSet (bound_to name (one ∷ scope)) (one ∷ scope) name (other ∷ values) slots bound
      by_test true s later =
          let s' : same_bytes other.0 name ≡ true = ap (λ (m : List ℕ). same_bytes m name) (sym h.0) ∙ s in
          subst (λ (o : Option Named). IsSet o (one ∷ scope) name (other ∷ values) slots bound) (sym (bound_to-here name one.0 one scope true refl s))
          (set_first name one.0 other.0 one.1 other.1 scope values slots bound h.0 h.1 h.2 s')
      by_test false s later =
          let s' : same_bytes other.0 name ≡ false = ap (λ (m : List ℕ). same_bytes m name) (sym h.0) ∙ s in
          subst (λ (o : Option Named). IsSet o (one ∷ scope) name (other ∷ values) slots bound) (sym (bound_to-here name one.0 one scope false refl s))
          (set_later (bound_to name scope) name one other scope values slots bound h.0 h.1 s' later)
  name_set name scope values slots bound h = absurd h

  pub agree_length : (scope : List (List ℕ × Named)) (values : Scope) (slots : List ℤ) (bound : ℕ) → Agree object scope values slots bound → length scope ≡ length values
  agree_length [] [] slots bound h = refl
  agree_length (one ∷ scope) (other ∷ values) slots bound h = ap suc (agree_length scope values slots (below_it one.1 bound) h.2)
  agree_length scope values slots bound h = absurd h

  -- names before others, on both sides
  pub record IsSplit (new scope : List (List ℕ × Named)) (values : Scope) (slots : List ℤ) (bound : ℕ) : Type 0 where
    pub front : Scope
    pub back : Scope
    pub is : values ≡ front ++ back
    pub new_agree : Agree object new front slots bound
    pub agree : Agree object scope back slots bound

  pub agree_split : (new scope : List (List ℕ × Named)) (values : Scope) (slots : List ℤ) (bound : ℕ) → Agree object (new ++ scope) values slots bound → IsSplit new scope values slots bound
  agree_split [] scope values slots bound h = record { front = []; back = values; is = refl; new_agree = tt; agree = h }
  agree_split (one ∷ new) scope [] slots bound h = absurd h
  agree_split (one ∷ new) scope (other ∷ values) slots bound h =
      let r = agree_split new scope values slots (below_it one.1 bound) h.2 in
      record {
        front = other ∷ r.front;
        back = r.back;
        is = ap (λ (l : Scope). other ∷ l) r.is;
        new_agree = (h.0, h.1, r.new_agree);
        agree = agree_wider scope r.back slots (below_it one.1 bound) bound (below_le object one.1 other.1 slots bound h.1) r.agree;
      }

  -- the names before the latest are in lower slots, whatever the values are
  pub agree_lower : (scope : List (List ℕ × Named)) (values values0 : Scope) (slots slots0 : List ℤ) (more bound : ℕ) → Agree object scope values slots more → Agree object scope values0 slots0 bound
      → Agree object scope values slots bound
  agree_lower [] [] values0 slots slots0 more bound h g = tt
  agree_lower (one ∷ scope) (other ∷ values) (other0 ∷ values0) slots slots0 more bound h g = (
    h.0,
    lower one.1 other.1 other0.1 h.1 g.1,
    agree_lower scope values values0 slots slots0 (below_it one.1 more) (below_it one.1 bound) h.2 g.2,
  )
    where
      lower : (named : Named) (meant meant0 : Meant) → IsNamed object named meant slots more → IsNamed object named meant0 slots0 bound → IsNamed object named meant slots bound
      lower (Number slot ty) (tree.Scalar other value) (tree.Scalar other0 value0) h g = record { ty_is = h.ty_is; below = g.below; held = h.held; fits = h.fits }
      lower (Whole container ty) (tree.Whole number other) meant0 h g = h
      lower (Called made) (tree.Called instance) meant0 h g = h
      lower (Number slot ty) (tree.Scalar other value) meant0 h g = absurd g
      lower named meant meant0 h g = absurd h
  agree_lower (one ∷ scope) (other ∷ values) [] slots slots0 more bound h g = absurd g
  agree_lower scope values values0 slots slots0 more bound h g = absurd h
