-- Names that are looked up in main: what they are for the code is what they are for the tree.
use Rattle.std.proofs.Common.{◌≡◌, ℕ, ◌≤◌, List, [], ◌∷◌, ℤ, Option, Some, None, refl, sym, subst, arith}
use Rattle.std.specs.Prelude.{true, false, Bool}
use Rattle.sk_isa.specs.declared.object.Object.{Object}
use Rattle.sk_main_run.specs.MainNames.{Meant, Scope}
use Rattle.sk_main_run.specs.MainNames as tree
use Rattle.sk_main_runs.specs.SameMeaning.{Agree, AreNamed, IsNamed, below_it}
use Rattle.sk_main_scheme.specs.MainScheme.{Named, Number, Whole, Called}
use Rattle.sk_names.specs.Bindings.{bound_to}
use Rattle.sk_names.specs.Bytes.{same_bytes}
use Rattle.sk_plain.proofs.Bindings.{bound_to-here}

module _ (object : Object) where
  pub named_wider : (one : Named) (other : Meant) (slots : List ℤ) (bound more : ℕ) → bound ≤ more → IsNamed object one other slots bound → IsNamed object one other slots more
  named_wider (Number slot ty) (tree.Scalar other value) slots bound more le h =
      record { ty_is = h.ty_is; below = omega (arith, h.below, le); held = h.held; fits = h.fits }
  named_wider (Whole container ty) (tree.Whole number other) slots bound more le h = h
  named_wider (Called made) (tree.Called instance) slots bound more le h = h
  named_wider one other slots bound more le h = absurd h

  pub are_wider : (one : Option Named) (other : Option Meant) (slots : List ℤ) (bound more : ℕ) → bound ≤ more → AreNamed object one other slots bound → AreNamed object one other slots more
  are_wider None None slots bound more le h = tt
  are_wider (Some one) (Some other) slots bound more le h = named_wider one other slots bound more le h
  are_wider one other slots bound more le h = absurd h

  -- the names before one have no higher slots
  pub below_le : (one : Named) (other : Meant) (slots : List ℤ) (bound : ℕ) → IsNamed object one other slots bound → below_it one bound ≤ bound
  below_le (Number slot ty) (tree.Scalar other value) slots bound h = omega (arith, h.below)
  below_le (Whole container ty) other slots bound h = omega arith
  below_le (Called made) other slots bound h = omega arith
  below_le one other slots bound h = absurd h

  pub name_found : (name : List ℕ) (scope : List (List ℕ × Named)) (values : Scope) (slots : List ℤ) (bound : ℕ) → Agree object scope values slots bound
      → AreNamed object (bound_to name scope) (bound_to name values) slots bound
  name_found name [] [] slots bound h = tt
  name_found name (one ∷ scope) (other ∷ values) slots bound h =
      by_test (same_bytes one.0 name) refl (name_found name scope values slots (below_it one.1 bound) h.2)
    where
      by_test : (b : Bool) → same_bytes one.0 name ≡ b → AreNamed object (bound_to name scope) (bound_to name values) slots (below_it one.1 bound)
          → AreNamed object (bound_to name (one ∷ scope)) (bound_to name (other ∷ values)) slots bound
      by_test true s later =
          subst (λ (o : Option Named). AreNamed object o (bound_to name (other ∷ values)) slots bound) (sym (bound_to-here name one.0 one scope true refl s))
          (subst (λ (o : Option Meant). AreNamed object (Some one.1) o slots bound) (sym (bound_to-here name one.0 other values true h.0 s)) h.1)
      by_test false s later =
          subst (λ (o : Option Named). AreNamed object o (bound_to name (other ∷ values)) slots bound) (sym (bound_to-here name one.0 one scope false refl s))
          (subst (λ (o : Option Meant). AreNamed object (bound_to name scope) o slots bound) (sym (bound_to-here name one.0 other values false h.0 s))
          (are_wider (bound_to name scope) (bound_to name values) slots (below_it one.1 bound) bound (below_le one.1 other.1 slots bound h.1) later))
  name_found name scope values slots bound h = absurd h
