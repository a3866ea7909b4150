-- The names in scope of a function, as the rules of names and as plain programs have them.
use Rattle.std.proofs.Common.{◌≡◌, ℕ, Bool, true, false, List, ◌∷◌, Option, Some, None, if◌then◌else◌, refl}
use Rattle.std.specs.Prelude.{nat_lt, slice_get}
use Rattle.sk_names.specs.Bindings.{bound_to}
use Rattle.sk_names.specs.Bytes.{same_bytes}
use Rattle.sk_plain.specs.Plain.{Parameters, NamedKinds}
use Rattle.sk_tree.specs.Functions.{kinds_of}
use Rattle.sk_tree.specs.declared.tree.Function.{Function}
use Rattle.sk_tree.specs.declared.tree.ParamKind.{ParamKind}
use Rattle.sk_typing.specs.TypingNames.{Knowns}
use Rattle.sk_typing.specs.declared.names.Known.{Known}
use Rattle.sk_typing.specs.declared.names.Known.TheVariants.{Variable, Function as FunctionName, Instance as InstanceName, Broken}

-- What a name stands for is a scalar or a parameter, which is in scope with its kind, or a function, which is not, and of which
-- it is known what parameters it has if it is one of those before.
abbrev pub IsMeant : (functions : List Function) (own : ℕ) (kind : Option ParamKind) (kinds : Option (List ParamKind)) → Option Known → Type 0
IsMeant functions own kind kinds None = Unit {0}
IsMeant functions own kind kinds (Some (Variable known)) = kind ≡ Some known
IsMeant functions own kind kinds (Some (FunctionName number)) =
    (kind ≡ None) × (nat_lt number own ≡ true → (function : Function) → slice_get functions number ≡ Some function → kinds ≡ Some (kinds_of function))
IsMeant functions own kind kinds (Some (InstanceName made)) = ⊥
IsMeant functions own kind kinds (Some Broken) = ⊥

pub record Agree (functions : List Function) (own : ℕ) (parameters : Parameters) (names : Knowns) (scope : NamedKinds) : Type 0 where
  pub meant : (name : List ℕ) → IsMeant functions own (bound_to name scope) (bound_to name parameters) (bound_to name names)

module _ (functions : List Function) (own : ℕ) where
  variable_meant : (same : Bool) (kind : Option ParamKind) (kinds : Option (List ParamKind)) (new : ParamKind) (earlier : Option Known) → IsMeant functions own kind kinds earlier
      → IsMeant functions own (if same then Some new else kind) kinds (if same then Some (Variable new) else earlier)
  variable_meant true kind kinds new earlier h = refl
  variable_meant false kind kinds new earlier h = h

  -- one more scalar or parameter
  pub agree_variable : (parameters : Parameters) (names : Knowns) (scope : NamedKinds) (name : List ℕ) (kind : ParamKind) → Agree functions own parameters names scope
      → Agree functions own parameters ((name, Variable kind) ∷ names) ((name, kind) ∷ scope)
  agree_variable parameters names scope name kind h = record {
    meant = λ other. variable_meant (same_bytes name other) (bound_to other scope) (bound_to other parameters) kind (bound_to other names) (h.meant other);
  }
