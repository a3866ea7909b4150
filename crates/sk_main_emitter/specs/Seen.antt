-- Which inputs were found so far.
use Rattle.std.specs.Prelude.{◌≡◌, ℕ, List, is_some}
use Rattle.sk_names.specs.Bindings.{bound_to}
use Rattle.sk_tree.specs.declared.declared.Declared.{Declared}
use Rattle.sk_typing.specs.Inputs.{input_named}

-- the names are those of the inputs
abbrev pub AreNames : {X : Type 0} → List (List ℕ × X) → List Declared → Type 0
AreNames names inputs = (name : List ℕ) → is_some (bound_to name names) ≡ is_some (input_named name inputs)
