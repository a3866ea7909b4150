-- Lists of names with what they are bound to, the latest first.
use Rattle.std.specs.Prelude.{ℕ, List, [], ◌∷◌, Option, Some, None, if◌then◌else◌}
use Rattle.sk_names.specs.Bytes.{same_bytes}

module _ {X : Type 0} where
  -- what a name is bound to
  abbrev pub bound_to : List ℕ → List (List ℕ × X) → Option X
  bound_to name [] = None
  bound_to name (binding ∷ earlier) = if same_bytes binding.0 name then Some binding.1 else bound_to name earlier

  -- the same bindings, but for the latest of a name
  abbrev pub rebound : List ℕ → (X → X) → List (List ℕ × X) → List (List ℕ × X)
  rebound name change [] = []
  rebound name change (binding ∷ earlier) =
      if same_bytes binding.0 name then (binding.0, change binding.1) ∷ earlier else binding ∷ rebound name change earlier
