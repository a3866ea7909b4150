-- The names in scope as they are kept: the latest binding of each name, and behind each declaration what it shadowed.
use Rattle.std.specs.Prelude.{◌≡◌, ℕ, List, [], ◌∷◌, map, Option, Some, None, if◌then◌else◌}
use Rattle.std.specs.Borrow.{Bor}
use Rattle.sk_names.specs.Bytes.{same_bytes}
use Rattle.sk_scopes.specs.declared.scopes.Binding.{Binding}
use Rattle.indexmap.specs.IndexMap.{IndexMap, get_by}

-- the declarations with what they declare
abbrev pub bindings_of : {X : Type 0} → List (Binding X) → List (List ℕ × X)
bindings_of declared = map (λ binding. (binding.name.now, binding.known)) declared

-- what a name is bound to in a map
abbrev pub found_in : {X S : Type 0} → IndexMap (Bor (List ℕ)) X S → List ℕ → Option X
found_in map name = get_by (λ key. same_bytes name key.now) map

-- A look-up finds the latest of these declarations, and where that is gone, what it shadowed; without any it finds nothing.
abbrev pub IsTidy : {X : Type 0} → (List ℕ → Option X) → List (Binding X) → Type 0
IsTidy find [] = (name : List ℕ) → find name ≡ None
IsTidy find (binding ∷ earlier) =
    (find binding.name.now ≡ Some binding.known)
    × IsTidy (λ name. if same_bytes binding.name.now name then binding.shadowed else find name) earlier

-- a look-up finds this of a name, and of every other name what it found before
abbrev pub Rebinds : {X : Type 0} → (old new : List ℕ → Option X) → List ℕ → Option X → Type 0
Rebinds old new name known = (other : List ℕ) → new other ≡ (if same_bytes name other then known else old other)
