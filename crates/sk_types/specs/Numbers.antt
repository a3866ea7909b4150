-- The numbers of functions by their names.
use Rattle.std.specs.Prelude.{◌≡◌, ℕ, List, Option, Some, None, if◌then◌else◌}
use Rattle.std.specs.List.{position_from}
use Rattle.std.specs.Option.{option_or}
use Rattle.std.specs.Global.{Vec}
use Rattle.indexmap.specs.IndexMap.{IndexMap, get_by}
use Rattle.sk_names.specs.Bytes.{same_bytes}
use Rattle.sk_tree.specs.declared.tree.Function.{Function}

abbrev pub Numbers : Type 0 → Type 0
Numbers S = IndexMap (Vec ℕ) ℕ S

-- the number of the first function of a name
abbrev pub number_of : List ℕ → List Function → Option ℕ
number_of name functions = position_from (λ function. same_bytes function.name name) 0 functions

-- what a name is noted with
abbrev pub noted : {S : Type 0} → Numbers S → List ℕ → Option ℕ
noted numbers name = get_by (λ key. same_bytes name key.items) numbers

-- each name is noted with the number of its first function
abbrev pub FindsAll : {S : Type 0} → Numbers S → List Function → Type 0
FindsAll numbers functions = (name : List ℕ) → noted numbers name ≡ number_of name functions

-- a name is noted with a number, unless it has one
abbrev pub NotesOne : {S : Type 0} → (old new : Numbers S) → List ℕ → ℕ → Type 0
NotesOne old new name number =
    (other : List ℕ) → noted new other ≡ option_or (noted old other) (if same_bytes name other then Some number else None)

-- the names of functions are noted with their numbers from one on, each unless it has one
abbrev pub NotesFrom : {S : Type 0} → (old new : Numbers S) → ℕ → List Function → Type 0
NotesFrom old new number functions =
    (other : List ℕ) → noted new other
    ≡ option_or (noted old other) (position_from (λ function. same_bytes function.name other) number functions)
