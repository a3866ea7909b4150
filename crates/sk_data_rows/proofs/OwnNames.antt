-- Names that the test finds to differ are distinct.
use Rattle.std.proofs.Common.{◌≡◌, ℕ, Bool, true, false, List, [], ◌∷◌, refl, map}
use Rattle.std.specs.Prelude.{not, ◌&&◌, ◌||◌}
use Rattle.std.specs.List.{AllByRecursion, IsDistinct, list_any}
use Rattle.std.proofs.lemmas.Bool.{and_parts}
use Rattle.std.proofs.lemmas.Map.Keys.{IsDistinct-cons}
use Rattle.sk_tree.specs.declared.declared.Declared.{Declared}
use Rattle.sk_data.specs.Records.{HaveDistinctNames, same_name}
use Rattle.sk_data_rows.specs.Names.{differ}

none_parts : (a b : Bool) → not (a || b) ≡ true → (a ≡ false) × (not b ≡ true)
none_parts true b e = cc
none_parts false b e = (refl, e)

apart : (name : List ℕ) (inputs : List Declared) → not (list_any (λ other. same_name name other.name) inputs) ≡ true
    → AllByRecursion (λ other. same_name name other ≡ false) (map (λ input. input.name) inputs)
apart name [] none = tt
apart name (input ∷ inputs) none =
    let parts = none_parts (same_name name input.name) (list_any (λ other. same_name name other.name) inputs) none in
    (parts.0, apart name inputs parts.1)

pub differ-distinct : (inputs : List Declared) → differ inputs ≡ true → HaveDistinctNames inputs
unfolding IsDistinct
differ-distinct [] each = tt
differ-distinct (input ∷ inputs) each =
    let parts = and_parts (not (list_any (λ other. same_name input.name other.name) inputs)) (differ inputs) each in
    (apart input.name inputs parts.0, differ-distinct inputs parts.1)
