-- Whether inputs have names of their own, as a test.
use Rattle.std.specs.Prelude.{Bool, true, not, ◌&&◌, List, [], ◌∷◌}
use Rattle.std.specs.List.{list_any}
use Rattle.sk_tree.specs.declared.declared.Declared.{Declared}
use Rattle.sk_data.specs.Records.{same_name}

abbrev pub differ : List Declared → Bool
differ [] = true
differ (input ∷ inputs) = not (list_any (λ other. same_name input.name other.name) inputs) && differ inputs
