-- Programs of vectors: user functions take scalars alone, instances are Maps, and containers take no input.
use Rattle.std.specs.Prelude.{◌≡◌, ℕ, Bool, true, List, [], ◌∷◌, map, Some, slice_get}
use Rattle.std.specs.List.{list_all}
use Rattle.sk_main_fits.specs.Mains.{known_in, main_body, main_of}
use Rattle.sk_main_fits.specs.StatementFits.{judged_of, sequence_fits, start_standing}
use Rattle.sk_names.specs.Bindings.{bound_to}
use Rattle.sk_scheme.specs.Plans.{functions_before_main}
use Rattle.sk_scheme.specs.Scheme.{Known, kinds_of}
use Rattle.sk_tree.specs.Parameters.{is_scalar}
use Rattle.sk_tree.specs.declared.tree.Function.{Function}
use Rattle.sk_tree.specs.declared.tree.Instance as instances
use Rattle.sk_tree.specs.declared.tree.Program.{Program}
use Rattle.sk_tree.specs.declared.tree.Skeleton.TheVariants.{Map}

abbrev pub takes_scalars : Function → Bool
takes_scalars function = list_all is_scalar (kinds_of function.params)

-- a Map of a function that is known, which takes scalars
pub record IsMapOf (functions : List (List ℕ × Known)) (instance : instances.Instance) : Type 0 where
  pub skeleton : instance.skeleton ≡ Map
  pub name : List ℕ
  pub one : instance.functions ≡ name ∷ []
  pub known : Known
  pub found : bound_to name functions ≡ Some known
  pub scalars : list_all is_scalar known.kinds ≡ true

-- Every function takes scalars, every instance is a Map, and main's statements fit the names in scope, without inputs and
-- settings.
pub record IsOfVectors (program : Program) : Type 0 where
  pub scalars : list_all takes_scalars (functions_before_main program) ≡ true
  pub fits : sequence_fits (map judged_of (main_body program)) (known_in program) start_standing ≡ true
  pub maps : (number : ℕ) (instance : instances.Instance) → slice_get (main_of program).behind.instances number ≡ Some instance → IsMapOf (known_in program) instance
