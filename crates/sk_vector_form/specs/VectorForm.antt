-- Which programs can be run yet: each container is a vector that no input gives, each instance is a Map, and each parameter
-- is a scalar.
use Rattle.std.specs.Prelude.{ℕ, Bool, true, false, ◌&&◌, ◌==◌, List, map}
use Rattle.std.specs.List.{list_all}
use Rattle.sk_tree.specs.Functions.{kinds_of}
use Rattle.sk_tree.specs.Parameters.{scalars_only}
use Rattle.sk_tree.specs.declared.tree.Function.{Function}
use Rattle.sk_tree.specs.declared.tree.Program.{Program}
use Rattle.sk_tree.specs.declared.tree.Skeleton.{Skeleton}
use Rattle.sk_tree.specs.declared.tree.Skeleton.TheVariants.{Map}
use Rattle.sk_tree.specs.declared.tree.Statement.{Statement, fold-Statement}
use Rattle.sk_tree.specs.declared.tree.What.TheOpen.{What-F, Declare, Assign, Poke, Make, Take, Instance, Set, Call, Print, If, For, Return}

abbrev pub is_map : Skeleton → Bool
is_map Map = true
is_map skeleton = false

abbrev pub all_hold : List Bool → Bool
all_hold = list_all (λ test. test)

-- what a statement declares, and the statements inside of it
abbrev pub form_step : What-F Bool Bool → Bool
form_step (Declare ty name expr) = true
form_step (Assign name expr) = true
form_step (Poke name places expr) = true
form_step (Make dimension ty name arguments) = dimension == 1
form_step (Take dimension ty name input) = false
form_step (Instance instance) = is_map instance.skeleton
form_step (Set name setting) = true
form_step (Call name arguments) = true
form_step (Print items) = true
form_step (If test one other) = all_hold one && all_hold other
form_step (For first test step body) = first && step && all_hold body
form_step (Return expr) = true

abbrev pub is_of_vectors : Statement → Bool
is_of_vectors = fold-Statement Bool Bool form_step (λ statement. statement.what)

abbrev pub function_of_vectors : Function → Bool
function_of_vectors function = scalars_only (kinds_of function) && list_all is_of_vectors function.body

abbrev pub has_vector_form : Program → Bool
has_vector_form program = list_all function_of_vectors program.functions
