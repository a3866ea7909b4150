-- The faults of statements, and the names that they declare.
use Rattle.std.specs.Prelude.{ℕ, ◌+◌, ◌==◌, Bool, true, false, ◌&&◌, if◌then◌else◌, List, [], ◌∷◌, ◌++◌, map, length, Option, Some, None, flat_map}
use Rattle.std.specs.List.{list_any}
use Rattle.sk_names.specs.Bindings.{bound_to}
use Rattle.sk_typing.specs.TypingExpressions.{Judged, value_faults, judged_all, use_faults, use_of, called_use, poked_use, set_use, first_dimension}
use Rattle.sk_typing.specs.TypingInstances.{instance_faults, instance_known, setting_values}
use Rattle.sk_typing.specs.TypingNames.{Knowns, Around, fault, unless, twice_faults, numbers}
use Rattle.sk_typing.specs.declared.names.Fault.{Fault}
use Rattle.sk_typing.specs.declared.names.FaultKind.TheVariants.{Unknown, Mismatch}
use Rattle.sk_typing.specs.declared.names.Known.{Known}
use Rattle.sk_typing.specs.declared.names.Known.TheVariants.{Variable, Broken}
use Rattle.sk_typing.specs.declared.names.Use.TheVariants.{Takes}
use Rattle.sk_tree.specs.declared.tree.Expr.{Expr}
use Rattle.sk_tree.specs.declared.tree.Item.{Item}
use Rattle.sk_tree.specs.declared.tree.Item.TheVariants.{Value, Text, End}
use Rattle.sk_tree.specs.declared.tree.ParamKind.TheVariants.{Scalar, Proxy}
use Rattle.sk_tree.specs.declared.tree.Statement.{Statement, fold-Statement}
use Rattle.sk_tree.specs.declared.tree.What.TheOpen.{What-F, Declare, Assign, Poke, Make, Take, Instance, Set, Call, Print, If, For, Return}

-- the faults of a statement, and the names in scope behind it
pub record Walked : Type 0 where
  pub faults : List Fault
  pub names : Knowns

abbrev pub Walking : Type 0
Walking = Around → Knowns → Walked

-- faults, with nothing declared
abbrev pub only_faults : List Fault → Knowns → Walked
only_faults faults names = record { faults = faults; names = names }

-- A declaration, also a faulty one, declares its name. The name is in scope from behind it on.
abbrev pub declaring : List ℕ → Known → List Fault → Around → Knowns → Walked
declaring name known faults around names =
    record { faults = twice_faults around names name ++ faults; names = (name, known) ∷ names }

-- statements one after another
abbrev pub in_order : List Walking → Walking
in_order [] around names = only_faults [] names
in_order (first ∷ rest) around names =
    let walked : Walked = first around names in
    let behind : Walked = in_order rest around walked.names in
    record { faults = walked.faults ++ behind.faults; names = behind.names }

-- where the statements of a block inside another one stand
abbrev pub inside : Around → Around
inside around = record around { outermost = false }

-- A block inside another one: its names are in scope up to its end.
abbrev pub block_faults : List Walking → Around → Knowns → List Fault
block_faults statements around names = (in_order statements (inside around) names).faults

-- User functions contain declarations of scalars, assignments to scalars, `if`, `for` and `return`. Anything else is a
-- mismatch there as a whole; what it declares is declared all the same.
abbrev pub of_main : Around → Walked → (names : Knowns) → Walked
of_main around walked names = if around.in_main then walked else record { faults = fault around Mismatch; names = names }

-- User functions assign to scalars alone: an assignment to what is no scalar is a mismatch there as a whole. `value` is what
-- is said of the value, which main looks at in any case.
abbrev pub assign_faults : Around → Option Known → (value : List Fault) → List Fault
assign_faults around None value = fault around Unknown ++ value
assign_faults around (Some (Variable (Scalar ty))) value = value
assign_faults around (Some known) value = fault around Mismatch ++ (if around.in_main then value else [])

-- the faults of an item that is printed
abbrev pub item_faults : Around → Knowns → Item → List Fault
item_faults around names (Value expr) = value_faults around names expr
item_faults around names (Text text) = []
item_faults around names End = []

-- the faults of a new container: as many sizes as its kind has dimensions, and an optional fill value
abbrev pub make_faults : Around → Knowns → (dimension : ℕ) → List Expr → List Fault
make_faults around names dimension arguments =
    let count : ℕ = if length arguments == dimension + 1 then dimension + 1 else dimension in
    use_faults around (Takes (numbers count)) (judged_all around names arguments)

-- a call statement
abbrev pub call_faults : Around → Knowns → List ℕ → List Expr → List Fault
call_faults around names name arguments =
    let judged : List Judged = judged_all around names arguments in
    use_faults around
    (use_of (bound_to name names) (called_use around (length judged) (first_dimension judged))) judged

-- The faults of what a statement is, at its line, its parts being replaced by what is said of them. Instances stand in
-- main's outermost block.
abbrev pub walking_step : What-F (ℕ → Walking) Walking → (line : ℕ) → Walking
walking_step (Declare ty name expr) line around names =
    let here : Around = record around { line = line } in
    declaring name (Variable (Scalar ty)) (value_faults here names expr) here names
walking_step (Assign name expr) line around names =
    let here : Around = record around { line = line } in
    only_faults (assign_faults here (bound_to name names) (value_faults here names expr)) names
walking_step (Poke name places expr) line around names =
    let here : Around = record around { line = line } in
    of_main here (only_faults (
    use_faults here (use_of (bound_to name names) poked_use) (judged_all here names places)
    ++ value_faults here names expr) names) names
walking_step (Make dimension ty name arguments) line around names =
    let here : Around = record around { line = line } in
    let known : Known = Variable (Proxy dimension ty) in
    of_main here (declaring name known (make_faults here names dimension arguments) here names) ((name, known) ∷ names)
walking_step (Take dimension ty name input) line around names =
    let here : Around = record around { line = line } in
    let known : Known = Variable (Proxy dimension ty) in
    of_main here (declaring name known [] here names) ((name, known) ∷ names)
walking_step (Instance instance) line around names =
    let here : Around = record around { line = line } in
    of_main here (
    declaring instance.name (instance_known here names instance)
    (unless here.outermost here Mismatch ++ instance_faults here names instance) here names)
    ((instance.name, Broken) ∷ names)
walking_step (Set name setting) line around names =
    let here : Around = record around { line = line } in
    of_main here (only_faults (
    use_faults here (use_of (bound_to name names) (set_use here setting))
    (judged_all here names (setting_values setting))) names) names
walking_step (Call name arguments) line around names =
    let here : Around = record around { line = line } in
    of_main here (only_faults (call_faults here names name arguments) names) names
walking_step (Print items) line around names =
    let here : Around = record around { line = line } in
    of_main here (only_faults (flat_map (item_faults here names) items) names) names
walking_step (If test one other) line around names =
    let here : Around = record around { line = line } in
    only_faults (value_faults here names test ++ block_faults one here names ++ block_faults other here names) names
walking_step (For first test step body) line around names =
    let here : Around = inside (record around { line = line }) in
    let begun : Walked = first here names in
    only_faults (
    begun.faults ++ value_faults here begun.names test
    ++ block_faults body here begun.names ++ (step here begun.names).faults) names
walking_step (Return expr) line around names =
    let here : Around = record around { line = line } in
    only_faults (value_faults here names expr) names

-- the faults of a statement, and what it declares
abbrev pub walking_of : Statement → Walking
walking_of = fold-Statement (ℕ → Walking) Walking walking_step (λ statement. statement.what statement.line)

-- A block returns where it has a `return`, or an `if` with else whose two blocks return.
abbrev pub returning_step : What-F Bool Bool → Bool
returning_step (Return expr) = true
returning_step (If test one other) = list_any (λ returns. returns) one && list_any (λ returns. returns) other
returning_step what = false

abbrev pub returning_of : Statement → Bool
returning_of = fold-Statement Bool Bool returning_step (λ statement. statement.what)

abbrev pub block_returns : List Statement → Bool
block_returns statements = list_any (λ returns. returns) (map returning_of statements)
