-- The run of main: its statements over a world.
use Rattle.std.specs.Prelude.{ℕ, zero, suc, ◌+◌, ◌-◌, if◌then◌else◌, Bool, List, [], ◌∷◌, map, reverse, length, take, drop, ℤ, pos, Option, Some, None, Result, Ok, Err, slice_get, unwrap_or}
use Rattle.std.specs.Fmt.{signed_decimal}
use Rattle.std.specs.List.{list_all}
use Rattle.sk_base.specs.Arithmetic.{wrapped}
use Rattle.sk_base.specs.declared.number.Trap.{Trap}
use Rattle.sk_base.specs.declared.number.Ty.TheVariants.{Int}
use Rattle.sk_meaning.specs.Evaluation.{Callable, Callables, Value as Argument, value_of, callables_of}
use Rattle.sk_meaning.specs.Expressions.{holds}
use Rattle.sk_names.specs.Bindings.{bound_to, rebound}
use Rattle.sk_main_run.specs.MainNames.{Meant, Scalar, Whole, Called, Scope, State, number_in, evaluated, all_evaluated}
use Rattle.sk_safety.specs.Safety.{Judgements, judgements_after, safe_in}
use Rattle.sk_tree.specs.Functions.{body_of}
use Rattle.sk_tree.specs.Skeletons.{elements_of, operator_place}
use Rattle.sk_tree.specs.declared.tree.Expr.{Expr}
use Rattle.sk_tree.specs.declared.tree.Expr.TheVariants.{Name}
use Rattle.sk_tree.specs.declared.tree.Function.{Function}
use Rattle.sk_tree.specs.declared.tree.Instance as instances
use Rattle.sk_tree.specs.declared.tree.Item.{Item}
use Rattle.sk_tree.specs.declared.tree.Item.TheVariants.{Value, Text, End as Endl}
use Rattle.sk_tree.specs.declared.tree.Program.{Program}
use Rattle.sk_tree.specs.declared.tree.Setting.{Setting}
use Rattle.sk_tree.specs.declared.tree.Setting.TheVariants as setting
use Rattle.sk_tree.specs.declared.tree.Statement.{Statement, fold-Statement}
use Rattle.sk_tree.specs.declared.tree.What.TheOpen.{What-F, Declare, Assign, Poke, Make, Take, Instance, Set, Call, Print, If, For, Return}
use Rattle.sk_world.specs.Calls.{Instance as Linked, operand_count, call_of}
use Rattle.sk_world.specs.InstanceSettings.{SettingValue, Start, Exclusive, Columns, Overlap, Edge, Pad, set_instance}
use Rattle.sk_world.specs.Runs.{ProgramRun, run_over, world_before}
use Rattle.sk_world.specs.World.{Input, World, End, Over, count, print, make, take_input, drop_container, poke}

-- what is done to a state, unless the run is over
abbrev pub Running : Type 0
Running = State → Result State Over

abbrev pub and_run : {A : Type 0} → Result A Over → (A → Result State Over) → Result State Over
and_run (Ok done) next = next done
and_run (Err over) next = Err over

-- what is done to the world alone
abbrev pub in_world : (World → Result World Over) → Running
in_world done state = elim (done state.world) [ Ok world ↦ Ok (record state { world = world }) | Err over ↦ Err over ]

-- a statement of a line, which is counted before it is executed
abbrev pub counted : (line : ℕ) → Running → Running
counted line statement state = and_run (in_world (count line) state) statement

-- how many containers and instances are declared in a text
pub record Numbers : Type 0 where
  pub containers : ℕ
  pub instances : ℕ

abbrev pub none_declared : Numbers
none_declared = record { containers = 0; instances = 0 }

abbrev pub plus : Numbers → Numbers → Numbers
plus a b = record { containers = a.containers + b.containers; instances = a.instances + b.instances }

-- A statement: how many containers and instances its text declares, and what it does where so many are declared before it.
pub record Numbered : Type 0 where
  pub declares : Numbers
  pub run : (before : Numbers) → Running

-- the same of a statement apart from its line
pub record Lineless : Type 0 where
  pub declares : Numbers
  pub run : (before : Numbers) → (line : ℕ) → Running

abbrev pub all_declared : List Numbered → Numbers
all_declared [] = none_declared
all_declared (first ∷ rest) = plus first.declares (all_declared rest)

-- statements one after another
abbrev pub in_sequence : List Numbered → (before : Numbers) → Running
in_sequence [] before state = Ok state
in_sequence (first ∷ rest) before state = and_run (first.run before state) (in_sequence rest (plus before first.declares))

-- a name goes out of scope; where it stands for a container, the container is left
abbrev pub left_name : Meant → World → World
left_name (Whole number ty) world = drop_container number world
left_name (Scalar ty value) world = world
left_name (Called instance) world = world

abbrev pub left_names : Scope → World → World
left_names [] world = world
left_names (name ∷ names) world = left_names names (left_name name.1 world)

-- the end of a block: the names that were declared in it are gone, containers in the order of their declarations
abbrev pub left_block : (outer : Scope) → Running
left_block outer state =
    let count : ℕ = length state.scope - length outer in
    Ok (record state { scope = drop count state.scope; world = left_names (reverse (take count state.scope)) state.world })

abbrev pub in_block : List Numbered → (before : Numbers) → Running
in_block statements before state = and_run (in_sequence statements before state) (left_block state.scope)

-- A loop from its test on, which is counted at each turn. `most` is at least the statements left, so the bound is reached
-- before it is.
abbrev pub looped : (most : ℕ) → (line : ℕ) → (test : Expr) → (body step : Running) → Running
looped zero line test body step state = in_world (count line) state
looped (suc fewer) line test body step state =
    counted line (λ now. and_run (evaluated test now) (λ done.
    if holds done.0 then and_run (body done.1) (λ now. and_run (step now) (looped fewer line test body step)) else Ok done.1)) state

-- a scalar's new value, converted to its type
abbrev pub assigned : ℤ → Meant → Meant
assigned value meant = elim meant [
  | Scalar ty old ↦ Scalar ty (wrapped ty value)
  | Whole number ty ↦ Whole number ty
  | Called instance ↦ Called instance
]

abbrev pub declaring : List ℕ → Meant → State → State
declaring name meant state = record state { scope = (name, meant) ∷ state.scope }

-- the fill value of a new container: the argument behind its sizes, or 0
abbrev pub fill_of : List ℤ → ℤ
fill_of [] = pos 0
fill_of (fill ∷ rest) = fill

-- a function that may be called; a program that is typed names no other
abbrev pub no_callable : Callable
no_callable = record { ret = Int; kinds = []; call = λ arguments turns. Ok (pos 0, turns) }

abbrev pub callable_in : Callables → Option (List ℕ) → Callable
callable_in callables None = no_callable
callable_in callables (Some name) = elim (bound_to name callables) [ Some callable ↦ callable | None ↦ no_callable ]

abbrev pub joined_by : Callable → ℤ → ℤ → Result ℤ Trap
joined_by operator a b = value_of operator (Argument a ∷ Argument b ∷ [])

-- the instance that a declaration makes, with its number
abbrev pub linked : Judgements → Callables → (number : ℕ) → instances.Instance → Linked
linked judgements callables number instance =
    let function : Callable = callable_in callables (slice_get instance.functions 0) in
    record {
      number = number;
      skeleton = instance.skeleton;
      elements = elements_of instance.skeleton instance.numbers function.kinds;
      kinds = function.kinds;
      ty = function.ret;
      call = value_of function;
      join = joined_by (callable_in callables (slice_get instance.functions (unwrap_or (operator_place instance.skeleton) 0)));
      is_safe = list_all (safe_in judgements) instance.functions;
    }

abbrev pub set_to : List ℕ → SettingValue → Running
set_to name value state = elim (bound_to name state.scope) [
  | Some meant ↦ elim meant [
    | Called instance ↦ in_world (set_instance instance value) state
    | Scalar ty old ↦ Ok state
    | Whole number ty ↦ Ok state
  ]
  | None ↦ Ok state
]

-- a setting, whose values are evaluated first
abbrev pub setting_run : List ℕ → Setting → Running
setting_run name (setting.Start expr) state = and_run (evaluated expr state) (λ done. set_to name (Start done.0) done.1)
setting_run name (setting.Pad expr) state = and_run (evaluated expr state) (λ done. set_to name (Pad done.0) done.1)
setting_run name (setting.Overlap exprs) state = and_run (all_evaluated exprs state) (λ done. set_to name (Overlap done.0) done.1)
setting_run name (setting.Scan exclusive) state = set_to name (Exclusive exclusive) state
setting_run name (setting.Lines columns) state = set_to name (Columns columns) state
setting_run name (setting.Edge edge) state = set_to name (Edge edge) state

-- the name that an argument is
abbrev pub name_of : Expr → List ℕ
name_of (Name name) = name
name_of expr = []

-- a call statement: the result, the containers of elements and those that are given whole, and then the uniform arguments,
-- which are evaluated first
abbrev pub called_run : Linked → (result : List ℕ) → List Expr → Running
called_run instance result arguments state =
    and_run (all_evaluated (drop (operand_count instance) arguments) state) (λ done.
    in_world (λ world. elim (call_of instance (Some (number_in state.scope result))
    (map (λ expr. number_in state.scope (name_of expr)) (take (operand_count instance) arguments)) done.0 world) [
      | Ok ran ↦ Ok ran.1
      | Err over ↦ Err over
    ]) done.1)

abbrev pub call_run : List ℕ → List Expr → Running
call_run name [] state = Ok state
call_run name (result ∷ arguments) state = elim (bound_to name state.scope) [
  | Some meant ↦ elim meant [
    | Called instance ↦ called_run instance (name_of result) arguments state
    | Scalar ty value ↦ Ok state
    | Whole number ty ↦ Ok state
  ]
  | None ↦ Ok state
]

-- an item, evaluated and printed
abbrev pub item_run : Item → Running
item_run (Value expr) state = and_run (evaluated expr state) (λ done. Ok (record done.1 { world = print (signed_decimal done.0) done.1.world }))
item_run (Text text) state = Ok (record state { world = print text state.world })
item_run Endl state = Ok (record state { world = print (10 ∷ []) state.world })

-- items one after another
abbrev pub items_run : List Item → Running
items_run [] state = Ok state
items_run (item ∷ items) state = and_run (item_run item state) (items_run items)

-- how many containers and instances a statement's text declares
abbrev pub declared_by : What-F Lineless Numbered → Numbers
declared_by (Make dimension ty name arguments) = record { containers = 1; instances = 0 }
declared_by (Take dimension ty name input) = record { containers = 1; instances = 0 }
declared_by (Instance instance) = record { containers = 0; instances = 1 }
declared_by (If test one other) = plus (all_declared one) (all_declared other)
declared_by (For first test step body) = plus first.declares (plus step.declares (all_declared body))
declared_by what = none_declared

-- The head of a `for`, its turns, and the end of its scope. Its first statement and its step declare no container.
abbrev pub for_run : Numbered → Expr → Numbered → List Numbered → (before : Numbers) → (line : ℕ) → Running
for_run first test step body before line state =
    and_run (first.run before state) (λ inner.
    and_run (looped inner.world.statements_left line test (in_block body before) (step.run before) inner) (left_block state.scope))

-- What a statement does where so many containers and instances are declared in the text before it, its parts being replaced
-- by what they do.
abbrev pub run_of : Judgements → What-F Lineless Numbered → (before : Numbers) → (line : ℕ) → Running
run_of judgements (Declare ty name expr) before line = counted line (λ state.
    and_run (evaluated expr state) (λ done. Ok (declaring name (Scalar ty (wrapped ty done.0)) done.1)))
run_of judgements (Assign name expr) before line = counted line (λ state.
    and_run (evaluated expr state) (λ done. Ok (record done.1 { scope = rebound name (assigned done.0) done.1.scope })))
run_of judgements (Poke name places expr) before line = counted line (λ state.
    and_run (all_evaluated places state) (λ at.
    and_run (evaluated expr at.1) (λ done. in_world (poke (number_in state.scope name) at.0 done.0) done.1)))
run_of judgements (Make dimension ty name arguments) before line = counted line (λ state.
    and_run (all_evaluated arguments state) (λ done.
    and_run (in_world (make before.containers name ty (take dimension done.0) (fill_of (drop dimension done.0))) done.1) (λ now.
    Ok (declaring name (Whole before.containers ty) now))))
run_of judgements (Take dimension ty name input) before line = counted line (λ state.
    Ok (declaring name (Whole before.containers ty) (record state { world = take_input before.containers name ty input state.world })))
run_of judgements (Instance instance) before line = counted line (λ state.
    Ok (declaring instance.name (Called (linked judgements state.callables before.instances instance)) state))
run_of judgements (Set name setting) before line = counted line (setting_run name setting)
run_of judgements (Call name arguments) before line = counted line (call_run name arguments)
run_of judgements (Print items) before line = counted line (items_run items)
run_of judgements (If test one other) before line = counted line (λ state.
    and_run (evaluated test state) (λ done.
    if holds done.0 then in_block one before done.1 else in_block other (plus before (all_declared one)) done.1))
run_of judgements (For first test step body) before line = for_run first test step body before line
run_of judgements (Return expr) before line = counted line (λ state.
    and_run (evaluated expr state) (λ done. Err (record { ending = End; world = done.1.world })))

abbrev pub running_step : Judgements → What-F Lineless Numbered → Lineless
running_step judgements what = record { declares = declared_by what; run = run_of judgements what }

-- what a statement of main does
abbrev pub running_of : Judgements → Statement → Numbered
running_of judgements = fold-Statement Lineless Numbered (running_step judgements)
    (λ statement. record { declares = statement.what.declares; run = λ before. statement.what.run before statement.line })

-- the end of a run, where no statement made one before
abbrev pub over_of : Result State Over → Over
over_of (Ok state) = record { ending = End; world = state.world }
over_of (Err over) = over

-- The run of a program that may execute so many statements, and may be asked for its containers: its last function is
-- main, which calls those before it.
abbrev pub run_of_program : Program → List Input → (bound : ℕ) → (dump : Bool) → ProgramRun
run_of_program program inputs bound dump =
    let count : ℕ = length program.functions - 1 in
    let before : List Function = take count program.functions in
    let start : State = record { callables = callables_of before; scope = []; world = world_before inputs bound } in
    run_over dump (over_of (in_sequence (map (running_of (judgements_after [] before)) (body_of (slice_get program.functions count))) none_declared start))
