-- The code of main, by recursion on the tree. Each counted statement begins with its line.
use Rattle.std.specs.Prelude.{ℕ, suc, ◌+◌, ◌-◌, max, List, [], ◌∷◌, ◌++◌, length, map, take, drop, pos, Option, Some, None, if◌then◌else◌, codes, slice_get}
use Rattle.sk_arguments.specs.Operands.{operands_taken, uniforms_taken}
use Rattle.sk_base.specs.declared.choice.EdgeMode.{EdgeMode}
use Rattle.sk_base.specs.declared.choice.EdgeMode.TheVariants as edge
use Rattle.sk_base.specs.declared.number.Ty.{Ty}
use Rattle.sk_base.specs.declared.number.Ty.TheVariants.{Int}
use Rattle.sk_isa.specs.declared.code.Instr.{Instr}
use Rattle.sk_isa.specs.declared.code.Instr.TheVariants as instr
use Rattle.sk_names.specs.Bindings.{bound_to}
use Rattle.sk_scheme.specs.Pieces.{Placed, Piece, Leaf, Leaves, then_code, wanted_code, places_code, arguments_code, parts_depth, piece_step}
use Rattle.sk_scheme.specs.Scheme.{Known}
use Rattle.sk_tree.specs.Parameters.{region_of}
use Rattle.sk_tree.specs.Skeletons.{elements_of}
use Rattle.sk_tree.specs.declared.declared.Declared.{Declared}
use Rattle.sk_tree.specs.declared.tree.Expr.{Expr, fold-Expr}
use Rattle.sk_tree.specs.declared.tree.Instance as instances
use Rattle.sk_tree.specs.declared.tree.Item.{Item}
use Rattle.sk_tree.specs.declared.tree.Item.TheVariants.{Value, Text, End}
use Rattle.sk_tree.specs.declared.tree.ParamKind.{ParamKind}
use Rattle.sk_tree.specs.declared.tree.ParamKind.TheVariants.{Scalar}
use Rattle.sk_tree.specs.declared.tree.Setting.{Setting}
use Rattle.sk_tree.specs.declared.tree.Setting.TheVariants as setting
use Rattle.sk_tree.specs.declared.tree.Skeleton.{Skeleton}
use Rattle.sk_tree.specs.declared.tree.Statement.{Statement, fold-Statement}
use Rattle.sk_tree.specs.declared.tree.What.TheOpen.{What-F, Declare, Assign, Poke, Make, Take, Instance, Set, Call, Print, If, For, Return}

-- an instance that may be called: its number, its skeleton, how many elements its function has, the function's parameters,
-- and the type of its value
pub record Made : Type 0 where
  pub number : ℕ
  pub skeleton : Skeleton
  pub elements : ℕ
  pub kinds : List ParamKind
  pub ret : Ty

-- what a name of main stands for: a scalar by its slot, a container by its number, or an instance
pub data Named : Type 0 where
  Number : (slot : ℕ) → Ty → Named
  Whole : (container : ℕ) → Ty → Named
  Called : Made → Named

-- the functions and the names in scope where code of main stands, the latest first
pub record Around : Type 0 where
  pub functions : List (List ℕ × Known)
  pub scope : List (List ℕ × Named)

-- ---- expressions

abbrev pub no_leaf : Leaf
no_leaf = record { ty = Int; code = []; depth = 0 }

-- a name alone is the value of a scalar
abbrev pub name_leaf : Option Named → Leaf
name_leaf (Some (Number slot ty)) = record { ty = ty; code = instr.Load slot ∷ []; depth = 1 }
name_leaf (Some (Whole container ty)) = no_leaf
name_leaf (Some (Called made)) = no_leaf
name_leaf None = no_leaf

abbrev pub method_leaf : Option Named → (method : List ℕ) → Leaf
method_leaf (Some (Whole container ty)) method = record { ty = Int; code = instr.Size container method ∷ []; depth = 1 }
method_leaf (Some (Number slot ty)) method = no_leaf
method_leaf (Some (Called made)) method = no_leaf
method_leaf None method = no_leaf

-- the number of a container by its name
abbrev pub container_named : Around → List ℕ → ℕ
container_named around name = elim (bound_to name around.scope) [
  | Some named ↦ elim named [ Whole container ty ↦ container | Number slot ty ↦ 0 | Called made ↦ 0 ]
  | None ↦ 0
]

-- how many containers a call of an instance takes beside its result
abbrev pub operands_of : Made → ℕ
operands_of made = operands_taken made.skeleton made.elements made.kinds

-- the uniform arguments of a call, each for its parameter: they stand behind the containers
abbrev pub uniforms_code : Made → List (Piece Around) → Around → Placed
uniforms_code made parts = arguments_code (map Scalar (uniforms_taken made.skeleton made.elements made.kinds)) parts

abbrev pub containers_of : Around → List (Piece Around) → List ℕ
containers_of around parts = map (λ (part : Piece Around). container_named around part.name) parts

-- a call of an instance that is a value
abbrev pub get_code : Made → List (Piece Around) → Around → Placed
get_code made parts around at =
    let uniforms : List (Piece Around) = drop (operands_of made) parts in
    uniforms_code made uniforms around at
    ++ instr.Get made.number (containers_of around (take (operands_of made) parts)) (length uniforms) ∷ []

-- an element of a container at places, a call of an instance, or a call of a function
abbrev pub applied_code : Option Named → Option Known → List (Piece Around) → Around → Placed
applied_code (Some (Whole container ty)) known parts around at =
    places_code parts around at ++ instr.Item container (length parts) ∷ []
applied_code (Some (Called made)) known parts around at = get_code made parts around at
applied_code (Some (Number slot ty)) known parts around at = []
applied_code None (Some known) parts around at = arguments_code known.kinds parts around at ++ instr.Call known.number ∷ []
applied_code None None parts around at = []

-- the containers of a call push nothing
abbrev pub applied_depth : Option Named → List (Piece Around) → Around → ℕ
applied_depth (Some (Called made)) parts around = parts_depth (drop (operands_of made) parts) around
applied_depth (Some (Whole container ty)) parts around = parts_depth parts around
applied_depth (Some (Number slot ty)) parts around = parts_depth parts around
applied_depth None parts around = parts_depth parts around

abbrev pub applied_type : Option Named → Option Known → Ty
applied_type (Some (Whole container ty)) known = ty
applied_type (Some (Called made)) known = made.ret
applied_type (Some (Number slot ty)) known = ty
applied_type None (Some known) = known.ret
applied_type None None = Int

-- what names are compiled to in main; it has no fields
abbrev pub main_leaves : Leaves Around
main_leaves = record {
  scalar = λ around name. name_leaf (bound_to name around.scope);
  field = λ around name field. no_leaf;
  method = λ around name method. method_leaf (bound_to name around.scope) method;
  applied = λ name parts. record {
    name = [];
    ty = λ around. applied_type (bound_to name around.scope) (bound_to name around.functions);
    code = λ around. applied_code (bound_to name around.scope) (bound_to name around.functions) parts around;
    depth = λ around. max 1 (applied_depth (bound_to name around.scope) parts around);
  };
}

-- what an expression of main is compiled to
abbrev pub main_piece : Expr → Piece Around
main_piece = fold-Expr (Piece Around) (piece_step main_leaves)

-- ---- statements

-- Where a statement's code begins: its address, the names in scope, the types of the slots so far, and the containers and
-- the instances that were declared before it in the text.
pub record Standing : Type 0 where
  pub at : ℕ
  pub scope : List (List ℕ × Named)
  pub slots : List Ty
  pub containers : List Declared
  pub instances : List instances.Instance

-- a statement's code, what stands behind it, and the most values on the stack in it
pub record Emitted : Type 0 where
  pub code : List Instr
  pub behind : Standing
  pub depth : ℕ

-- a statement is compiled behind the functions that it may call
abbrev pub Emitting : Type 0
Emitting = List (List ℕ × Known) → Standing → Emitted

abbrev pub around_at : List (List ℕ × Known) → Standing → Around
around_at functions standing = record { functions = functions; scope = standing.scope }

-- code that declares nothing
abbrev pub only_code : List Instr → (depth : ℕ) → Standing → Emitted
only_code code depth standing =
    record { code = code; behind = record standing { at = standing.at + length code }; depth = depth }

-- nothing
abbrev pub no_code : Emitting
no_code functions standing = only_code [] 0 standing

-- code behind code
abbrev pub then_emitted : Emitting → Emitting → Emitting
then_emitted first second functions standing =
    let one : Emitted = first functions standing in
    let other : Emitted = second functions one.behind in
    record { code = one.code ++ other.code; behind = other.behind; depth = max one.depth other.depth }

abbrev pub all_emitted : List Emitting → Emitting
all_emitted [] = no_code
all_emitted (first ∷ rest) = then_emitted first (all_emitted rest)

-- a statement of a line is counted before it is executed
abbrev pub counted : (line : ℕ) → Emitting → Emitting
counted line = then_emitted (λ functions standing. only_code (instr.Count line ∷ []) 0 standing)

-- code of values, and an instruction that takes them
abbrev pub taking : (Around → Placed) → (Around → ℕ) → (Around → Standing → List Instr) → Emitting
taking code depth last functions standing =
    let around : Around = around_at functions standing in
    only_code (code around standing.at ++ last around standing) (depth around) standing

-- a name comes into scope
abbrev pub naming : List ℕ → (Standing → Named) → Emitted → Emitted
naming name named emitted =
    record emitted { behind = record emitted.behind { scope = (name, named emitted.behind) ∷ emitted.behind.scope } }

-- a scalar that has the next slot
abbrev pub declaring : List ℕ → Ty → Emitting → Emitting
declaring name ty first functions standing =
    let emitted : Emitted = naming name (λ behind. Number (length behind.slots) ty) (first functions standing) in
    record emitted { behind = record emitted.behind { slots = emitted.behind.slots ++ ty ∷ [] } }

-- a container that has the next number
abbrev pub holding : List ℕ → (kind : ℕ) → Ty → Emitting → Emitting
holding name kind ty first functions standing =
    let emitted : Emitted = naming name (λ behind. Whole (length behind.containers) ty) (first functions standing) in
    record emitted {
      behind = record emitted.behind { containers = emitted.behind.containers ++ record { name = name; kind = kind; ty = ty } ∷ [] };
    }

-- the instance that a declaration makes, with its number
abbrev pub made_of : List (List ℕ × Known) → (number : ℕ) → instances.Instance → Made
made_of functions number instance =
    let first : Option Known = elim (slice_get instance.functions 0) [ Some name ↦ bound_to name functions | None ↦ None ] in
    elim first [
      | Some function ↦ record {
        number = number;
        skeleton = instance.skeleton;
        elements = elements_of instance.skeleton instance.numbers function.kinds;
        kinds = function.kinds;
        ret = function.ret;
      }
      | None ↦ record { number = number; skeleton = instance.skeleton; elements = 0; kinds = []; ret = Int }
    ]

-- an instance that has the next number
abbrev pub instancing : instances.Instance → Emitting → Emitting
instancing instance first functions standing =
    let emitted : Emitted =
    naming instance.name (λ behind. Called (made_of functions (length behind.instances) instance)) (first functions standing) in
    record emitted { behind = record emitted.behind { instances = emitted.behind.instances ++ instance ∷ [] } }

-- the containers that were declared in a block, in text order: of its names, the latest first, those of containers
abbrev pub dropped : List (List ℕ × Named) → List Instr
dropped [] = []
dropped (named ∷ more) = elim named.1 [
  | Whole container ty ↦ dropped more ++ instr.Drop container ∷ []
  | Number slot ty ↦ dropped more
  | Called made ↦ dropped more
]

-- The names that a block declares end with it, and its containers are dropped.
abbrev pub block_emitted : List Emitting → Emitting
block_emitted statements functions standing =
    let inner : Emitted = all_emitted statements functions standing in
    let drops : List Instr = dropped (take (length inner.behind.scope - length standing.scope) inner.behind.scope) in
    record {
      code = inner.code ++ drops;
      behind = record inner.behind { at = inner.behind.at + length drops; scope = standing.scope };
      depth = inner.depth;
    }

-- what stands behind code is placed so many addresses further on, for the jump in front of it
abbrev pub placed_behind : Standing → (more : ℕ) → Standing
placed_behind standing more = record standing { at = standing.at + more }

-- a test, and one of two blocks, the second of which may be empty
abbrev pub if_emitted : Piece Around → List Emitting → List Emitting → Emitting
if_emitted test one [] functions standing =
    let first : List Instr = test.code (around_at functions standing) standing.at in
    let inner : Emitted = block_emitted one functions (placed_behind standing (length first + 1)) in
    record {
      code = first ++ instr.Zero inner.behind.at ∷ inner.code;
      behind = inner.behind;
      depth = max (test.depth (around_at functions standing)) inner.depth;
    }
if_emitted test one (other ∷ others) functions standing =
    let first : List Instr = test.code (around_at functions standing) standing.at in
    let inner : Emitted = block_emitted one functions (placed_behind standing (length first + 1)) in
    let third : Standing = placed_behind inner.behind 1 in
    let last : Emitted = block_emitted (other ∷ others) functions third in
    record {
      code = first ++ instr.Zero third.at ∷ inner.code ++ instr.Jump last.behind.at ∷ last.code;
      behind = last.behind;
      depth = max (test.depth (around_at functions standing)) (max inner.depth last.depth);
    }

-- the test of a loop, which is counted, and where it holds the body, the step, and the test again
abbrev pub loop_emitted : (line : ℕ) → Piece Around → (body step : Emitting) → Emitting
loop_emitted line test body step functions standing =
    let first : List Instr = instr.Count line ∷ test.code (around_at functions standing) (standing.at + 1) in
    let inner : Emitted = then_emitted body step functions (placed_behind standing (length first + 1)) in
    let ends : Standing = placed_behind inner.behind 1 in
    record {
      code = first ++ instr.Zero ends.at ∷ inner.code ++ instr.Jump standing.at ∷ [];
      behind = ends;
      depth = max (test.depth (around_at functions standing)) inner.depth;
    }

-- A name that the head of a `for` declares ends with it. Its first statement and its step have the line of its keyword in the
-- tree.
abbrev pub for_emitted : (line : ℕ) → (first : Emitting) → Piece Around → (step : Emitting) → List Emitting → Emitting
for_emitted line first test step body functions standing =
    let emitted : Emitted = then_emitted first (loop_emitted line test (block_emitted body) step) functions standing in
    record emitted { behind = record emitted.behind { scope = standing.scope } }

-- ---- what single statements are compiled to

abbrev pub named_type : Option Named → Ty
named_type (Some (Number slot ty)) = ty
named_type (Some (Whole container ty)) = ty
named_type (Some (Called made)) = made.ret
named_type None = Int

abbrev pub type_in : Around → List ℕ → Ty
type_in around name = named_type (bound_to name around.scope)

abbrev pub store_code : Option Named → List Instr
store_code (Some (Number slot ty)) = instr.Store slot ∷ []
store_code (Some (Whole container ty)) = []
store_code (Some (Called made)) = []
store_code None = []

-- places as they are, and then the value of an element
abbrev pub poke_code : List ℕ → List Expr → Expr → Around → Placed
poke_code name places value around at =
    then_code (places_code (map main_piece places) around at) (wanted_code (type_in around name) (main_piece value) around) at

-- sizes as they are, and then the fill value, which is 0 where none is written
abbrev pub make_code : Ty → (kind : ℕ) → List Expr → Around → Placed
make_code ty kind arguments around at =
    let sizes : List Instr = places_code (map main_piece (take kind arguments)) around at in
    elim (drop kind arguments) [
      | [] ↦ sizes ++ instr.Push (pos 0) ∷ []
      | fill ∷ more ↦ then_code sizes (wanted_code ty (main_piece fill) around) at
    ]

-- the fill value stands above the sizes
abbrev pub make_depth : (kind : ℕ) → List Expr → Around → ℕ
make_depth kind arguments around = max (suc kind) (parts_depth (map main_piece arguments) around)

abbrev pub edge_word : EdgeMode → List ℕ
edge_word edge.Duplicate = codes "Edge::Duplicate"
edge_word edge.Cyclic = codes "Edge::Cyclic"
edge_word edge.Pad = codes "Edge::Pad"

-- the word of a setting, or of a mode
abbrev pub setting_word : Setting → List ℕ
setting_word (setting.Start value) = codes "setStartValue"
setting_word (setting.Pad value) = codes "setPad"
setting_word (setting.Overlap values) = codes "setOverlap"
setting_word (setting.Scan exclusive) = if exclusive then codes "ScanMode::Exclusive" else codes "ScanMode::Inclusive"
setting_word (setting.Lines columns) = if columns then codes "ReduceMode::ColWise" else codes "ReduceMode::RowWise"
setting_word (setting.Edge mode) = edge_word mode

-- the type of the elements that a region has
abbrev pub region_type : Made → Ty
region_type made = elim (region_of made.kinds) [ Some region ↦ region.1 | None ↦ made.ret ]

-- the values of a setting, each with the type that it is converted to, where there is one
abbrev pub setting_code : Made → Setting → Around → Placed
setting_code made (setting.Start value) around at = wanted_code made.ret (main_piece value) around at
setting_code made (setting.Pad value) around at = wanted_code (region_type made) (main_piece value) around at
setting_code made (setting.Overlap values) around at = places_code (map main_piece values) around at
setting_code made (setting.Scan exclusive) around at = []
setting_code made (setting.Lines columns) around at = []
setting_code made (setting.Edge mode) around at = []

abbrev pub setting_values : Setting → List Expr
setting_values (setting.Start value) = value ∷ []
setting_values (setting.Pad value) = value ∷ []
setting_values (setting.Overlap values) = values
setting_values (setting.Scan exclusive) = []
setting_values (setting.Lines columns) = []
setting_values (setting.Edge mode) = []

-- the uniform arguments of a call statement alone push values
abbrev pub do_depth : List ℕ → List Expr → Around → ℕ
do_depth name arguments around = elim (bound_to name around.scope) [
  | Some named ↦ elim named [
    | Called made ↦ parts_depth (drop (suc (operands_of made)) (map main_piece arguments)) around
    | Number slot ty ↦ 0
    | Whole container ty ↦ 0
  ]
  | None ↦ 0
]

-- what is compiled for an instance by its name
abbrev pub of_instance : Option Named → (Made → List Instr) → List Instr
of_instance (Some (Called made)) code = code made
of_instance (Some (Number slot ty)) code = []
of_instance (Some (Whole container ty)) code = []
of_instance None code = []

abbrev pub set_code : List ℕ → Setting → Around → Placed
set_code name value around at = of_instance (bound_to name around.scope) (λ made.
    setting_code made value around at ++ instr.Set made.number (setting_word value) (length (setting_values value)) ∷ [])

-- a call statement: the uniform arguments, and the result first among the containers
abbrev pub do_code : List ℕ → List Expr → Around → Placed
do_code name arguments around at = of_instance (bound_to name around.scope) (λ made.
    let parts : List (Piece Around) = map main_piece arguments in
    let uniforms : List (Piece Around) = drop (suc (operands_of made)) parts in
    uniforms_code made uniforms around at
    ++ instr.Do made.number (containers_of around (take (suc (operands_of made)) parts)) (length uniforms) ∷ [])

abbrev pub item_emitted : Item → Emitting
item_emitted (Value expr) = taking (main_piece expr).code (main_piece expr).depth (λ around standing. instr.Print ∷ [])
item_emitted (Text text) = taking (λ around at. []) (λ around. 0) (λ around standing. instr.Text text ∷ [])
item_emitted End = taking (λ around at. []) (λ around. 0) (λ around standing. instr.Endl ∷ [])

-- What a statement of main is compiled to at its line, its parts being replaced by what they are compiled to.
abbrev pub emitting_step : What-F (ℕ → Emitting) Emitting → (line : ℕ) → Emitting
emitting_step (Declare ty name expr) line = declaring name ty (counted line
    (taking (wanted_code ty (main_piece expr)) (main_piece expr).depth (λ around standing. instr.Store (length standing.slots) ∷ [])))
emitting_step (Assign name expr) line = counted line (taking
    (λ around at. wanted_code (type_in around name) (main_piece expr) around at) (main_piece expr).depth
    (λ around standing. store_code (bound_to name around.scope)))
emitting_step (Poke name places value) line = counted line (taking
    (poke_code name places value) (parts_depth (map main_piece (places ++ value ∷ [])))
    (λ around standing. instr.Poke (container_named around name) (length places) ∷ []))
emitting_step (Make kind ty name arguments) line = holding name kind ty (counted line (taking
    (make_code ty kind arguments) (make_depth kind arguments)
    (λ around standing. instr.Make (length standing.containers) kind ty kind ∷ [])))
emitting_step (Take kind ty name input) line = holding name kind ty (counted line (taking
    (λ around at. []) (λ around. 0) (λ around standing. instr.Take (length standing.containers) kind ty input ∷ [])))
emitting_step (Instance instance) line = instancing instance (counted line no_code)
emitting_step (Set name value) line = counted line (taking
    (set_code name value) (parts_depth (map main_piece (setting_values value))) (λ around standing. []))
emitting_step (Call name arguments) line = counted line (taking
    (do_code name arguments) (do_depth name arguments) (λ around standing. []))
emitting_step (Print items) line = counted line (all_emitted (map item_emitted items))
emitting_step (If test one other) line = counted line (if_emitted (main_piece test) one other)
emitting_step (For first test step body) line = for_emitted line first (main_piece test) step body
emitting_step (Return expr) line = counted line (taking
    (main_piece expr).code (main_piece expr).depth (λ around standing. instr.Pop ∷ instr.Halt ∷ []))

-- what a statement of main is compiled to
abbrev pub emitting_of : Statement → Emitting
emitting_of = fold-Statement (ℕ → Emitting) Emitting emitting_step (λ statement. statement.what statement.line)

-- what main is compiled to, behind the functions before it; it ends with a halt
abbrev pub main_emitted : List (List ℕ × Known) → List Statement → Emitted
main_emitted functions body =
    then_emitted (all_emitted (map emitting_of body)) (λ known standing. only_code (instr.Halt ∷ []) 0 standing)
    functions (record { at = 0; scope = []; slots = []; containers = []; instances = [] })
