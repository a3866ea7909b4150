-- The code of user functions, by recursion on the tree.
use Rattle.std.specs.Prelude.{ℕ, suc, ◌+◌, max, if◌then◌else◌, List, [], ◌∷◌, ◌++◌, length, map, Option, Some, None}
use Rattle.sk_base.specs.declared.number.Ty.{Ty}
use Rattle.sk_base.specs.declared.number.Ty.TheVariants.{Int}
use Rattle.sk_names.specs.Bindings.{bound_to}
use Rattle.sk_meaning.specs.Evaluation.{kind_type}
use Rattle.sk_scheme.specs.Pieces.{Placed, Piece, Leaves, wanted_code, places_code, arguments_code, parts_depth, piece_step}
use Rattle.sk_tree.specs.Parameters.{is_scalar}
use Rattle.sk_tree.specs.declared.tree.Expr.{Expr, fold-Expr}
use Rattle.sk_tree.specs.declared.tree.Expr.TheOpen.{Expr-F}
use Rattle.sk_tree.specs.declared.tree.Function.{Function}
use Rattle.sk_tree.specs.declared.tree.Param.{Param}
use Rattle.sk_tree.specs.declared.tree.ParamKind.{ParamKind}
use Rattle.sk_tree.specs.declared.tree.ParamKind.TheVariants.{Scalar, Index, Proxy, Region}
use Rattle.sk_tree.specs.declared.tree.Statement.{Statement, fold-Statement}
use Rattle.sk_tree.specs.declared.tree.What.TheOpen.{What-F, Declare, Assign, If, For, Return}
use Rattle.sk_isa.specs.declared.code.Code.{Code}
use Rattle.sk_isa.specs.declared.code.Instr.{Instr}
use Rattle.sk_isa.specs.declared.code.Instr.TheVariants as instr
use Rattle.sk_isa.specs.declared.object.Signature.{Signature}

-- where a name's value is kept, and of what kind it is
pub record Slot : Type 0 where
  pub number : ℕ
  pub kind : ParamKind

-- a function that may be called: its number, the type of its value, and the kinds of its parameters
pub record Known : Type 0 where
  pub number : ℕ
  pub ret : Ty
  pub kinds : List ParamKind

-- the functions and the names in scope where code stands, the latest first
pub record Around : Type 0 where
  pub functions : List (List ℕ × Known)
  pub scope : List (List ℕ × Slot)

abbrev pub name_type : Option Slot → Ty
name_type (Some slot) = kind_type slot.kind
name_type None = Int

-- the value of a scalar; a parameter of another kind is no value
abbrev pub name_code : Option Slot → List Instr
name_code (Some slot) = if is_scalar slot.kind then instr.Load slot.number ∷ [] else []
name_code None = []

abbrev pub name_depth : Option Slot → ℕ
name_depth (Some slot) = if is_scalar slot.kind then 1 else 0
name_depth None = 0

abbrev pub field_code : Option Slot → List ℕ → List Instr
field_code (Some slot) field = instr.Field slot.number field ∷ []
field_code None field = []

-- what is applied: an element of a parameter at places, or a function to arguments
abbrev pub applied_code : Option Slot → Option Known → List (Piece Around) → Around → Placed
applied_code (Some slot) known parts around at =
    let places : List Instr = places_code parts around at in
    elim slot.kind [
      | Scalar ty ↦ places
      | Index dimension ↦ places
      | Proxy dimension ty ↦ places ++ instr.Item slot.number (length parts) ∷ []
      | Region dimension ty ↦ places ++ instr.Region slot.number (length parts) ∷ []
    ]
applied_code None (Some known) parts around at = arguments_code known.kinds parts around at ++ instr.Call known.number ∷ []
applied_code None None parts around at = places_code parts around at

abbrev pub applied_type : Option Slot → Option Known → Ty
applied_type (Some slot) known = kind_type slot.kind
applied_type None (Some known) = known.ret
applied_type None None = Int

-- what names are compiled to in a function; it has no methods
abbrev pub function_leaves : Leaves Around
function_leaves = record {
  scalar = λ around name. record {
    ty = name_type (bound_to name around.scope);
    code = name_code (bound_to name around.scope);
    depth = name_depth (bound_to name around.scope);
  };
  field = λ around name field. record { ty = Int; code = field_code (bound_to name around.scope) field; depth = 1 };
  method = λ around name method. record { ty = Int; code = []; depth = 1 };
  applied = λ name parts. record {
    name = [];
    ty = λ around. applied_type (bound_to name around.scope) (bound_to name around.functions);
    code = λ around. applied_code (bound_to name around.scope) (bound_to name around.functions) parts around;
    depth = λ around. max 1 (parts_depth parts around);
  };
}

abbrev pub Compiled : Type 0
Compiled = Piece Around

-- what an expression of a function is compiled to, its parts being replaced by what they are compiled to
abbrev pub compiled_step : Expr-F Compiled → Compiled
compiled_step = piece_step function_leaves

abbrev pub compiled_of : Expr → Compiled
compiled_of = fold-Expr Compiled compiled_step

-- what all statements of a function share: the functions before it, and the type of its value
pub record Within : Type 0 where
  pub functions : List (List ℕ × Known)
  pub ret : Ty

-- where a statement's code begins: its address, the names in scope, and the kinds of the slots so far
pub record Standing : Type 0 where
  pub at : ℕ
  pub scope : List (List ℕ × Slot)
  pub slots : List ParamKind

-- a statement's code, the names in scope and the slots behind it, and the most values on the stack in it
pub record Emitted : Type 0 where
  pub code : List Instr
  pub scope : List (List ℕ × Slot)
  pub slots : List ParamKind
  pub depth : ℕ

abbrev pub Emitting : Type 0
Emitting = Within → Standing → Emitted

abbrev pub around_in : Within → Standing → Around
around_in within standing = record { functions = within.functions; scope = standing.scope }

-- where the code behind a statement begins
abbrev pub behind : Standing → Emitted → Standing
behind standing emitted =
    record { at = standing.at + length emitted.code; scope = emitted.scope; slots = emitted.slots }

-- code behind code
abbrev pub joined : Emitted → Emitted → Emitted
joined first second = record {
  code = first.code ++ second.code;
  scope = second.scope;
  slots = second.slots;
  depth = max first.depth second.depth;
}

-- code alone, which declares nothing
abbrev pub only_code : Standing → List Instr → (depth : ℕ) → Emitted
only_code standing code depth = record { code = code; scope = standing.scope; slots = standing.slots; depth = depth }

-- statements one after another
abbrev pub all_emitted : List Emitting → Emitting
all_emitted [] within standing = only_code standing [] 0
all_emitted (first ∷ rest) within standing =
    let one : Emitted = first within standing in
    joined one (all_emitted rest within (behind standing one))

-- the names that a block declares end with it, and their slots stay
abbrev pub block_emitted : List Emitting → Emitting
block_emitted statements within standing = record (all_emitted statements within standing) { scope = standing.scope }

-- an expression as a value of a type, and an instruction that takes it
abbrev pub taken_code : Ty → Compiled → Instr → Within → Standing → Emitted
taken_code ty part last within standing =
    only_code standing (wanted_code ty part (around_in within standing) standing.at ++ last ∷ []) (part.depth (around_in within standing))

-- a scalar in scope that has the next slot
abbrev pub declared_slot : List ℕ → Ty → Emitted → Emitted
declared_slot name ty emitted = record emitted {
  scope = (name, record { number = length emitted.slots; kind = Scalar ty }) ∷ emitted.scope;
  slots = emitted.slots ++ Scalar ty ∷ [];
}

abbrev pub assigned_code : Option Slot → Compiled → Emitting
assigned_code (Some slot) part within standing = taken_code (kind_type slot.kind) part (instr.Store slot.number) within standing
assigned_code None part within standing = only_code standing [] (part.depth (around_in within standing))

-- a test, and where it holds a block
abbrev pub if_emitted : Compiled → List Emitting → Emitting
if_emitted test one within standing =
    let first : List Instr = test.code (around_in within standing) standing.at in
    let inner : Emitted = block_emitted one within (record standing { at = standing.at + length first + 1 }) in
    record {
      code = first ++ instr.Zero (standing.at + length first + 1 + length inner.code) ∷ inner.code;
      scope = standing.scope;
      slots = inner.slots;
      depth = max (test.depth (around_in within standing)) inner.depth;
    }

-- a test, and one of two blocks
abbrev pub if_else_emitted : Compiled → List Emitting → List Emitting → Emitting
if_else_emitted test one other within standing =
    let first : List Instr = test.code (around_in within standing) standing.at in
    let inner : Emitted = block_emitted one within (record standing { at = standing.at + length first + 1 }) in
    let third : ℕ = standing.at + length first + length inner.code + 2 in
    let last : Emitted = block_emitted other within (record { at = third; scope = standing.scope; slots = inner.slots }) in
    record {
      code = first ++ instr.Zero third ∷ inner.code ++ instr.Jump (third + length last.code) ∷ last.code;
      scope = standing.scope;
      slots = last.slots;
      depth = max (test.depth (around_in within standing)) (max inner.depth last.depth);
    }

-- the test of a loop, and where it holds a turn, the body, the step, and the test again
abbrev pub loop_emitted : Compiled → (body step : Emitting) → Emitting
loop_emitted test body step within standing =
    let first : List Instr = test.code (around_in within standing) standing.at in
    let inner : Emitted = body within (record standing { at = standing.at + length first + 2 }) in
    let last : Emitted = step within (record { at = standing.at + length first + 2 + length inner.code; scope = standing.scope; slots = inner.slots }) in
    let ends : ℕ = standing.at + length first + length inner.code + length last.code + 3 in
    record {
      code = first ++ instr.Zero ends ∷ instr.Turn ∷ inner.code ++ last.code ++ instr.Jump standing.at ∷ [];
      scope = standing.scope;
      slots = last.slots;
      depth = max (test.depth (around_in within standing)) (max inner.depth last.depth);
    }

-- What a statement of a function is compiled to, its parts being replaced by what they are compiled to. A function has no
-- others than these.
abbrev pub emitting_step : What-F Emitting Emitting → Emitting
emitting_step (Declare ty name expr) within standing =
    declared_slot name ty (taken_code ty (compiled_of expr) (instr.Store (length standing.slots)) within standing)
emitting_step (Assign name expr) within standing =
    assigned_code (bound_to name standing.scope) (compiled_of expr) within standing
emitting_step (If test one []) within standing = if_emitted (compiled_of test) one within standing
emitting_step (If test one (other ∷ others)) within standing =
    if_else_emitted (compiled_of test) one (other ∷ others) within standing
emitting_step (For first test step body) within standing =
    let one : Emitted = first within standing in
    record (joined one (loop_emitted (compiled_of test) (block_emitted body) step within (behind standing one))) {
      scope = standing.scope;
    }
emitting_step (Return expr) within standing = taken_code within.ret (compiled_of expr) instr.Ret within standing
emitting_step what within standing = only_code standing [] 0

-- what a statement of a function is compiled to
abbrev pub emitting_of : Statement → Emitting
emitting_of = fold-Statement Emitting Emitting emitting_step (λ statement. statement.what)

-- the parameters in scope, the latest first: each has the slot of its number
abbrev pub parameters_from : (number : ℕ) → List Param → List (List ℕ × Slot) → List (List ℕ × Slot)
parameters_from number [] scope = scope
parameters_from number (param ∷ params) scope =
    parameters_from (suc number) params ((param.name, record { number = number; kind = param.kind }) ∷ scope)

abbrev pub kinds_of : List Param → List ParamKind
kinds_of params = map (λ param. param.kind) params

-- what a function's body is compiled to, behind these functions
abbrev pub body_emitted : List (List ℕ × Known) → Function → Emitted
body_emitted functions function = all_emitted (map emitting_of function.body)
    (record { functions = functions; ret = function.ret })
    (record { at = 0; scope = parameters_from 0 function.params []; slots = kinds_of function.params })

abbrev pub code_of : List (List ℕ × Known) → Function → Code
code_of functions function =
    let emitted : Emitted = body_emitted functions function in
    record { instrs = emitted.code; slots = length emitted.slots; depth = emitted.depth }

abbrev pub signature_of : List (List ℕ × Known) → Function → Signature
signature_of functions function =
    record { ret = function.ret; params = kinds_of function.params; slots = (body_emitted functions function).slots }

abbrev pub known_of : (number : ℕ) → Function → Known
known_of number function = record { number = number; ret = function.ret; kinds = kinds_of function.params }

-- functions in text order, counted from a number, each of which may call those before it; the latest first
abbrev pub known_after : (number : ℕ) → List (List ℕ × Known) → List Function → List (List ℕ × Known)
known_after number known [] = known
known_after number known (function ∷ functions) =
    known_after (suc number) ((function.name, known_of number function) ∷ known) functions

abbrev pub known_functions : List Function → List (List ℕ × Known)
known_functions = known_after 0 []

-- the codes of functions in text order, counted from a number, behind these functions
abbrev pub codes_after : (number : ℕ) → List (List ℕ × Known) → List Function → List Code
codes_after number known [] = []
codes_after number known (function ∷ functions) =
    code_of known function ∷ codes_after (suc number) ((function.name, known_of number function) ∷ known) functions

-- the code of each function
abbrev pub codes_of : List Function → List Code
codes_of = codes_after 0 []

abbrev pub signatures_after : (number : ℕ) → List (List ℕ × Known) → List Function → List Signature
signatures_after number known [] = []
signatures_after number known (function ∷ functions) =
    signature_of known function ∷ signatures_after (suc number) ((function.name, known_of number function) ∷ known) functions

-- what each function takes and gives
abbrev pub signatures_of : List Function → List Signature
signatures_of = signatures_after 0 []
