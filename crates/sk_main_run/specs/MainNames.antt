-- What names mean in main.
use Rattle.std.specs.Prelude.{ℕ, List, map, take, drop, ℤ, pos, Option, Some, None, Result, Ok, Err}
use Rattle.sk_base.specs.Arithmetic.{op_of}
use Rattle.sk_base.specs.declared.number.Ty.{Ty}
use Rattle.sk_base.specs.declared.number.Ty.TheVariants.{Int}
use Rattle.sk_meaning.specs.Evaluation.{Callables, Value, value_of}
use Rattle.sk_meaning.specs.Expressions.{Names, meaning_of, values_of}
use Rattle.sk_names.specs.Bindings.{bound_to}
use Rattle.sk_tree.specs.declared.tree.Expr.{Expr}
use Rattle.sk_world.specs.Calls.{Instance, operand_count, call_of}
use Rattle.sk_world.specs.World.{World, Over, Doing, Trapped, container_at, read, size_of, valued}

-- what a name of main stands for
pub data Meant : Type 0 where
  Scalar : Ty → ℤ → Meant
  -- a container with its number in the text, and its elements' type
  Whole : (number : ℕ) → Ty → Meant
  Called : Instance → Meant

-- the names in scope, the latest first
abbrev pub Scope : Type 0
Scope = List (List ℕ × Meant)

-- where a run of main stands: the user functions that it may call, the names in scope, and the world
pub record State : Type 0 where
  pub callables : Callables
  pub scope : Scope
  pub world : World

-- the number of the container that a name stands for; a typed program asks for no other name
abbrev pub number_in : Scope → List ℕ → ℕ
number_in scope name = elim (bound_to name scope) [
  | Some meant ↦ elim meant [ Whole number ty ↦ number | Scalar ty value ↦ 0 | Called instance ↦ 0 ]
  | None ↦ 0
]

-- A call of an instance that is a number: the containers come first among its arguments, and then the uniform ones.
abbrev pub called : Scope → Instance → (names : List (List ℕ)) → (values : List ℤ) → Doing ℤ
called scope instance names values =
    call_of instance None (map (number_in scope) (take (operand_count instance) names)) (drop (operand_count instance) values)

abbrev pub applied_type : Callables → List ℕ → Option Meant → Ty
applied_type callables name (Some (Scalar ty value)) = ty
applied_type callables name (Some (Whole number ty)) = ty
applied_type callables name (Some (Called instance)) = instance.ty
applied_type callables name None = elim (bound_to name callables) [ Some callable ↦ callable.ret | None ↦ Int ]

-- an element of a container, a call of an instance, or one invocation of a user function
abbrev pub applied : Callables → Scope → List ℕ → Option Meant → (names : List (List ℕ)) → (values : List ℤ) → Doing ℤ
applied callables scope name (Some (Scalar ty value)) names values = λ world. Ok (pos 0, world)
applied callables scope name (Some (Whole number ty)) names values = read number values
applied callables scope name (Some (Called instance)) names values = called scope instance names values
applied callables scope name None names values = elim (bound_to name callables) [
  | Some callable ↦ valued (value_of callable (map Value values))
  | None ↦ λ world. Ok (pos 0, world)
]

abbrev pub scalar_of : Option Meant → Ty × ℤ
scalar_of (Some (Scalar ty value)) = (ty, value)
scalar_of (Some (Whole number ty)) = (Int, pos 0)
scalar_of (Some (Called instance)) = (Int, pos 0)
scalar_of None = (Int, pos 0)

-- what names mean where an expression of main stands
abbrev pub main_names : State → Names World Over
main_names state = record {
  arithmetic = op_of;
  scalar = λ name. scalar_of (bound_to name state.scope);
  field = λ name field. pos 0;
  method = λ name method. size_of (container_at state.world (number_in state.scope name)) method;
  applied = λ name. applied_type state.callables name (bound_to name state.scope);
  apply = λ name names values. applied state.callables state.scope name (bound_to name state.scope) names values;
  stop = λ trap world. record { ending = Trapped trap world.line 0; world = world };
}

-- the value of an expression of main, and the state behind it
abbrev pub in_state : {A : Type 0} → State → Result (A × World) Over → Result (A × State) Over
in_state state (Ok done) = Ok (done.0, record state { world = done.1 })
in_state state (Err over) = Err over

abbrev pub evaluated : Expr → State → Result (ℤ × State) Over
evaluated expr state = in_state state ((meaning_of expr).value (main_names state) state.world)

-- from left to right
abbrev pub all_evaluated : List Expr → State → Result (List ℤ × State) Over
all_evaluated exprs state = in_state state (values_of (map meaning_of exprs) (main_names state) state.world)
