-- What names stand for where a statement stands, and what the kinds of parameters and containers have.
use Rattle.std.specs.Prelude.{ℕ, Bool, true, false, if◌then◌else◌, List, [], ◌∷◌, replicate, Option, Some, None}
use Rattle.sk_names.specs.Bindings.{bound_to}
use Rattle.sk_typing.specs.declared.names.Expected.{Expected}
use Rattle.sk_typing.specs.declared.names.Expected.TheVariants.{Number, Container}
use Rattle.sk_typing.specs.declared.names.Fault.{Fault}
use Rattle.sk_typing.specs.declared.names.Fault.TheVariants.{At}
use Rattle.sk_typing.specs.declared.names.FaultKind.{FaultKind}
use Rattle.sk_typing.specs.declared.names.FaultKind.TheVariants.{Unknown, Twice, Mismatch}
use Rattle.sk_typing.specs.declared.names.Known.{Known}
use Rattle.sk_typing.specs.declared.names.Known.TheVariants.{Variable}
use Rattle.sk_tree.specs.declared.tree.Function.{Function}
use Rattle.sk_tree.specs.declared.tree.ParamKind.{ParamKind}
use Rattle.sk_tree.specs.declared.tree.ParamKind.TheVariants.{Scalar, Index, Proxy, Region}
use Rattle.sk_tree.specs.Parameters.{is_field, is_method}

-- the names in scope, the latest first: functions, instances, containers and scalars share one space
abbrev pub Knowns : Type 0
Knowns = List (List ℕ × Known)

-- Where something stands: in the function with that number of these, which may be main, in its outermost block or not,
-- and in a statement of that line.
pub record Around : Type 0 where
  pub functions : List Function
  pub number : ℕ
  pub in_main : Bool
  pub outermost : Bool
  pub line : ℕ

-- a fault of the statement that this stands in
abbrev pub fault : Around → FaultKind → List Fault
fault around kind = At around.line kind ∷ []

-- a fault of that kind, unless a rule is kept
abbrev pub unless : Bool → Around → FaultKind → List Fault
unless true around kind = []
unless false around kind = fault around kind

-- Declaring a name that is in scope is a fault.
abbrev pub twice_faults : Around → Knowns → List ℕ → List Fault
twice_faults around names name = elim (bound_to name names) [ Some known ↦ fault around Twice | None ↦ [] ]

-- a name that is used as a number stands for a scalar
abbrev pub scalar_faults : Around → Option Known → List Fault
scalar_faults around None = fault around Unknown
scalar_faults around (Some (Variable (Scalar ty))) = []
scalar_faults around (Some known) = fault around Mismatch

-- the containers that are given for the proxies among parameters
abbrev pub proxy_places : List ParamKind → List Expected
proxy_places [] = []
proxy_places (Proxy dimension ty ∷ kinds) = Container (Some dimension) ty ∷ proxy_places kinds
proxy_places (Scalar ty ∷ kinds) = proxy_places kinds
proxy_places (Index dimension ∷ kinds) = proxy_places kinds
proxy_places (Region dimension ty ∷ kinds) = proxy_places kinds

-- so many values
abbrev pub numbers : ℕ → List Expected
numbers count = replicate count Number

-- a variable that passes a test; a test that fails, and every name that stands for something else, is a mismatch
abbrev pub variable_faults : Around → Option Known → (ParamKind → Bool) → List Fault
variable_faults around None test = fault around Unknown
variable_faults around (Some (Variable kind)) test = unless (test kind) around Mismatch
variable_faults around (Some known) test = fault around Mismatch

-- Fields stand in user functions, methods in main.
abbrev pub field_faults : Around → Knowns → (name field : List ℕ) → List Fault
field_faults around names name field =
    variable_faults around (bound_to name names) (λ kind. if around.in_main then false else is_field kind field)

abbrev pub method_faults : Around → Knowns → (name method : List ℕ) → List Fault
method_faults around names name method =
    variable_faults around (bound_to name names) (λ kind. if around.in_main then is_method kind method else false)
