-- Programs whose functions keep to what functions may do, with parameters of every kind.
use Rattle.std.specs.Prelude.{◌≡◌, ℕ, ◌≤◌, Bool, true, false, ◌&&◌, ◌||◌, ◌==◌, if◌then◌else◌, List, [], ◌∷◌, length, map, reverse, All, ℤ, pos, negsuc, Option, Some, None, IsSome, int_le}
use Rattle.std.specs.List.{list_any, list_all}
use Rattle.std.specs.Option.{option_and_then}
use Rattle.sk_base.specs.declared.number.Ty.{Ty}
use Rattle.sk_base.specs.declared.number.Ty.TheVariants.{Int, Long}
use Rattle.sk_names.specs.Bindings.{bound_to}
use Rattle.sk_tree.specs.declared.tree.Expr.{Expr, fold-Expr}
use Rattle.sk_tree.specs.declared.tree.Expr.TheOpen.{Expr-F, Number, Name, Field, Method, Unary, Cast, Binary, Both, Either, Choose, Apply}
use Rattle.sk_tree.specs.Parameters.{is_scalar, is_field}
use Rattle.sk_tree.specs.declared.tree.Function.{Function}
use Rattle.sk_tree.specs.declared.tree.ParamKind.{ParamKind}
use Rattle.sk_tree.specs.declared.tree.ParamKind.TheVariants.{Scalar, Index, Proxy, Region}
use Rattle.sk_tree.specs.declared.tree.Program.{Program}
use Rattle.sk_tree.specs.declared.tree.Statement.{Statement, fold-Statement}
use Rattle.sk_tree.specs.declared.tree.What.TheOpen.{What-F, Declare, Assign, If, For, Return}
use Rattle.sk_scheme.specs.Plans.{functions_before_main, functions_object}
use Rattle.sk_isa.specs.SoundObjects.{IsSoundPlan}
use Rattle.sk_isa.specs.Soundness.{is_kind}
use Rattle.sk_scheme.specs.Scheme.{kinds_of}

-- the kinds of the parameters of each function that may be named, the latest first
abbrev pub Parameters : Type 0
Parameters = List (List ℕ × List ParamKind)

abbrev pub is_some : {A : Type 0} → Option A → Bool
is_some (Some value) = true
is_some None = false

abbrev pub is_some_and : {A : Type 0} → (A → Bool) → Option A → Bool
is_some_and test (Some value) = test value
is_some_and test None = false

-- the scalars and parameters in scope with their kinds, the latest first
abbrev pub NamedKinds : Type 0
NamedKinds = List (List ℕ × ParamKind)

-- a name in scope stands for a scalar
abbrev pub is_scalar_name : List ℕ → NamedKinds → Bool
is_scalar_name name names = is_some_and is_scalar (bound_to name names)

-- the number fits its type
abbrev pub fits_type : Ty → ℤ → Bool
fits_type Int number = int_le (negsuc 2147483647) number && int_le number (pos 2147483647)
fits_type Long number = int_le (negsuc 9223372036854775807) number && int_le number (pos 9223372036854775807)

-- a function of scalars that is called with as many arguments as it takes
abbrev pub takes : Option (List ParamKind) → ℕ → Bool
takes (Some kinds) given = list_all is_scalar kinds && length kinds == given
takes None given = false

-- a container that has so many coordinates or distances
abbrev pub has_places : ParamKind → ℕ → Bool
has_places (Scalar ty) given = false
has_places (Index dimension) given = false
has_places (Proxy dimension ty) given = dimension == given
has_places (Region dimension ty) given = dimension == given

-- what is applied: an element of a parameter at a place, or a function before
abbrev pub is_applied : Option ParamKind → Option (List ParamKind) → (given : ℕ) → Bool
is_applied (Some kind) kinds given = has_places kind given
is_applied None kinds given = takes kinds given

-- Each number fits its type, each name alone is a scalar's, each field is one of its parameter, each element has as many
-- coordinates or distances as its container, and each call is of a function before that takes scalars, with as many arguments
-- as it takes. Methods do not occur.
abbrev pub plain_expression_step : Expr-F (Parameters → NamedKinds → Bool) → Parameters → NamedKinds → Bool
plain_expression_step (Number ty number) parameters names = fits_type ty number
plain_expression_step (Name name) parameters names = is_scalar_name name names
plain_expression_step (Field name field) parameters names = is_some_and (λ kind. is_field kind field) (bound_to name names)
plain_expression_step (Method name method) parameters names = false
plain_expression_step (Unary op part) parameters names = part parameters names
plain_expression_step (Cast ty part) parameters names = part parameters names
plain_expression_step (Binary op left right) parameters names = left parameters names && right parameters names
plain_expression_step (Both left right) parameters names = left parameters names && right parameters names
plain_expression_step (Either left right) parameters names = left parameters names && right parameters names
plain_expression_step (Choose test one other) parameters names = test parameters names && one parameters names && other parameters names
plain_expression_step (Apply name parts) parameters names =
    is_applied (bound_to name names) (bound_to name parameters) (length parts) && list_all (λ part. part parameters names) parts

abbrev pub is_plain_expression : Expr → Parameters → NamedKinds → Bool
is_plain_expression = fold-Expr (Parameters → NamedKinds → Bool) plain_expression_step

-- what is judged of a statement: the names in scope behind it, where it is plain, and whether it is an assignment or a
-- declaration
pub record Plainness : Type 0 where
  pub behind : Parameters → NamedKinds → Option NamedKinds
  pub assigns : Bool
  pub declares : Bool

-- statements one after another
abbrev pub all_behind : List Plainness → Parameters → NamedKinds → Option NamedKinds
all_behind [] parameters names = Some names
all_behind (first ∷ rest) parameters names = option_and_then (λ inner. all_behind rest parameters inner) (first.behind parameters names)

-- the names that a block declares end with it
abbrev pub block_is_plain : List Plainness → Parameters → NamedKinds → Bool
block_is_plain statements parameters names = is_some (all_behind statements parameters names)

abbrev pub behind_if : Bool → NamedKinds → Option NamedKinds
behind_if test names = if test then Some names else None

abbrev pub plainness_if : (Parameters → NamedKinds → Bool) → Plainness
plainness_if test = record { behind = λ parameters names. behind_if (test parameters names) names; assigns = false; declares = false }

-- the first statement declares or assigns a scalar, and the step assigns one
abbrev pub loop_is_plain : Plainness → Expr → Plainness → List Plainness → Parameters → NamedKinds → Bool
loop_is_plain first test step body parameters names =
    (first.declares || first.assigns) && step.assigns
    && is_some_and (λ inner. is_plain_expression test parameters inner && block_is_plain body parameters inner && is_some (step.behind parameters inner))
    (first.behind parameters names)

-- Declarations of scalars, assignments to scalars in scope, `if`, `for` and `return` alone occur.
abbrev pub plainness_step : What-F Plainness Plainness → Plainness
plainness_step (Declare ty name expr) = record {
  behind = λ parameters names. behind_if (is_plain_expression expr parameters names) ((name, Scalar ty) ∷ names);
  assigns = false;
  declares = true;
}
plainness_step (Assign name expr) = record {
  behind = λ parameters names. behind_if (is_scalar_name name names && is_plain_expression expr parameters names) names;
  assigns = true;
  declares = false;
}
plainness_step (If test one other) = plainness_if (λ parameters names.
    is_plain_expression test parameters names && block_is_plain one parameters names && block_is_plain other parameters names)
plainness_step (For first test step body) = plainness_if (loop_is_plain first test step body)
plainness_step (Return expr) = plainness_if (is_plain_expression expr)
plainness_step what = plainness_if (λ parameters names. false)

abbrev pub plainness_of : Statement → Plainness
plainness_of = fold-Statement Plainness Plainness plainness_step (λ statement. statement.what)

-- a block returns where it has a return, or an `if` whose two blocks return
abbrev pub returns_step : What-F Bool Bool → Bool
returns_step (If test one other) = list_any (λ part. part) one && list_any (λ part. part) other
returns_step (Return expr) = true
returns_step what = false

abbrev pub returns_of : Statement → Bool
returns_of = fold-Statement Bool Bool returns_step (λ statement. statement.what)

-- a function with parameters of kinds that there are, whose body is plain and returns
pub record IsPlainFunction (parameters : Parameters) (function : Function) : Type 0 where
  pub kinds : list_all (λ param. is_kind param.kind) function.params ≡ true
  pub few : length function.params ≤ 64
  pub body : IsSome (all_behind (map plainness_of function.body) parameters (reverse (map (λ param. (param.name, param.kind)) function.params)))
  pub returns : list_any returns_of function.body ≡ true

-- functions in text order, each of which may call those before it
abbrev pub ArePlain : Parameters → List Function → Type 0
ArePlain before [] = Unit {0}
ArePlain before (function ∷ functions) =
    IsPlainFunction before function × ArePlain ((function.name, kinds_of function.params) ∷ before) functions

abbrev pub takes_scalars : Function → Bool
takes_scalars function = list_all (λ param. is_scalar param.kind) function.params

-- every parameter of every function before main is a scalar
abbrev pub FunctionsTakeScalars : Program → Type 0
FunctionsTakeScalars program = list_all takes_scalars (functions_before_main program) ≡ true

-- A program whose functions before main are plain, and whose instances fit them.
pub record IsPlain (program : Program) : Type 0 where
  pub functions : ArePlain [] (functions_before_main program)
  pub instances : All (IsSoundPlan (functions_object program)) (functions_object program).instances
