-- The faults of expressions, and of names that are used with arguments.
use Rattle.std.specs.Prelude.{ℕ, ◌==◌, nat_lt, Bool, true, false, if◌then◌else◌, List, [], ◌∷◌, ◌++◌, map, length, Option, Some, None, slice_get, flat_map}
use Rattle.std.specs.List.{list_all}
use Rattle.sk_base.specs.declared.number.Ty.{Ty}
use Rattle.sk_names.specs.Bindings.{bound_to}
use Rattle.sk_typing.specs.TypingInstances.{value_use, statement_use, setting_use}
use Rattle.sk_typing.specs.TypingNames.{Knowns, Around, fault, unless, scalar_faults, numbers, field_faults, method_faults}
use Rattle.sk_tree.specs.Parameters.{is_scalar, same_type}
use Rattle.sk_tree.specs.Functions.{kinds_of}
use Rattle.sk_typing.specs.declared.names.Expected.{Expected}
use Rattle.sk_typing.specs.declared.names.Expected.TheVariants.{Number, Container}
use Rattle.sk_typing.specs.declared.names.Fault.{Fault}
use Rattle.sk_typing.specs.declared.names.FaultKind.TheVariants.{Unknown, Mismatch, Arity}
use Rattle.sk_typing.specs.declared.names.Known.{Known}
use Rattle.sk_typing.specs.declared.names.Known.TheVariants.{Variable, Function as FunctionName, Instance as InstanceName, Broken}
use Rattle.sk_typing.specs.declared.names.Use.{Use}
use Rattle.sk_typing.specs.declared.names.Use.TheVariants.{Takes, Wrong, Free}
use Rattle.sk_tree.specs.declared.tree.Expr.{Expr, fold-Expr}
use Rattle.sk_tree.specs.declared.tree.Expr.TheOpen.{Expr-F, Number as Literal, Name, Field, Method, Unary, Cast, Binary, Both, Either, Choose, Apply}
use Rattle.sk_tree.specs.declared.tree.Function.{Function}
use Rattle.sk_tree.specs.declared.tree.ParamKind.{ParamKind}
use Rattle.sk_tree.specs.declared.tree.ParamKind.TheVariants.{Scalar, Index, Proxy, Region}
use Rattle.sk_tree.specs.declared.tree.Setting.{Setting}

-- What is said of an expression: whether it is a name alone, what that name stands for, and its faults as a value. It has a
-- type where it has no fault; which of the two types decides no fault, since a value of either is taken everywhere.
pub record Judged : Type 0 where
  pub is_name : Bool
  pub known : Option Known
  pub faults : List Fault

-- an expression that is no name
abbrev pub value_judged : List Fault → Judged
value_judged faults = record { is_name = false; known = None; faults = faults }

-- the dimension of the container that the first argument is
abbrev pub container_dimension : Option Known → Option ℕ
container_dimension (Some (Variable (Proxy dimension ty))) = Some dimension
container_dimension known = None

abbrev pub first_dimension : List Judged → Option ℕ
first_dimension [] = None
first_dimension (argument ∷ arguments) = container_dimension argument.known

-- a name is in scope
abbrev pub scope_faults : Around → Option Known → List Fault
scope_faults around (Some known) = []
scope_faults around None = fault around Unknown

-- the faults of an argument, whatever it has to be
abbrev pub part_faults : Around → Judged → List Fault
part_faults around argument = if argument.is_name then scope_faults around argument.known else argument.faults

abbrev pub all_part_faults : Around → List Judged → List Fault
all_part_faults around = flat_map (part_faults around)

-- a container of that dimension, where one is given, and of that element type
abbrev pub container_fits : Option ℕ → Ty → ParamKind → Bool
container_fits None ty (Proxy dimension element) = same_type element ty
container_fits (Some wanted) ty (Proxy dimension element) = if dimension == wanted then same_type element ty else false
container_fits wanted ty kind = false

abbrev pub container_faults : Around → Option ℕ → Ty → Option Known → List Fault
container_faults around dimension ty None = fault around Unknown
container_faults around dimension ty (Some (Variable kind)) = unless (container_fits dimension ty kind) around Mismatch
container_faults around dimension ty (Some known) = fault around Mismatch

-- a value where a container has to stand
abbrev pub misplaced_faults : Around → List Fault → List Fault
misplaced_faults around [] = fault around Mismatch
misplaced_faults around (fault ∷ faults) = fault ∷ faults

-- the faults of an argument where something is expected
abbrev pub argument_faults : Around → Expected → Judged → List Fault
argument_faults around Number argument = argument.faults
argument_faults around (Container dimension ty) argument =
    if argument.is_name then container_faults around dimension ty argument.known else misplaced_faults around argument.faults

abbrev pub each_argument_faults : Around → List Expected → List Judged → List Fault
each_argument_faults around (expected ∷ more) (argument ∷ arguments) =
    argument_faults around expected argument ++ each_argument_faults around more arguments
each_argument_faults around expected arguments = []

-- The faults of a use with arguments. A wrong count is a fault of its own, and what the arguments have to be is then not
-- looked at.
abbrev pub use_faults : Around → Use → List Judged → List Fault
use_faults around (Takes expected) arguments =
    if length arguments == length expected then each_argument_faults around expected arguments
    else fault around Arity ++ all_part_faults around arguments
use_faults around (Wrong kind) arguments = fault around kind ++ all_part_faults around arguments
use_faults around Free arguments = all_part_faults around arguments

-- functions whose parameters are all scalars may be called by those behind them
abbrev pub function_use : Option Function → Use
function_use (Some function) =
    if list_all is_scalar (kinds_of function) then Takes (numbers (length function.params)) else Wrong Mismatch
function_use None = Wrong Mismatch

-- what a name takes in an expression: the arguments of a call, or the place of an element
abbrev pub applied_use : Around → (count : ℕ) → (first : Option ℕ) → Known → Use
applied_use around count first (Variable (Scalar ty)) = Wrong Mismatch
applied_use around count first (Variable (Index dimension)) = Wrong Mismatch
applied_use around count first (Variable (Proxy dimension ty)) = Takes (numbers dimension)
applied_use around count first (Variable (Region dimension ty)) = Takes (numbers dimension)
applied_use around count first (FunctionName number) =
    if nat_lt number around.number then function_use (slice_get around.functions number) else Wrong Mismatch
applied_use around count first (InstanceName made) =
    elim (slice_get around.functions made.function) [ Some function ↦ value_use made count first function | None ↦ Free ]
applied_use around count first Broken = Free

-- what a name takes as a call statement
abbrev pub called_use : Around → (count : ℕ) → (first : Option ℕ) → Known → Use
called_use around count first (InstanceName made) =
    elim (slice_get around.functions made.function) [ Some function ↦ statement_use made count first function | None ↦ Free ]
called_use around count first Broken = Free
called_use around count first known = Wrong Mismatch

-- what a name takes as the target of an element write
abbrev pub poked_use : Known → Use
poked_use (Variable (Proxy dimension ty)) = Takes (numbers dimension)
poked_use known = Wrong Mismatch

-- what a name takes in a setting
abbrev pub set_use : Around → Setting → Known → Use
set_use around setting (InstanceName made) =
    elim (slice_get around.functions made.function) [ Some function ↦ setting_use made function setting | None ↦ Free ]
set_use around setting Broken = Free
set_use around setting known = Wrong Mismatch

-- a name that is not in scope is unknown, whatever its arguments are
abbrev pub use_of : Option Known → (Known → Use) → Use
use_of (Some known) how = how known
use_of None how = Wrong Unknown

-- An expression with a faulty part has no type and causes no further fault.
abbrev pub applied_faults : Around → Option Known → List Judged → List Fault
applied_faults around None arguments = use_faults around (Wrong Unknown) arguments
applied_faults around (Some known) arguments = elim (all_part_faults around arguments) [
  | [] ↦ use_faults around (applied_use around (length arguments) (first_dimension arguments) known) arguments
  | fault ∷ faults ↦ fault ∷ faults
]

abbrev pub Judging : Type 0
Judging = Around → Knowns → Judged

-- what is said of several expressions
abbrev pub all_judged : Around → Knowns → List Judging → List Judged
all_judged around names parts = map (λ part. part around names) parts

-- What is said of an expression, its parts being replaced by what is said of them.
abbrev pub judging_step : Expr-F Judging → Judging
judging_step (Literal ty number) around names = value_judged []
judging_step (Name name) around names =
    record { is_name = true; known = bound_to name names; faults = scalar_faults around (bound_to name names) }
judging_step (Field name field) around names = value_judged (field_faults around names name field)
judging_step (Method name method) around names = value_judged (method_faults around names name method)
judging_step (Unary op part) around names = value_judged (part around names).faults
judging_step (Cast ty part) around names = value_judged (part around names).faults
judging_step (Binary op left right) around names = value_judged ((left around names).faults ++ (right around names).faults)
judging_step (Both left right) around names = value_judged ((left around names).faults ++ (right around names).faults)
judging_step (Either left right) around names = value_judged ((left around names).faults ++ (right around names).faults)
judging_step (Choose test one other) around names =
    value_judged ((test around names).faults ++ (one around names).faults ++ (other around names).faults)
judging_step (Apply name arguments) around names =
    value_judged (applied_faults around (bound_to name names) (all_judged around names arguments))

-- what is said of an expression
abbrev pub judged_of : Expr → Judging
judged_of = fold-Expr Judging judging_step

-- the faults of an expression as a value
abbrev pub value_faults : Around → Knowns → Expr → List Fault
value_faults around names expr = (judged_of expr around names).faults

-- what is said of arguments
abbrev pub judged_all : Around → Knowns → List Expr → List Judged
judged_all around names exprs = all_judged around names (map judged_of exprs)
