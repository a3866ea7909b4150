-- Which functions are associative operators, by a comparison of their trees with a list.
use Rattle.std.specs.Prelude.{ℕ, Bool, true, false, ◌&&◌, if◌then◌else◌, List, [], ◌∷◌, Option, Some, None}
use Rattle.std.specs.Option.{option_map}
use Rattle.sk_base.specs.declared.number.Op.{Op}
use Rattle.sk_base.specs.declared.number.Op.TheVariants as op
use Rattle.sk_names.specs.Bytes.{same_bytes}
use Rattle.sk_tree.specs.Functions.{kinds_of}
use Rattle.sk_tree.specs.Skeletons.{is_operator}
use Rattle.sk_tree.specs.declared.operator.Operator.{Operator}
use Rattle.sk_tree.specs.declared.operator.OperatorKind.{OperatorKind}
use Rattle.sk_tree.specs.declared.operator.OperatorKind.TheVariants.{Add, Mul, And, Or, Xor, Min, Max, First, Last}
use Rattle.sk_tree.specs.declared.tree.Expr.{Expr, Expr-F, out-Expr}
use Rattle.sk_tree.specs.declared.tree.Expr.TheOpen.{Name, Binary, Choose}
use Rattle.sk_tree.specs.declared.tree.Function.{Function}
use Rattle.sk_tree.specs.declared.tree.Param.{Param}
use Rattle.sk_tree.specs.declared.tree.Statement.{Statement}
use Rattle.sk_tree.specs.declared.tree.What.{What}
use Rattle.sk_tree.specs.declared.tree.What.TheVariants.{Return}

-- which of two parameters an expression is
pub data Side : Type 0 where
  Left : Side
  Right : Side
  Neither : Side

abbrev pub side_of_node : (left right : List ℕ) → Expr-F Expr → Side
side_of_node left right (Name name) = if same_bytes name left then Left else if same_bytes name right then Right else Neither
side_of_node left right node = Neither

abbrev pub side_of : (left right : List ℕ) → Expr → Side
side_of left right expr = side_of_node left right (out-Expr expr)

-- one of them, and then the other
abbrev pub are_both : Side → Side → Bool
are_both Left Right = true
are_both Right Left = true
are_both one other = false

abbrev pub same_side : Side → Side → Bool
same_side Left Left = true
same_side Right Right = true
same_side one other = false

-- the operators that are listed with their operands in either order
abbrev pub commutative_of : Op → Option OperatorKind
commutative_of op.Add = Some Add
commutative_of op.Mul = Some Mul
commutative_of op.And = Some And
commutative_of op.Or = Some Or
commutative_of op.Xor = Some Xor
commutative_of operation = None

-- what a choice by a comparison gives, which chooses its first operand where the test holds
abbrev pub choice_of : Op → Option OperatorKind
choice_of op.Lt = Some Min
choice_of op.Gt = Some Max
choice_of operation = None

-- the operands of a comparison, where an expression is one
pub record Comparison : Type 0 where
  pub operation : Op
  pub one : Expr
  pub other : Expr

abbrev pub comparison_of : Expr-F Expr → Option Comparison
comparison_of (Binary operation one other) = Some (record { operation = operation; one = one; other = other })
comparison_of node = None

-- `a < b ? a : b` and `b < a ? b : a` are the lesser one, and with `>` the greater one
abbrev pub chosen_kind : (side : Expr → Side) → Option Comparison → (one other : Expr) → Option OperatorKind
chosen_kind side None one other = None
chosen_kind side (Some comparison) one other =
    if are_both (side comparison.one) (side comparison.other) && same_side (side comparison.one) (side one)
    && same_side (side comparison.other) (side other)
    then choice_of comparison.operation else None

abbrev pub side_kind : Side → Option OperatorKind
side_kind Left = Some First
side_kind Right = Some Last
side_kind Neither = None

-- the operator that an expression over two parameters is on the list
abbrev pub kind_of_node : (left right : List ℕ) → Expr-F Expr → Option OperatorKind
kind_of_node left right (Binary operation one other) =
    if are_both (side_of left right one) (side_of left right other) then commutative_of operation else None
kind_of_node left right (Choose test one other) =
    chosen_kind (side_of left right) (comparison_of (out-Expr test)) one other
kind_of_node left right node = side_kind (side_of_node left right node)

-- a body that is one `return`
abbrev pub returned_by : What → Option Expr
returned_by (Return expr) = Some expr
returned_by what = None

abbrev pub only_return : List Statement → Option Expr
only_return (statement ∷ []) = returned_by statement.what
only_return statements = None

abbrev pub kind_in : List Param → Option Expr → Option OperatorKind
kind_in (left ∷ right ∷ []) (Some expr) = kind_of_node left.name right.name (out-Expr expr)
kind_in params expr = None

-- A function is listed where its parameters are two scalars of its return type, and its body is one `return` of an
-- expression of the list.
abbrev pub listed_of : Function → Option Operator
listed_of function =
    if is_operator function.ret (kinds_of function)
    then option_map (λ kind. record { kind = kind; ty = function.ret }) (kind_in function.params (only_return function.body))
    else None
