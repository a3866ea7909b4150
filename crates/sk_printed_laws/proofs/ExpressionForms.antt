-- What each expression is printed as, in terms of its parts.
use Rattle.std.proofs.Common.{◌≡◌, ℕ, ℤ, List, map}
use Rattle.sk_base.specs.declared.number.Op.{Op}
use Rattle.sk_base.specs.declared.number.Ty.{Ty}
use Rattle.sk_tree.specs.declared.tree.Un.{Un}
use Rattle.sk_tree.specs.declared.tree.Expr.{Expr, Expr-F, roll-Expr, map-Expr, fold-roll-Expr}
use Rattle.sk_tree.specs.declared.tree.Expr.TheVariants as expression
use Rattle.sk_tree.specs.declared.tree.Expr.TheOpen as layer
use Rattle.sk_printed.specs.ExpressionText.{Shown, shown_of, shown_step}

-- of one level, its parts are replaced by what they are printed as
shown-roll : (level : Expr-F Expr) → shown_of (roll-Expr level) ≡ shown_step (map-Expr Expr Shown shown_of level)
shown-roll level = fold-roll-Expr Shown shown_step level

pub shown-Number : (ty : Ty) (number : ℤ) → shown_of (expression.Number ty number) ≡ shown_step (layer.Number ty number)
shown-Number ty number = rw (← expression.rolls-Number ty number) (shown-roll (layer.Number ty number))

pub shown-Name : (name : List ℕ) → shown_of (expression.Name name) ≡ shown_step (layer.Name name)
shown-Name name = rw (← expression.rolls-Name name) (shown-roll (layer.Name name))

pub shown-Field : (name field : List ℕ) → shown_of (expression.Field name field) ≡ shown_step (layer.Field name field)
shown-Field name field = rw (← expression.rolls-Field name field) (shown-roll (layer.Field name field))

pub shown-Method : (name method : List ℕ) → shown_of (expression.Method name method) ≡ shown_step (layer.Method name method)
shown-Method name method = rw (← expression.rolls-Method name method) (shown-roll (layer.Method name method))

pub shown-Unary : (op : Un) (part : Expr) → shown_of (expression.Unary op part) ≡ shown_step (layer.Unary op (shown_of part))
shown-Unary op part = rw (← expression.rolls-Unary op part) (shown-roll (layer.Unary op part))

pub shown-Cast : (ty : Ty) (part : Expr) → shown_of (expression.Cast ty part) ≡ shown_step (layer.Cast ty (shown_of part))
shown-Cast ty part = rw (← expression.rolls-Cast ty part) (shown-roll (layer.Cast ty part))

pub shown-Binary : (op : Op) (left right : Expr) → shown_of (expression.Binary op left right) ≡ shown_step (layer.Binary op (shown_of left) (shown_of right))
shown-Binary op left right = rw (← expression.rolls-Binary op left right) (shown-roll (layer.Binary op left right))

pub shown-Both : (left right : Expr) → shown_of (expression.Both left right) ≡ shown_step (layer.Both (shown_of left) (shown_of right))
shown-Both left right = rw (← expression.rolls-Both left right) (shown-roll (layer.Both left right))

pub shown-Either : (left right : Expr) → shown_of (expression.Either left right) ≡ shown_step (layer.Either (shown_of left) (shown_of right))
shown-Either left right = rw (← expression.rolls-Either left right) (shown-roll (layer.Either left right))

pub shown-Choose : (test one other : Expr) → shown_of (expression.Choose test one other) ≡ shown_step (layer.Choose (shown_of test) (shown_of one) (shown_of other))
shown-Choose test one other = rw (← expression.rolls-Choose test one other) (shown-roll (layer.Choose test one other))

pub shown-Apply : (name : List ℕ) (arguments : List Expr) → shown_of (expression.Apply name arguments) ≡ shown_step (layer.Apply name (map shown_of arguments))
shown-Apply name arguments = rw (← expression.rolls-Apply name arguments) (shown-roll (layer.Apply name arguments))
