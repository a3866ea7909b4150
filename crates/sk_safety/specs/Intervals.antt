-- Bounds of the values of expressions, by cases on the expression.
use Rattle.std.specs.Prelude.{ℕ, ◌-◌, ◌^◌, Bool, ◌&&◌, ◌||◌, if◌then◌else◌, List, [], ◌∷◌, flat_map, ℤ, pos, negsuc, ◌+ℤ◌, ◌-ℤ◌, ◌*ℤ◌, neg_ℤ, int_le, int_div, nat_abs, nat_lt}
use Rattle.sk_base.specs.declared.number.Op.{Op}
use Rattle.sk_base.specs.declared.number.Op.TheVariants as op
use Rattle.sk_base.specs.declared.number.Ty.{Ty}
use Rattle.sk_base.specs.declared.number.Ty.TheVariants.{Int, Long}
use Rattle.sk_meaning.specs.Expressions.{wider, operation_type, result_type, prefix_type}
use Rattle.sk_tree.specs.declared.tree.Un.{Un}
use Rattle.sk_tree.specs.declared.tree.Un.TheVariants as prefix
use Rattle.sk_tree.specs.declared.tree.Expr.{Expr, Expr-F, roll-Expr, map-Expr, fold-Expr}
use Rattle.sk_tree.specs.declared.tree.Expr.TheOpen.{Number, Name, Field, Method, Unary, Cast, Binary, Both, Either, Choose, Apply}

-- the numbers from `low` to `high`, both among them
pub record Interval : Type 0 where
  pub low : ℤ
  pub high : ℤ

abbrev pub least_of : Ty → ℤ
least_of Int = negsuc (2 ^ 31 - 1)
least_of Long = negsuc (2 ^ 63 - 1)

abbrev pub greatest_of : Ty → ℤ
greatest_of Int = pos (2 ^ 31 - 1)
greatest_of Long = pos (2 ^ 63 - 1)

-- a type's whole range
abbrev pub full : Ty → Interval
full ty = record { low = least_of ty; high = greatest_of ty }

abbrev pub only : ℤ → Interval
only number = record { low = number; high = number }

abbrev pub has : Interval → ℤ → Bool
has interval number = int_le interval.low number && int_le number interval.high

-- the interval where it fits the type, and else the type's whole range
abbrev pub fitted : Ty → Interval → Interval
fitted ty interval = if has (full ty) interval.low && has (full ty) interval.high then interval else full ty

abbrev pub lesser : ℤ → ℤ → ℤ
lesser a b = if int_le a b then a else b

abbrev pub greater : ℤ → ℤ → ℤ
greater a b = if int_le a b then b else a

-- the least interval that has both
abbrev pub hull : Interval → Interval → Interval
hull a b = record { low = lesser a.low b.low; high = greater a.high b.high }

-- the hull of what an operation gives for the four pairs of ends
abbrev pub corners : (ℤ → ℤ → ℤ) → Interval → Interval → Interval
corners operation a b =
    hull (hull (only (operation a.low b.low)) (only (operation a.low b.high)))
    (hull (only (operation a.high b.low)) (only (operation a.high b.high)))

-- 0 or 1
abbrev pub truth : Interval
truth = record { low = pos 0; high = pos 1 }

-- from 0 to the greatest number of cells
abbrev pub field_interval : Interval
field_interval = record { low = pos 0; high = pos 16777216 }

-- A quotient: the quotients of the ends; the whole range where the divisor may be 0, and where the least number may be
-- divided by -1.
abbrev pub quotient : Ty → Interval → Interval → Interval
quotient ty a b =
    if has b (pos 0) || (has a (least_of ty) && has b (negsuc 0)) then full ty else corners int_div a b

-- the greatest absolute value
abbrev pub magnitude : Interval → ℕ
magnitude b = if nat_lt (nat_abs b.low) (nat_abs b.high) then nat_abs b.high else nat_abs b.low

-- A remainder is smaller than the divisor, and has the dividend's sign; the whole range where the divisor may be 0.
abbrev pub remainder : Ty → Interval → Interval → Interval
remainder ty a b =
    if has b (pos 0) then full ty
    else record {
      low = if int_le (pos 0) a.low then pos 0 else neg_ℤ (pos (magnitude b - 1));
      high = if int_le a.high (pos 0) then pos 0 else pos (magnitude b - 1);
    }

-- from 0 to the lesser of the greatest numbers of those sides that are never negative; the whole range where there is none
abbrev pub conjunction : Ty → Interval → Interval → Interval
conjunction ty a b =
    if int_le (pos 0) a.low then record { low = pos 0; high = if int_le (pos 0) b.low then lesser a.high b.high else a.high }
    else if int_le (pos 0) b.low then record { low = pos 0; high = b.high }
    else full ty

-- an operator at a type
abbrev pub operation_interval : Op → Ty → Interval → Interval → Interval
operation_interval op.Add ty a b = fitted ty (record { low = a.low +ℤ b.low; high = a.high +ℤ b.high })
operation_interval op.Sub ty a b = fitted ty (record { low = a.low -ℤ b.high; high = a.high -ℤ b.low })
operation_interval op.Mul ty a b = fitted ty (corners (λ x y. x *ℤ y) a b)
operation_interval op.Div ty a b = quotient ty a b
operation_interval op.Rem ty a b = remainder ty a b
operation_interval op.And ty a b = conjunction ty a b
operation_interval op.Or ty a b = full ty
operation_interval op.Xor ty a b = full ty
operation_interval op.Shl ty a b = full ty
operation_interval op.Shr ty a b = full ty
operation_interval op.Lt ty a b = truth
operation_interval op.Le ty a b = truth
operation_interval op.Gt ty a b = truth
operation_interval op.Ge ty a b = truth
operation_interval op.Eq ty a b = truth
operation_interval op.Ne ty a b = truth

abbrev pub prefix_interval : Un → Ty → Interval → Interval
prefix_interval prefix.Neg ty a = fitted ty (record { low = neg_ℤ a.high; high = neg_ℤ a.low })
prefix_interval prefix.Inv ty a = record { low = neg_ℤ a.high -ℤ pos 1; high = neg_ℤ a.low -ℤ pos 1 }
prefix_interval prefix.Not ty a = truth

-- an expression's type and bounds
pub record Bounded : Type 0 where
  pub ty : Ty
  pub interval : Interval

-- of a type nothing more is known
abbrev pub unbounded : Ty → Bounded
unbounded ty = record { ty = ty; interval = full ty }

-- what is known of names where an expression stands: scalars, and the types of calls and elements
pub record Bounds : Type 0 where
  pub scalar : List ℕ → Bounded
  pub applied : List ℕ → Ty

-- An expression's type and bounds, its parts being replaced by theirs.
abbrev pub bounding_step : Expr-F (Bounds → Bounded) → Bounds → Bounded
bounding_step (Number ty number) bounds = record { ty = ty; interval = only number }
bounding_step (Name name) bounds = bounds.scalar name
bounding_step (Field name field) bounds = record { ty = Int; interval = field_interval }
-- user functions have no methods
bounding_step (Method name method) bounds = unbounded Int
bounding_step (Unary op part) bounds =
    let a : Bounded = part bounds in
    record { ty = prefix_type op a.ty; interval = prefix_interval op (prefix_type op a.ty) a.interval }
bounding_step (Cast ty part) bounds = record { ty = ty; interval = fitted ty (part bounds).interval }
bounding_step (Binary op left right) bounds =
    let a : Bounded = left bounds in
    let b : Bounded = right bounds in
    record { ty = result_type op a.ty b.ty; interval = operation_interval op (operation_type op a.ty b.ty) a.interval b.interval }
bounding_step (Both left right) bounds = record { ty = Int; interval = truth }
bounding_step (Either left right) bounds = record { ty = Int; interval = truth }
bounding_step (Choose test one other) bounds =
    let a : Bounded = one bounds in
    let b : Bounded = other bounds in
    record { ty = wider a.ty b.ty; interval = hull a.interval b.interval }
bounding_step (Apply name arguments) bounds = unbounded (bounds.applied name)

-- an expression's type and bounds
abbrev pub bounded_of : Expr → Bounds → Bounded
bounded_of = fold-Expr (Bounds → Bounded) bounding_step

-- the parts of a node
abbrev pub parts_of : {X : Type 0} → Expr-F X → List X
parts_of (Unary op part) = part ∷ []
parts_of (Cast ty part) = part ∷ []
parts_of (Binary op left right) = left ∷ right ∷ []
parts_of (Both left right) = left ∷ right ∷ []
parts_of (Either left right) = left ∷ right ∷ []
parts_of (Choose test one other) = test ∷ one ∷ other ∷ []
parts_of (Apply name arguments) = arguments
parts_of node = []

-- an expression, with the list of it and all its parts, each as an expression
pub record Within : Type 0 where
  pub whole : Expr
  pub all : List Expr

abbrev pub within_step : Expr-F Within → Within
within_step node =
    let whole : Expr = roll-Expr (map-Expr Within Expr (λ part. part.whole) node) in
    record { whole = whole; all = whole ∷ flat_map (λ (part : Within). part.all) (parts_of node) }

-- an expression and all its parts
abbrev pub subexpressions_of : Expr → List Expr
subexpressions_of expr = (fold-Expr Within within_step expr).all
