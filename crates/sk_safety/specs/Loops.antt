-- Literal loops: those whose number of turns can be read off the tree.
use Rattle.std.specs.Prelude.{ℕ, suc, Bool, true, false, not, ◌&&◌, if◌then◌else◌, List, ℤ, pos, ◌-ℤ◌, neg_ℤ, int_lt, int_le, nat_abs, Option, Some, None}
use Rattle.std.specs.List.{list_any}
use Rattle.std.specs.Option.{option_map, option_and_then}
use Rattle.sk_base.specs.declared.number.Op.TheVariants.{Add, Lt, Le}
use Rattle.sk_base.specs.declared.number.Ty.{Ty}
use Rattle.sk_base.specs.declared.number.Ty.TheVariants.{Int}
use Rattle.sk_names.specs.Bytes.{same_bytes}
use Rattle.sk_tree.specs.declared.tree.Expr.{Expr, Expr-F, out-Expr}
use Rattle.sk_tree.specs.declared.tree.Expr.TheOpen.{Number, Name, Unary, Binary}
use Rattle.sk_tree.specs.declared.tree.Un.TheVariants.{Neg}
use Rattle.sk_tree.specs.declared.tree.What.TheOpen.{What-F, Declare, Assign}
use Rattle.sk_safety.specs.Intervals.{Interval, full, greatest_of, has, only}

-- a number, whatever its type is
abbrev pub number_of : Expr-F Expr → Option ℤ
number_of (Number ty number) = Some number
number_of node = None

-- a number or the negative of one
abbrev pub signed_number_of : Expr-F Expr → Option ℤ
signed_number_of (Unary Neg part) = option_map neg_ℤ (number_of (out-Expr part))
signed_number_of node = number_of node

-- such a number in int's range
abbrev pub literal_of : Expr → Option ℤ
literal_of expr =
    option_and_then (λ number. if has (full Int) number then Some number else None) (signed_number_of (out-Expr expr))

abbrev pub is_named : List ℕ → Expr-F Expr → Bool
is_named name (Name other) = same_bytes other name
is_named name node = false

-- the number 1 of type int
abbrev pub is_one : Expr-F Expr → Bool
is_one (Number Int number) = has (only (pos 1)) number
is_one node = false

-- `name + 1`
abbrev pub adds_one : List ℕ → Expr-F Expr → Bool
adds_one name (Binary Add left right) = is_named name (out-Expr left) && is_one (out-Expr right)
adds_one name node = false

-- the declaration of a scalar as a literal number
pub record Start : Type 0 where
  pub name : List ℕ
  pub ty : Ty
  pub from : ℤ

-- what a loop may start with
abbrev pub loop_start : {W S : Type 0} → What-F W S → Option Start
loop_start (Declare ty name expr) = option_map (λ from. record { name = name; ty = ty; from = from }) (literal_of expr)
loop_start what = None

-- the scalar that a statement makes greater by one
abbrev pub loop_step : {W S : Type 0} → What-F W S → Option (List ℕ)
loop_step (Assign name expr) = if adds_one name (out-Expr expr) then Some name else None
loop_step what = None

-- how far a literal test goes: to a number, which is among those that it holds for or not
pub record Limit : Type 0 where
  pub inclusive : Bool
  pub to : ℤ

-- `name < to`, or `name <= to` where `to` is below int's greatest number
abbrev pub limit_of : List ℕ → Expr-F Expr → Option Limit
limit_of name (Binary Lt left right) =
    if is_named name (out-Expr left) then option_map (λ to. record { inclusive = false; to = to }) (literal_of right) else None
limit_of name (Binary Le left right) =
    if is_named name (out-Expr left) then
    option_and_then (λ to. if int_lt to (greatest_of Int) then Some (record { inclusive = true; to = to }) else None) (literal_of right)
    else None
limit_of name node = None

-- a literal loop: its scalar, the numbers that the scalar has in the body, and the number of turns
pub record Loop : Type 0 where
  pub name : List ℕ
  pub ty : Ty
  pub interval : Interval
  pub turns : ℕ

-- how many numbers there are from `from` on that keep a limit
abbrev pub turns_to : Limit → (from : ℤ) → ℕ
turns_to limit from =
    if limit.inclusive then (if int_le from limit.to then suc (nat_abs (limit.to -ℤ from)) else 0)
    else if int_lt from limit.to then nat_abs (limit.to -ℤ from) else 0

-- from the first number to the last one, and the first one alone where there is no turn
abbrev pub numbers_to : Limit → (from : ℤ) → Interval
numbers_to limit from =
    if (if limit.inclusive then int_le from limit.to else int_lt from limit.to)
    then record { low = from; high = if limit.inclusive then limit.to else limit.to -ℤ pos 1 }
    else only from

abbrev pub loop_to : Start → Limit → Loop
loop_to start limit =
    record { name = start.name; ty = start.ty; interval = numbers_to limit start.from; turns = turns_to limit start.from }

-- the literal loop with a start, a test, a step, and a body that assigns these names, where it is one
abbrev pub loop_of : Option Start → Expr → Option (List ℕ) → (assigned : List (List ℕ)) → Option Loop
loop_of None test step assigned = None
loop_of (Some start) test None assigned = None
loop_of (Some start) test (Some stepped) assigned =
    if same_bytes stepped start.name && not (list_any (λ name. same_bytes name start.name) assigned)
    then option_map (loop_to start) (limit_of start.name (out-Expr test)) else None
