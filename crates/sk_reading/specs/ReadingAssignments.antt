-- What the parser reads as values, targets, assignments and declarations.
use Rattle.std.specs.Prelude.{ℕ, true, List, [], ◌∷◌, Option, Some, None}
use Rattle.sk_base.specs.declared.number.Op.{Op}
use Rattle.sk_base.specs.declared.number.Op.TheVariants as op
use Rattle.sk_grammar.specs.Signs.{step_of}
use Rattle.sk_grammar.specs.StatementSpelling.{one}
use Rattle.sk_refusals.specs.declared.refusal.Refusal.TheVariants.{Syntax}
use Rattle.sk_tokens.specs.declared.token.Sign.{Sign}
use Rattle.sk_tokens.specs.declared.token.Sign.TheVariants as sign
use Rattle.sk_tree.specs.declared.tree.Expr.{Expr}
use Rattle.sk_tree.specs.declared.tree.Expr.TheVariants as tree
use Rattle.sk_tree.specs.declared.tree.What.{What}
use Rattle.sk_tree.specs.declared.tree.What.TheVariants as what
use Rattle.sk_reading.specs.declared.next.Next.{Next}
use Rattle.sk_reading.specs.declared.next.Next.TheVariants as next
use Rattle.sk_reading.specs.declared.reach.Reach.{Reach}
use Rattle.sk_reading.specs.declared.reach.Reach.TheVariants.{Whole}
use Rattle.sk_reading.specs.declared.keyword.Keyword.TheVariants as key
use Rattle.sk_reading.specs.declared.update.Update.{Update}
use Rattle.sk_reading.specs.declared.update.Update.TheVariants.{Value, Joined, Step}
use Rattle.sk_reading.specs.declared.target.Target.{Target}
use Rattle.sk_reading.specs.declared.target.Target.TheVariants.{Variable, Element, Bracketed}
use Rattle.sk_reading.specs.Reading.{Parser, ◌>>=◌, ◌>>◌, pure, refuse, peek, take, front, expect, name, ty, fresh, opened}
use Rattle.sk_reading.specs.ReadingExpressions.{expression, below, arguments}

-- an expression that is part of no other; one inside what is opened; and several
unfoldable pub value : (left : ℕ) → Reach → Parser Expr
value left reach = fresh >> expression left reach

unfoldable pub value_inside : (left : ℕ) → Parser Expr
value_inside left = fresh >> below left Whole

unfoldable pub places : (left : ℕ) → Parser (List Expr)
places left = arguments true (below left Whole)

-- ---- assignments

abbrev pub old_value : Target → Expr
old_value (Variable name) = tree.Name name
old_value (Element name found) = tree.Apply name found
old_value (Bracketed name place) = tree.Apply name (place ∷ [])

abbrev pub assigned : Target → Expr → What
assigned (Variable name) value = what.Assign name value
assigned (Element name found) value = what.Poke name found value
assigned (Bracketed name place) value = what.Poke name (place ∷ []) value

-- what a sign behind a target does: assigns a value, joins one to the old value, or makes a step
abbrev pub update_of : Sign → Option Update
update_of sign.Eq = Some Value
update_of sign.PlusEq = Some (Joined op.Add)
update_of sign.MinusEq = Some (Joined op.Sub)
update_of sign.StarEq = Some (Joined op.Mul)
update_of sign.SlashEq = Some (Joined op.Div)
update_of sign.PercentEq = Some (Joined op.Rem)
update_of sign.AndEq = Some (Joined op.And)
update_of sign.OrEq = Some (Joined op.Or)
update_of sign.CaretEq = Some (Joined op.Xor)
update_of sign.ShlEq = Some (Joined op.Shl)
update_of sign.ShrEq = Some (Joined op.Shr)
update_of sign.PlusPlus = Some (Step op.Add)
update_of sign.MinusMinus = Some (Step op.Sub)
update_of other = None

abbrev pub update_next : Next → Option Update
update_next (next.Sign s) = update_of s
update_next other = None

module _ (left : ℕ) where
  unfoldable pub element : List ℕ → Parser Target
  element first = do
    opened left
    take
    found ← places left
    expect sign.CloseParen
    pure (Element first found)

  unfoldable pub bracketed : List ℕ → Parser Target
  bracketed first = do
    opened left
    take
    place ← value_inside left
    expect sign.CloseBracket
    pure (Bracketed first place)

  abbrev pub target_by : List ℕ → Next → Parser Target
  target_by first (next.Sign sign.OpenParen) = element first
  target_by first (next.Sign sign.OpenBracket) = bracketed first
  target_by first other = pure (Variable first)

  unfoldable pub target : Parser Target
  target = do
    first ← name
    kind ← peek
    target_by first kind

  unfoldable pub joined_value : Target → Op → Parser What
  joined_value to with_op = (value left Whole) >>= (λ more. pure (assigned to (tree.Binary with_op (old_value to) more)))

  abbrev pub stepped : Target → Op → What
  stepped to with_op = assigned to (tree.Binary with_op (old_value to) one)

  abbrev pub update_by : Target → Option Update → Parser What
  update_by to (Some Value) = take >> ((value left Whole) >>= (λ new. pure (assigned to new)))
  update_by to (Some (Joined with_op)) = take >> joined_value to with_op
  update_by to (Some (Step with_op)) = take >> pure (stepped to with_op)
  update_by to None = refuse Syntax

  unfoldable pub update : Target → Parser What
  update to = λ p. update_by to (update_next (front p)) p

  -- `++` or `--`, and the target
  abbrev pub step_by : Option Op → Parser What
  step_by (Some with_op) = take >> (target >>= (λ to. pure (stepped to with_op)))
  step_by None = refuse Syntax

  abbrev pub assignment_by : Next → Parser What
  assignment_by next.Name = target >>= update
  assignment_by (next.Sign s) = step_by (step_of s)
  assignment_by other = refuse Syntax

  unfoldable pub assignment : Parser What
  assignment = peek >>= assignment_by

  unfoldable pub declaration : Parser What
  declaration = do
    of ← ty
    declared ← name
    expect sign.Eq
    first ← value left Whole
    pure (what.Declare of declared first)

  abbrev pub simple_by : Next → Parser What
  simple_by (next.Keyword key.Int) = declaration
  simple_by (next.Keyword key.Long) = declaration
  simple_by other = assignment

  -- what a `for` may begin with
  unfoldable pub simple : Parser What
  simple = peek >>= simple_by
