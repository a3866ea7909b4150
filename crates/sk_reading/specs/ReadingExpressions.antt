-- What the parser reads as expressions.
use Rattle.std.specs.Prelude.{ℕ, zero, suc, ◌+◌, Bool, true, false, if◌then◌else◌, ◌==◌, List, [], ◌∷◌, ◌++◌, length, Option, Some, None}
use Rattle.sk_grammar.specs.ExpressionSpelling.{joined}
use Rattle.sk_grammar.specs.declared.infix.Infix.{Infix}
use Rattle.sk_grammar.specs.Signs.{infix_of, infix_level, prefix_of}
use Rattle.sk_refusals.specs.declared.refusal.Refusal.TheVariants.{Syntax, Deep}
use Rattle.sk_tokens.specs.declared.token.Sign.TheVariants as sign
use Rattle.sk_tree.specs.declared.tree.Expr.{Expr}
use Rattle.sk_tree.specs.declared.tree.Expr.TheVariants as tree
use Rattle.sk_tree.specs.declared.tree.Un.{Un}
use Rattle.sk_reading.specs.declared.next.Next.{Next}
use Rattle.sk_reading.specs.declared.next.Next.TheVariants as next
use Rattle.sk_reading.specs.declared.reach.Reach.{Reach}
use Rattle.sk_reading.specs.declared.reach.Reach.TheVariants.{Whole, Sum, Operand}
use Rattle.sk_reading.specs.declared.keyword.Keyword.TheVariants as key
use Rattle.sk_reading.specs.Reading.{Place, Parser, Read, ◌>>=◌, ◌>>◌, pure, refuse, peek, take, front, advance, sees, eat, expect, name, number, ty, fresh, count_node, opened}

-- the operator that the token is, if it stands that many levels above `* / %`
abbrev pub at_reach : ℕ → Option Infix → Option Infix
at_reach reach None = None
at_reach reach (Some operator) = if infix_level operator + reach == 10 then Some operator else None

abbrev pub infix_at : ℕ → Next → Option Infix
infix_at reach (next.Sign s) = at_reach reach (infix_of s)
infix_at reach other = None

-- after an opening parenthesis: a conversion begins
abbrev pub is_type : Next → Bool
is_type (next.Keyword key.Int) = true
is_type (next.Keyword key.Long) = true
is_type other = false

unfoldable pub begins_conversion : Place → Bool
begins_conversion p = is_type (front (advance p))

-- an expression may begin with it
abbrev pub begins_expression : Next → Bool
begins_expression next.Number = true
begins_expression next.Name = true
begins_expression (next.Sign sign.OpenParen) = true
begins_expression (next.Sign sign.Minus) = true
begins_expression (next.Sign sign.Tilde) = true
begins_expression (next.Sign sign.Not) = true
begins_expression other = false

-- an expression, which has to come next, opens one more
unfoldable pub opened_by_expression : ℕ → Parser (Unit {0})
opened_by_expression left = λ p. if begins_expression (front p) then opened left p else refuse Syntax p

-- An argument, or more, with commas between; each may be an expression of its own. A turn takes a token at least: so in this
-- loop and in those like it nothing is left where the turns are out, and what should follow is lacking.
unfoldable pub arguments_from : Parser Expr → (turns : ℕ) → List Expr → Parser (List Expr)
arguments_from item zero found = refuse Syntax
arguments_from item (suc turns) found = do
  argument ← item
  more ← eat sign.Comma
  if more then arguments_from item turns (found ++ argument ∷ []) else pure (found ++ argument ∷ [])

abbrev pub own : Bool → Parser Expr → Parser Expr
own true item = fresh >> item
own false item = item

unfoldable pub arguments : Bool → Parser Expr → Parser (List Expr)
arguments are_own item = λ p. arguments_from (own are_own item) (length p.rest) [] p

-- What stands inside is read by `inner`, where one more is open.
module _ (left : ℕ) (inner : Reach → Parser Expr) where
  unfoldable pub conversion : Parser Expr
  conversion = do
    opened left
    count_node
    expect sign.OpenParen
    to ← ty
    expect sign.CloseParen
    operand ← inner Operand
    pure (tree.Cast to operand)

  unfoldable pub parenthesized : Parser Expr
  parenthesized = do
    opened left
    take
    whole ← inner Whole
    expect sign.CloseParen
    pure whole

  unfoldable pub prefixed : Un → Parser Expr
  prefixed op = do
    opened left
    count_node
    take
    operand ← inner Operand
    pure (tree.Unary op operand)

  unfoldable pub called : List ℕ → Parser Expr
  called function = do
    opened left
    take
    is_empty ← eat sign.CloseParen
    if is_empty then pure (tree.Apply function []) else (do
      found ← arguments false (inner Whole)
      expect sign.CloseParen
      pure (tree.Apply function found))

  unfoldable pub indexed : List ℕ → Parser Expr
  indexed container = do
    opened left
    take
    place ← inner Whole
    expect sign.CloseBracket
    pure (tree.Apply container (place ∷ []))

  unfoldable pub member : List ℕ → Parser Expr
  member whole = do
    take
    part ← name
    is_method ← (λ p. Read (sees sign.OpenParen p, p))
    if is_method then (do
      opened left
      take
      expect sign.CloseParen
      pure (tree.Method whole part)) else pure (tree.Field whole part)

  abbrev pub named_by : List ℕ → Next → Parser Expr
  named_by first (next.Sign sign.OpenParen) = called first
  named_by first (next.Sign sign.OpenBracket) = indexed first
  named_by first (next.Sign sign.Dot) = member first
  named_by first other = pure (tree.Name first)

  unfoldable pub named : Parser Expr
  named = do
    count_node
    first ← name
    kind ← peek
    named_by first kind

  unfoldable pub literal : Parser Expr
  literal = do
    count_node
    value ← number
    pure (tree.Number value.0 value.1)

  unfoldable pub bracketed : Parser Expr
  bracketed = λ p. if begins_conversion p then conversion p else parenthesized p

  abbrev pub prefixed_by : Option Un → Parser Expr
  prefixed_by (Some op) = prefixed op
  prefixed_by None = refuse Syntax

  abbrev pub operand_by : Next → Parser Expr
  operand_by next.Number = literal
  operand_by next.Name = named
  operand_by (next.Sign sign.OpenParen) = bracketed
  operand_by (next.Sign s) = prefixed_by (prefix_of s)
  operand_by other = refuse Syntax

  unfoldable pub operand : Parser Expr
  operand = peek >>= operand_by

  -- the operators of one level, which group to the left
  unfoldable pub more : Parser Expr → (reach turns : ℕ) → Expr → Parser Expr
  more part reach zero first = pure first
  more part reach (suc turns) first = λ p. elim (infix_at reach (front p)) [
    | None ↦ Read (first, p)
    | Some operator ↦ (do
      count_node
      take
      second ← part
      more part reach turns (joined operator first second)) p
  ]

  -- the operators of that many levels from `* / %` on
  unfoldable pub operators : (reach : ℕ) → Parser Expr
  operators zero = operand
  operators (suc reach) = do
    first ← operators reach
    (λ p. more (operators reach) reach (length p.rest) first p)

  -- What follows the `:` of the latest test, and so on to the first one. A middle part is closed by the `:` behind it.
  unfoldable pub chosen : List Expr → Expr → Parser Expr
  chosen [] value = pure value
  chosen (test ∷ tests) value = do
    expect sign.Colon
    opened_by_expression left
    other ← inner Whole
    chosen tests (tree.Choose test value other)

  unfoldable pub choice_from : (turns : ℕ) → List Expr → Expr → Parser Expr
  choice_from zero tests value = refuse Syntax
  choice_from (suc turns) tests value = λ p. if sees sign.Question p then (do
    count_node
    take
    second ← operators 10
    choice_from turns (value ∷ tests) second) p else chosen tests value p

  unfoldable pub choice : Parser Expr
  choice = λ p. (operators 10 >>= choice_from (length p.rest) []) p

  abbrev pub reading : Reach → Parser Expr
  reading Whole = choice
  reading Sum = operators 2
  reading Operand = operand

-- an expression inside what is opened here
unfoldable pub below : (left : ℕ) → Reach → Parser Expr
below zero reach = refuse Deep
below (suc left) reach = reading left (below left) reach

-- an expression, where that many more may be opened
unfoldable pub expression : (left : ℕ) → Reach → Parser Expr
expression left reach = reading left (below left) reach
