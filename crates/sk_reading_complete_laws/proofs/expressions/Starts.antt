-- What an expression may begin with.
use Rattle.std.proofs.Common.{◌≡◌, ℕ, ◌≤◌, true, false, List, Some, None, refl, ap, arith}
use Rattle.sk_base.specs.declared.number.Ty.{Ty}
use Rattle.sk_base.specs.declared.number.Ty.TheVariants.{Int, Long}
use Rattle.sk_base.specs.declared.number.Op.{Op}
use Rattle.sk_base.specs.declared.number.Op.TheVariants as op
use Rattle.sk_grammar.specs.ExpressionSpelling.{Expression, Arguments, in_front, arguments_in_front, IsLawful, AreLawful, typed}
use Rattle.sk_grammar.specs.Signs.{infix_level, operator_level, prefix_of}
use Rattle.sk_grammar.specs.declared.infix.Infix.{Infix}
use Rattle.sk_grammar.specs.declared.infix.Infix.TheVariants.{Computes, Both, Either}
use Rattle.sk_refusals.specs.declared.refusal.Refusal.TheVariants.{Syntax}
use Rattle.sk_tokens.specs.declared.token.Sign.{Sign}
use Rattle.sk_tokens.specs.declared.token.Sign.TheVariants as sign
use Rattle.sk_tokens.specs.declared.token.Token.{Token}
use Rattle.sk_tree.specs.declared.tree.Expr.{Expr}
use Rattle.sk_tree.specs.declared.tree.Un.{Un}
use Rattle.sk_reading.specs.declared.next.Next.{Next}
use Rattle.sk_reading.specs.declared.next.Next.TheVariants as next
use Rattle.sk_reading.specs.declared.reach.Reach.{Reach}
use Rattle.sk_reading.specs.Reading.{Place, Parser, refuse, front_of, next_of, word_next, keyword_of, same_sign, is_sign}
use Rattle.sk_reading.specs.ReadingExpressions.{begins_expression, is_type, operand_by, prefixed}
use Rattle.sk_reading_complete_laws.proofs.Steps.{keyword-none}

prefix-starts : (s : Sign) (op : Un) → prefix_of s ≡ Some op → begins_expression (next.Sign s) ≡ true
prefix-starts sign.OpenParen op is = refl
prefix-starts sign.Minus op is = refl
prefix-starts sign.Tilde op is = refl
prefix-starts sign.Not op is = refl
prefix-starts other op is = absurd (cc)

name-starts : (w : List ℕ) → keyword_of w ≡ None → begins_expression (word_next (keyword_of w)) ≡ true
name-starts w free = ap (λ k. begins_expression (word_next k)) free

mutual
  pub starts : (s : Expression) (r : List Token) → IsLawful s → begins_expression (front_of (in_front s r)) ≡ true
  starts (Expression.Number line t v) r h = refl
  starts (Expression.Name line w) r h = name-starts w (keyword-none w h)
  starts (Expression.Field lines w v) r h = name-starts w (keyword-none w h.0)
  starts (Expression.Method lines w v) r h = name-starts w (keyword-none w h.0)
  starts (Expression.Alone lines w) r h = name-starts w (keyword-none w h)
  starts (Expression.Apply lines w arguments) r h = name-starts w (keyword-none w h.0)
  starts (Expression.Index lines w s) r h = name-starts w (keyword-none w h.0)
  starts (Expression.Paren lines s) r h = refl
  starts (Expression.Prefix line sg op s) r h = prefix-starts sg op h.0
  starts (Expression.Convert lines t s) r h = refl
  starts (Expression.Join line sg j a b) r h = starts a _ h.3
  starts (Expression.Choose lines a b c) r h = starts a _ h.1

  pub arguments_start : (s : Arguments) (r : List Token) → AreLawful s → begins_expression (front_of (arguments_in_front s r)) ≡ true
  arguments_start (Arguments.Last s) r h = starts s r h
  arguments_start (Arguments.More s line more) r h = starts s _ h.0

pub starts-not_close : (nx : Next) → begins_expression nx ≡ true → is_sign sign.CloseParen nx ≡ false
unfolding same_sign
starts-not_close (next.Sign sign.CloseParen) h = absurd (cc)
starts-not_close (next.Sign s) h = refl
starts-not_close other h = refl

pub starts-not_type : (nx : Next) → begins_expression nx ≡ true → is_type nx ≡ false
starts-not_type (next.Keyword k) h = absurd (cc)
starts-not_type other h = refl

pub typed-is_type : (t : Ty) (line : ℕ) → is_type (next_of (typed t line)) ≡ true
unfolding keyword_of
typed-is_type Int line = refl
typed-is_type Long line = refl

pub prefix-by : (left : ℕ) (inner : Reach → Parser Expr) (s : Sign) (op : Un) → prefix_of s ≡ Some op
    → (p : Place) → operand_by left inner (next.Sign s) p ≡ prefixed left inner op p
prefix-by left inner sign.OpenParen op is p = absurd (cc)
prefix-by left inner sign.Minus op is p = ap (λ o. elim o [ Some u ↦ prefixed left inner u p | None ↦ refuse Syntax p ]) is
prefix-by left inner sign.Tilde op is p = ap (λ o. elim o [ Some u ↦ prefixed left inner u p | None ↦ refuse Syntax p ]) is
prefix-by left inner sign.Not op is p = ap (λ o. elim o [ Some u ↦ prefixed left inner u p | None ↦ refuse Syntax p ]) is
prefix-by left inner other op is p = absurd (cc)

operator-level : (o : Op) → (1 ≤ operator_level o) × (operator_level o ≤ 10)
operator-level op.Add = (omega arith, omega arith)
operator-level op.Sub = (omega arith, omega arith)
operator-level op.Mul = (omega arith, omega arith)
operator-level op.Div = (omega arith, omega arith)
operator-level op.Rem = (omega arith, omega arith)
operator-level op.Shl = (omega arith, omega arith)
operator-level op.Shr = (omega arith, omega arith)
operator-level op.And = (omega arith, omega arith)
operator-level op.Or = (omega arith, omega arith)
operator-level op.Xor = (omega arith, omega arith)
operator-level op.Lt = (omega arith, omega arith)
operator-level op.Le = (omega arith, omega arith)
operator-level op.Gt = (omega arith, omega arith)
operator-level op.Ge = (omega arith, omega arith)
operator-level op.Eq = (omega arith, omega arith)
operator-level op.Ne = (omega arith, omega arith)

pub level-least : (j : Infix) → 1 ≤ infix_level j
level-least Either = omega arith
level-least Both = omega arith
level-least (Computes operator) = (operator-level operator).0

pub level-most : (j : Infix) → infix_level j ≤ 10
level-most Either = omega arith
level-most Both = omega arith
level-most (Computes operator) = (operator-level operator).1
