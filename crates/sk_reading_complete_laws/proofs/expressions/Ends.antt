-- What may follow an expression.
use Rattle.std.proofs.Common.{◌≡◌, ℕ, suc, ◌+◌, ◌<◌, ◌≤◌, true, false, ◌==◌, List, Option, Some, None, option_map, refl, ap, arith}
use Rattle.sk_grammar.specs.Signs.{infix_of, infix_level}
use Rattle.sk_grammar.specs.declared.infix.Infix.{Infix}
use Rattle.sk_tokens.specs.declared.token.Sign.{Sign}
use Rattle.sk_tokens.specs.declared.token.Sign.TheVariants as sign
use Rattle.sk_tokens.specs.declared.token.Token.{Token}
use Rattle.sk_tree.specs.declared.tree.Expr.{Expr}
use Rattle.sk_tree.specs.declared.tree.Expr.TheVariants as tree
use Rattle.sk_reading.specs.declared.next.Next.{Next}
use Rattle.sk_reading.specs.declared.next.Next.TheVariants as next
use Rattle.sk_reading.specs.declared.reach.Reach.{Reach}
use Rattle.sk_reading.specs.Reading.{Place, Read, Parser, front_of, same_sign, is_sign}
use Rattle.sk_reading.specs.ReadingExpressions.{at_reach, infix_at, named_by}

-- the level at which a sign goes on with an expression before it
abbrev pub continues : Next → Option ℕ
continues (next.Sign sign.OpenParen) = Some 12
continues (next.Sign sign.OpenBracket) = Some 12
continues (next.Sign sign.Dot) = Some 12
continues (next.Sign sign.Question) = Some 0
continues (next.Sign s) = option_map infix_level (infix_of s)
continues other = None

abbrev pub EndsBefore : ℕ → Option ℕ → Type 0
EndsBefore reach None = Unit {0}
EndsBefore reach (Some level) = level + reach < 11

-- what follows does not go on with an expression of that reach
abbrev pub Ends : ℕ → List Token → Type 0
Ends reach tokens = EndsBefore reach (continues (front_of tokens))

pub ends_less : (reach more : ℕ) (o : Option ℕ) → reach ≤ more → EndsBefore more o → EndsBefore reach o
ends_less reach more None less h = tt
ends_less reach more (Some level) less h = omega arith

pub continues_infix : (s : Sign) (j : Infix) → infix_of s ≡ Some j → continues (next.Sign s) ≡ Some (infix_level j)
continues_infix sign.OpenParen j is = cc
continues_infix sign.OpenBracket j is = cc
continues_infix sign.Dot j is = cc
continues_infix sign.Question j is = cc
continues_infix other j is = ap (option_map infix_level) is

at_reach-none : (reach : ℕ) (o : Option Infix) → EndsBefore (suc reach) (option_map infix_level o) → at_reach reach o ≡ None
at_reach-none reach None h = refl
at_reach-none reach (Some j) h =
    let other : (infix_level j + reach == 10) ≡ false = grind arith in rw other refl

pub infix_ends : (reach : ℕ) (nx : Next) → EndsBefore (suc reach) (continues nx) → infix_at reach nx ≡ None
infix_ends reach (next.Sign sign.OpenParen) h = refl
infix_ends reach (next.Sign sign.OpenBracket) h = refl
infix_ends reach (next.Sign sign.Dot) h = refl
infix_ends reach (next.Sign sign.Question) h = refl
infix_ends reach (next.Sign s) h = at_reach-none reach (infix_of s) h
infix_ends reach other h = refl

pub infix_here : (reach : ℕ) (s : Sign) (j : Infix) → infix_of s ≡ Some j → infix_level j + reach ≡ 10 → infix_at reach (next.Sign s) ≡ Some j
infix_here reach s j is level =
    let here : (infix_level j + reach == 10) ≡ true = grind arith in rw is (rw here refl)

pub not_open : (reach : ℕ) (nx : Next) → EndsBefore reach (continues nx) → is_sign sign.OpenParen nx ≡ false
unfolding same_sign
not_open reach (next.Sign sign.OpenParen) h = absurd (omega arith)
not_open reach (next.Sign s) h = refl
not_open reach other h = refl

pub not_question : (nx : Next) → EndsBefore 11 (continues nx) → is_sign sign.Question nx ≡ false
unfolding same_sign
not_question (next.Sign sign.Question) h = absurd (omega arith)
not_question (next.Sign s) h = refl
not_question other h = refl

pub named_ends : (left : ℕ) (inner : Reach → Parser Expr) (first : List ℕ) (reach : ℕ) (nx : Next) → EndsBefore reach (continues nx)
    → (p : Place) → named_by left inner first nx p ≡ Read (tree.Name first, p)
named_ends left inner first reach (next.Sign sign.OpenParen) h p = absurd (omega arith)
named_ends left inner first reach (next.Sign sign.OpenBracket) h p = absurd (omega arith)
named_ends left inner first reach (next.Sign sign.Dot) h p = absurd (omega arith)
named_ends left inner first reach (next.Sign s) h p = refl
named_ends left inner first reach other h p = refl
