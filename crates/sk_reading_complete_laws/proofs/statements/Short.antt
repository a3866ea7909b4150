-- What a statement that ends with `;` begins with.
use Rattle.std.proofs.Common.{◌≡◌, ℕ, ◌+◌, false, List, ◌∷◌, codes, refl, ap, arith, drop}
use Rattle.sk_base.specs.declared.number.Ty.{Ty}
use Rattle.sk_base.specs.declared.number.Ty.TheVariants.{Int, Long}
use Rattle.sk_grammar.specs.ExpressionSpelling.{sign_at, typed}
use Rattle.sk_grammar.specs.StatementSpelling
use Rattle.sk_grammar.specs.StatementSpelling.{Target}
use Rattle.sk_tokens.specs.declared.token.Sign.{Sign}
use Rattle.sk_tokens.specs.declared.token.Sign.TheVariants as sign
use Rattle.sk_tokens.specs.declared.token.Token.{Token}
use Rattle.sk_reading.specs.declared.next.Next.{Next}
use Rattle.sk_reading.specs.declared.next.Next.TheVariants as next
use Rattle.sk_reading.specs.declared.keyword.Keyword.TheVariants as key
use Rattle.sk_reading.specs.Reading.{Place, keyword_of, front_of, word_next, same_sign, is_sign, is_keyword}
use Rattle.sk_reading.specs.ReadingAssignments as assignments
use Rattle.sk_reading.specs.ReadingForms as forms
use Rattle.sk_reading.specs.ReadingStatements as reading
use Rattle.sk_reading_complete_laws.proofs.statements.Assignments.{IsUpdate}

-- what follows does not go on with a statement
abbrev pub NoElse : List Token → Type 0
NoElse r = is_keyword key.Else (front_of r) ≡ false

-- a statement with this front is a short one
abbrev pub IsShort : Next → Type 0
IsShort nx = (left of : ℕ) (p : Place) → reading.statement_by left (reading.part_below left) of nx p ≡ forms.short left p

pub name-short : (nx : Next) → nx ≡ next.Name → IsShort nx
name-short nx is left of p = ap (λ x. reading.statement_by left (reading.part_below left) of x p) is

pub same_number : (i j : ℕ) → i + 0 ≡ j → i ≡ j
same_number i j h = omega arith

-- ---- declarations and assignments

pub declares : (t : Ty) (line left : ℕ) (r : List Token) (p : Place) → forms.short_by left (front_of (typed t line ∷ r)) p ≡ assignments.declaration left p
unfolding keyword_of
declares Int line left r p = refl
declares Long line left r p = refl

pub typed-short : (t : Ty) (line : ℕ) (r : List Token) → IsShort (front_of (typed t line ∷ r))
unfolding keyword_of
typed-short Int line r left of p = refl
typed-short Long line r left of p = refl

pub second-not-dot : (t : Target) (sg : Sign) (line : ℕ) (r : List Token) → IsUpdate sg → is_sign sign.Dot (front_of (drop 1 (StatementSpelling.target_in_front t (sign_at sg line ∷ r)))) ≡ false
unfolding same_sign
second-not-dot (Target.Variable line' w) sg line r update = update.dot
second-not-dot (Target.Element lines w ss) sg line r update = refl
second-not-dot (Target.Bracketed lines w s) sg line r update = refl

-- by keywords
pub make-short : IsShort (word_next (keyword_of (codes "skepu")))
unfolding keyword_of
make-short left of p = refl

pub auto-short : IsShort (word_next (keyword_of (codes "auto")))
unfolding keyword_of
auto-short left of p = refl

pub std-short : IsShort (word_next (keyword_of (codes "std")))
unfolding keyword_of
std-short left of p = refl

pub return-short : IsShort (word_next (keyword_of (codes "return")))
unfolding keyword_of
return-short left of p = refl
