-- What reading values, targets, assignments and declarations leads to.
use Rattle.std.proofs.Common.{◌≡◌, ℕ, ◌<◌, true, List, [], ◌∷◌, ◌++◌, length, pos, Some, codes, refl, ap, sym, subst, ◌∙◌, arith}
use Rattle.sk_base.specs.declared.number.Op.{Op}
use Rattle.sk_base.specs.declared.number.Op.TheVariants as op
use Rattle.sk_base.specs.declared.number.Ty.TheVariants.{Int}
use Rattle.sk_grammar.specs.ExpressionSpelling as expressions
use Rattle.sk_grammar.specs.ExpressionSpelling.{Expression, Arguments, in_front, arguments_in_front, IsName, sign_at, word, typed}
use Rattle.sk_grammar.specs.Signs.{Assigns, Plainly, Joining, assigns_of, step_of}
use Rattle.sk_grammar.specs.StatementSpelling as spelling
use Rattle.sk_refusals.specs.declared.refusal.Refusal.TheVariants.{Syntax}
use Rattle.sk_tokens.specs.declared.token.Sign.{Sign}
use Rattle.sk_tokens.specs.declared.token.Sign.TheVariants as sign
use Rattle.sk_tokens.specs.declared.token.Token.{Token}
use Rattle.sk_tree.specs.declared.tree.Expr.{Expr}
use Rattle.sk_tree.specs.declared.tree.What.{What}
use Rattle.sk_tree.specs.declared.tree.What.TheVariants as what
use Rattle.sk_reading.specs.declared.keyword.Keyword.TheVariants as key
use Rattle.sk_reading.specs.declared.next.Next.{Next}
use Rattle.sk_reading.specs.declared.next.Next.TheVariants as next
use Rattle.sk_reading.specs.declared.reach.Reach.{Reach}
use Rattle.sk_reading.specs.declared.reach.Reach.TheVariants.{Whole}
use Rattle.sk_reading.specs.declared.target.Target.{Target}
use Rattle.sk_reading.specs.declared.target.Target.TheVariants.{Variable, Element, Bracketed}
use Rattle.sk_reading.specs.Reading.{Place, Outcome, Refused, and_then, ◌>>=◌, pure, take, front}
use Rattle.sk_reading.specs.ReadingExpressions.{is_type, below}
use Rattle.sk_reading.specs.ReadingAssignments.{value, value_inside, places, element, bracketed, target_by, target, update_by, update_next, update, step_by, stepped, joined_value, assignment_by, assignment, declaration, simple_by, simple}
use Rattle.sk_reading_sound_laws.proofs.Steps.{lines_of}
use Rattle.sk_refusal_laws.proofs.viable.Leads as leading
use Rattle.sk_refusal_laws.proofs.viable.Leads.{Lang, Chain, SignOf, NameOf, TypeOf, LeadsTo, Leads, Default, Fresh, Any, default-chain, leads-then, leads-map, leads-done, leads-lacking}
use Rattle.sk_refusal_laws.proofs.viable.Operands.{ExpressionOf, ArgumentsOf, a-number, an-argument, a-sign, least_of, arguments-lead}
use Rattle.sk_refusal_laws.proofs.viable.Operators.{below-leads, expression-leads}
use Rattle.sk_refusal_laws.proofs.viable.Tokens.{leads-expect, leads-name, leads-ty, leads-sign, leads-opens, leads-moved, a-name, name-fresh, is-a}

pub value-leads : (left : ℕ) (reach : Reach) (p : Place) → Leads (ExpressionOf (least_of reach)) p (value left reach p)
unfolding value
value-leads left reach p = leads-moved p (record p { nodes = 0 }) refl (expression-leads left reach (record p { nodes = 0 }))

pub value_inside-leads : (left : ℕ) (p : Place) → 0 < left → Leads (ExpressionOf 0) p (value_inside left p)
unfolding value_inside
value_inside-leads left p some = leads-moved p (record p { nodes = 0 }) refl (below-leads left Whole (record p { nodes = 0 }) some)

pub places-lead : (left : ℕ) (p : Place) → 0 < left → Leads ArgumentsOf p (places left p)
unfolding places
places-lead left p some = arguments-lead true (below left Whole) (λ q. below-leads left Whole q some) p

-- ---- targets

abbrev pub TargetOf : Lang
TargetOf tokens rest = (t : spelling.Target) × spelling.IsLawfulTarget t × (tokens ≡ spelling.target_in_front t rest)

-- an element's places, behind its name
abbrev pub PlacesOf : Lang
PlacesOf = Chain (SignOf sign.OpenParen) (Chain ArgumentsOf (SignOf sign.CloseParen))

abbrev pub PlaceOf : Lang
PlaceOf = Chain (SignOf sign.OpenBracket) (Chain (ExpressionOf 0) (SignOf sign.CloseBracket))

abbrev pub IsElement : Target → Type 0
IsElement (Element first found) = Unit {0}
IsElement other = ⊥

abbrev pub IsBracketed : Target → Type 0
IsBracketed (Bracketed first place) = Unit {0}
IsBracketed other = ⊥

pub element-leads : (left : ℕ) (first : List ℕ) (p : Place) → front p ≡ next.Sign sign.OpenParen → LeadsTo IsElement PlacesOf p (element left first p)
unfolding element
element-leads left first p is =
    leads-opens sign.OpenParen left p _ is (λ q some. leads-then _ (places-lead left q some) (λ found s _. leads-done (λ _. Element first found) (λ _ _. tt) (leads-expect sign.CloseParen s)) (a-sign sign.CloseParen))
    (default-chain an-argument (a-sign sign.CloseParen))

pub bracketed-leads : (left : ℕ) (first : List ℕ) (p : Place) → front p ≡ next.Sign sign.OpenBracket → LeadsTo IsBracketed PlaceOf p (bracketed left first p)
unfolding bracketed
bracketed-leads left first p is =
    leads-opens sign.OpenBracket left p _ is (λ q some. leads-then _ (value_inside-leads left q some) (λ place s _. leads-done (λ _. Bracketed first place) (λ _ _. tt) (leads-expect sign.CloseBracket s)) (a-sign sign.CloseBracket))
    (default-chain (a-number 0 (omega arith)) (a-sign sign.CloseBracket))

-- what may follow a name in a target
abbrev pub BehindName : Lang
BehindName tokens rest = (line : ℕ) (w : List ℕ) → IsName w → TargetOf (word w line ∷ tokens) rest

pub element-target : (tokens rest : List Token) → PlacesOf tokens rest → BehindName tokens rest
element-target tokens rest c = λ line w free.
    let (l1, is1) = c.first in
    let (ss, lawful, is2) = c.second.first in
    let (l2, is3) = c.second.second in
    (spelling.Target.Element (lines_of (line ∷ l1 ∷ l2 ∷ [])) w ss, (free, lawful), ap (λ l. word w line ∷ l) (is1 ∙ ap (λ l. sign_at sign.OpenParen l1 ∷ l) (is2 ∙ ap (arguments_in_front ss) is3)))

pub bracketed-target : (tokens rest : List Token) → PlaceOf tokens rest → BehindName tokens rest
bracketed-target tokens rest c = λ line w free.
    let (l1, is1) = c.first in
    let (s, lawful, level, is2) = c.second.first in
    let (l2, is3) = c.second.second in
    (spelling.Target.Bracketed (lines_of (line ∷ l1 ∷ l2 ∷ [])) w s, (free, lawful), ap (λ l. word w line ∷ l) (is1 ∙ ap (λ l. sign_at sign.OpenBracket l1 ∷ l) (is2 ∙ ap (in_front s) is3)))

pub variable-target : (r : List Token) → BehindName r r
variable-target r = λ line w free. (spelling.Target.Variable line w, free, refl)

abbrev no-place : Default BehindName
no-place = record { fix = []; goes = variable-target }

forget : {A : Type 0} {Q : A → Type 0} {D : Lang} {p : Place} {o : Outcome A} → LeadsTo Q D p o → Leads D p o
forget (leading.Whole value q w is holds tokens goes) = leading.Whole value q w is tt tokens goes
forget (leading.Part refusal left front fix rest is tokens goes shape) = leading.Part refusal left front fix rest is tokens goes shape

pub named-target : (tokens rest : List Token) → Chain NameOf BehindName tokens rest → TargetOf tokens rest
named-target tokens rest c = let (line, w, free, is) = c.first in subst (λ l. TargetOf l rest) (sym is) (c.second line w free)

pub target-leads : (left : ℕ) (p : Place) → Leads TargetOf p (target left p)
unfolding target
target-leads left p = leads-map named-target (leads-then _ (leads-name p) (λ first q _. go first q (front q) refl) no-place)
  where
    go : (first : List ℕ) (q : Place) (nx : Next) → front q ≡ nx → Leads BehindName q (target_by left first nx q)
    go first q (next.Sign sign.OpenParen) is = leads-map element-target (forget (element-leads left first q is))
    go first q (next.Sign sign.OpenBracket) is = leads-map bracketed-target (forget (bracketed-leads left first q is))
    go first q (next.Sign s) is = leading.Whole (Variable first) q [] refl tt refl variable-target
    go first q other is = leading.Whole (Variable first) q [] refl tt refl variable-target

abbrev pub a-target : Default TargetOf
a-target = record { fix = word (codes "a") 0 ∷ []; goes = λ r. (spelling.Target.Variable 0 (codes "a"), is-a, refl) }

-- ---- assignments

abbrev pub AssignmentOf : Lang
AssignmentOf tokens rest = (a : spelling.Assignment) × spelling.IsLawfulAssignment a × (tokens ≡ spelling.assignment_in_front a rest)

-- what may follow a target
abbrev pub UpdateOf : Lang
UpdateOf tokens rest = (all : List Token) → TargetOf all tokens → AssignmentOf all rest

pub assigns-update : (s : Sign) (how : Assigns) → assigns_of s ≡ Some how → (tokens rest : List Token) → Chain (SignOf s) (ExpressionOf 0) tokens rest → UpdateOf tokens rest
assigns-update s how means tokens rest c = λ all (t, lawful, is).
    let (line, is0) = c.first in
    let (e, lawful', level, is1) = c.second in
    (spelling.Assignment.Assign t line s how e, (lawful, means, lawful'), is ∙ ap (spelling.target_in_front t) (is0 ∙ ap (λ l. sign_at s line ∷ l) is1))

steps-update : (s : Sign) (with_op : Op) → step_of s ≡ Some with_op → (tokens rest : List Token) → SignOf s tokens rest → UpdateOf tokens rest
steps-update s with_op means tokens rest (line, is0) = λ all (t, lawful, is). (spelling.Assignment.StepAfter t line s with_op, (lawful, means), is ∙ ap (spelling.target_in_front t) is0)

abbrev pub an-update : Default UpdateOf
an-update = record {
  fix = sign_at sign.Eq 0 ∷ expressions.number Int (pos 1) 0 ∷ [];
  goes = λ r. assigns-update sign.Eq Plainly refl (sign_at sign.Eq 0 ∷ expressions.number Int (pos 1) 0 ∷ r) r (record { between = expressions.number Int (pos 1) 0 ∷ r; first = (0, refl); second = (a-number 0 (omega arith)).goes r });
}

pub update-fresh : Fresh (sign_at sign.Eq 0 ∷ expressions.number Int (pos 1) 0 ∷ [])
update-fresh = record { token = sign_at sign.Eq 0; more = expressions.number Int (pos 1) 0 ∷ []; is = refl; no_type = refl }

abbrev pub SimpleOf : Lang
SimpleOf tokens rest = (s : spelling.Simple) × spelling.IsLawfulSimple s × (tokens ≡ spelling.simple_in_front s rest)

module _ (left : ℕ) where
  assigns-lead : (s : Sign) (how : Assigns) → assigns_of s ≡ Some how → (h : Expr → What) (p : Place) → front p ≡ next.Sign s → Leads UpdateOf p (and_then (take p) (λ _. value left Whole >>= (λ e. pure (h e))))
  assigns-lead s how means h p is =
      leads-map (assigns-update s how means) (leads-then _ (leads-sign s p is) (λ _ q _. leads-done h (λ _ _. tt) (value-leads left Whole q)) (a-number 0 (omega arith)))

  steps-lead : (s : Sign) (with_op : Op) → step_of s ≡ Some with_op → (made : What) (p : Place) → front p ≡ next.Sign s → Leads UpdateOf p (and_then (take p) (λ _. pure made))
  steps-lead s with_op means made p is = leads-map (steps-update s with_op means) (leads-done (λ _. made) (λ _ _. tt) (leads-sign s p is))

  pub update-leads : (to : Target) (p : Place) → Leads UpdateOf p (update left to p)
  unfolding update joined_value
  update-leads to p = go (front p) refl
    where
      go : (nx : Next) → front p ≡ nx → Leads UpdateOf p (update_by left to (update_next nx) p)
      go (next.Sign sign.Eq) is = assigns-lead sign.Eq Plainly refl _ p is
      go (next.Sign sign.PlusEq) is = assigns-lead sign.PlusEq (Joining op.Add) refl _ p is
      go (next.Sign sign.MinusEq) is = assigns-lead sign.MinusEq (Joining op.Sub) refl _ p is
      go (next.Sign sign.StarEq) is = assigns-lead sign.StarEq (Joining op.Mul) refl _ p is
      go (next.Sign sign.SlashEq) is = assigns-lead sign.SlashEq (Joining op.Div) refl _ p is
      go (next.Sign sign.PercentEq) is = assigns-lead sign.PercentEq (Joining op.Rem) refl _ p is
      go (next.Sign sign.AndEq) is = assigns-lead sign.AndEq (Joining op.And) refl _ p is
      go (next.Sign sign.OrEq) is = assigns-lead sign.OrEq (Joining op.Or) refl _ p is
      go (next.Sign sign.CaretEq) is = assigns-lead sign.CaretEq (Joining op.Xor) refl _ p is
      go (next.Sign sign.ShlEq) is = assigns-lead sign.ShlEq (Joining op.Shl) refl _ p is
      go (next.Sign sign.ShrEq) is = assigns-lead sign.ShrEq (Joining op.Shr) refl _ p is
      go (next.Sign sign.PlusPlus) is = steps-lead sign.PlusPlus op.Add refl _ p is
      go (next.Sign sign.MinusMinus) is = steps-lead sign.MinusMinus op.Sub refl _ p is
      go (next.Sign s) is = leads-lacking an-update p update-fresh
      go other is = leads-lacking an-update p update-fresh

  step-leads : (s : Sign) (with_op : Op) → step_of s ≡ Some with_op → (p : Place) → front p ≡ next.Sign s → Leads AssignmentOf p (step_by left (Some with_op) p)
  step-leads s with_op means p is =
      leads-map (λ tokens rest c. let (line, is0) = c.first in let (t, lawful, is1) = c.second in (spelling.Assignment.StepBefore line s with_op t, (means, lawful), is0 ∙ ap (λ l. sign_at s line ∷ l) is1))
      (leads-then _ (leads-sign s p is) (λ _ q _. leads-done (λ to. stepped left to with_op) (λ _ _. tt) (target-leads left q)) a-target)

  pub assignment-leads : (p : Place) → Leads AssignmentOf p (assignment left p)
  unfolding assignment
  assignment-leads p = go (front p) refl
    where
      lacking : Leads {A = What} AssignmentOf p (Refused Syntax (length p.rest))
      lacking =
          leads-lacking (record { fix = word (codes "a") 0 ∷ an-update.fix; goes = λ r. an-update.goes r (word (codes "a") 0 ∷ (an-update.fix ++ r)) (spelling.Target.Variable 0 (codes "a"), is-a, refl) }) p
          (name-fresh an-update.fix)

      go : (nx : Next) → front p ≡ nx → Leads AssignmentOf p (assignment_by left nx p)
      go next.Name is = leads-map (λ tokens rest c. c.second tokens c.first) (leads-then _ (target-leads left p) (λ to q _. update-leads to q) an-update)
      go (next.Sign sign.PlusPlus) is = step-leads sign.PlusPlus op.Add refl p is
      go (next.Sign sign.MinusMinus) is = step-leads sign.MinusMinus op.Sub refl p is
      go (next.Sign s) is = lacking
      go other is = lacking

  -- ---- declarations

  pub declaration-leads : (p : Place) → is_type (front p) ≡ true → Leads SimpleOf p (declaration left p)
  unfolding declaration
  declaration-leads p is =
      leads-map made (leads-then _ (leads-ty p is) (λ of q _. leads-then _ (leads-name q) (λ declared s _. leads-then _ (leads-expect sign.Eq s) (λ _ z _. leads-done (what.Declare of declared) (λ _ _. tt) (value-leads left Whole z))
      (a-number 0 (omega arith))) (default-chain (a-sign sign.Eq) (a-number 0 (omega arith)))) (default-chain a-name (default-chain (a-sign sign.Eq) (a-number 0 (omega arith)))))
    where
      made : (tokens rest : List Token) → Chain TypeOf (Chain NameOf (Chain (SignOf sign.Eq) (ExpressionOf 0))) tokens rest → SimpleOf tokens rest
      made tokens rest c =
          let (l0, t, is0) = c.first in
          let (l1, w, free, is1) = c.second.first in
          let (l2, is2) = c.second.second.first in
          let (s, lawful, level, is3) = c.second.second.second in
          (spelling.Simple.Declare (lines_of (l0 ∷ l1 ∷ l2 ∷ [])) t w s, (free, lawful), is0 ∙ ap (λ l. typed t l0 ∷ l) (is1 ∙ ap (λ l. word w l1 ∷ l) (is2 ∙ ap (λ l. sign_at sign.Eq l2 ∷ l) is3)))

  pub simple-leads : (p : Place) → Leads SimpleOf p (simple left p)
  unfolding simple
  simple-leads p = go (front p) refl
    where
      assigning : Leads SimpleOf p (assignment left p)
      assigning = leads-map (λ tokens rest found. let (a, lawful, is) = found in (spelling.Simple.Assigning a, lawful, is)) (assignment-leads p)

      go : (nx : Next) → front p ≡ nx → Leads SimpleOf p (simple_by left nx p)
      go (next.Keyword key.Int) is = declaration-leads p (ap is_type is)
      go (next.Keyword key.Long) is = declaration-leads p (ap is_type is)
      go (next.Keyword k) is = assigning
      go other is = assigning
