-- What reading statements that end with `;` leads to.
use Rattle.std.proofs.Common.{◌≡◌, ℕ, Bool, true, false, cond, List, [], ◌∷◌, ◌++◌, codes, refl, ap, sym, subst, ◌∙◌, arith}
use Rattle.sk_grammar.specs.ExpressionSpelling.{in_front, arguments_in_front, IsName, sign_at, word}
use Rattle.sk_grammar.specs.StatementSpelling as spelling
use Rattle.sk_grammar.specs.StatementSpelling.{Written, Printed, written_in_front, IsLawfulStatement}
use Rattle.sk_tokens.specs.declared.token.Sign.TheVariants as sign
use Rattle.sk_tokens.specs.declared.token.Token.{Token}
use Rattle.sk_tree.specs.declared.tree.What.TheVariants as what
use Rattle.sk_reading.specs.declared.keyword.Keyword.TheVariants as key
use Rattle.sk_reading.specs.declared.next.Next.{Next}
use Rattle.sk_reading.specs.declared.next.Next.TheVariants as next
use Rattle.sk_reading.specs.declared.reach.Reach.TheVariants.{Whole}
use Rattle.sk_reading.specs.declared.target.Target.{Target}
use Rattle.sk_reading.specs.declared.target.Target.TheVariants.{Variable, Element, Bracketed}
use Rattle.sk_reading.specs.Reading.{Place, Read, and_then, front, sees}
use Rattle.sk_reading.specs.ReadingAssignments.{target_by, update}
use Rattle.sk_reading.specs.ReadingForms.{call_of, used, returned}
use Rattle.sk_reading_sound_laws.proofs.Steps.{lines_of}
use Rattle.sk_refusal_laws.proofs.Forms.{ended, used-is}
use Rattle.sk_refusal_laws.proofs.viable.Leads as leading
use Rattle.sk_refusal_laws.proofs.viable.Leads.{Lang, Chain, Nothing, SignOf, KeywordOf, NameOf, NumberOf, TextOf, TypeOf, WordOf, LeadsTo, Leads, Default, Fresh, Any, default-chain, leads-then, leads-map, leads-done, leads-lacking}
use Rattle.sk_refusal_laws.proofs.viable.Assignments.{PlacesOf, IsElement, IsBracketed, SimpleOf, AssignmentOf, UpdateOf, BehindName, an-update, update-fresh, value-leads, element-leads, bracketed-leads, element-target, bracketed-target, variable-target, update-leads}
use Rattle.sk_refusal_laws.proofs.viable.Operands.{ExpressionOf, a-number}
use Rattle.sk_refusal_laws.proofs.viable.Tokens.{leads-name, leads-taken}

abbrev pub WrittenOf : Lang
WrittenOf tokens rest = (w : Written) × IsLawfulStatement w × (tokens ≡ written_in_front w rest)

-- a statement up to its `;`
abbrev pub BegunOf : Lang
BegunOf tokens rest = (line : ℕ) (r : List Token) → rest ≡ sign_at sign.Semi line ∷ r → WrittenOf tokens r

pub simply : (tokens rest : List Token) → SimpleOf tokens rest → BegunOf tokens rest
simply tokens rest (s, lawful, is) = λ line r end. (Written.Simply s line, lawful, is ∙ ap (spelling.simple_in_front s) end)

pub assigns : (tokens rest : List Token) → AssignmentOf tokens rest → BegunOf tokens rest
assigns tokens rest (a, lawful, is) = simply tokens rest (spelling.Simple.Assigning a, lawful, is)

pub returned-leads : (left : ℕ) (p : Place) → front p ≡ next.Keyword key.Return → Leads BegunOf p (returned left p)
unfolding returned
returned-leads left p is = leads-map made (leads-then _ (leads-taken key.Return p is) (λ _ q _. leads-done what.Return (λ _ _. tt) (value-leads left Whole q)) (a-number 0 (omega arith)))
  where
    made : (tokens rest : List Token) → Chain (KeywordOf key.Return) (ExpressionOf 0) tokens rest → BegunOf tokens rest
    made tokens rest c = λ line r end.
        let (l0, is0) = c.first in
        let (s, lawful, level, is1) = c.second in
        (Written.Return (lines_of (l0 ∷ line ∷ [])) s, lawful, is0 ∙ ap (λ l. word (codes "return") l0 ∷ l) (is1 ∙ ap (in_front s) end))

-- ---- calls and what begins with a name

-- what may follow a name at the beginning
abbrev NamedOf : Lang
NamedOf tokens rest = (line : ℕ) (w : List ℕ) → IsName w → BegunOf (word w line ∷ tokens) rest

updated : (tokens rest : List Token) → Chain BehindName UpdateOf tokens rest → NamedOf tokens rest
updated tokens rest c = λ line w free. assigns (word w line ∷ tokens) rest (c.second (word w line ∷ tokens) (c.first line w free))

called : (tokens rest : List Token) → PlacesOf tokens rest → NamedOf tokens rest
called tokens rest c = λ line w free end_line r end.
    let (l1, is1) = c.first in
    let (ss, lawful, is2) = c.second.first in
    let (l2, is3) = c.second.second in (
      Written.Call (lines_of (line ∷ l1 ∷ l2 ∷ end_line ∷ [])) w ss,
      (free, lawful),
      ap (λ l. word w line ∷ l) (is1 ∙ ap (λ l. sign_at sign.OpenParen l1 ∷ l) (is2 ∙ ap (arguments_in_front ss) (is3 ∙ ap (λ l. sign_at sign.CloseParen l2 ∷ l) end))),
    )

-- behind an element either may follow
abbrev BehindPlaces : Lang
BehindPlaces tokens rest = (all : List Token) → PlacesOf all tokens → NamedOf all rest

module _ (left : ℕ) where
  ended-element : (to : Target) (p : Place) → IsElement to → Leads BehindPlaces p (ended left to p)
  ended-element (Element first found) p element = go (sees sign.Semi p)
    where
      go : (b : Bool) → Leads BehindPlaces p (cond b (Read (what.Call first found, p)) (update left (Element first found) p))
      go true = leading.Whole (what.Call first found) p [] refl tt refl (λ r all places. called all r places)
      go false = leads-map (λ tokens rest update all places. updated all rest (record { between = tokens; first = element-target all tokens places; second = update })) (update-leads left (Element first found) p)
  ended-element (Variable first) p element = absurd element
  ended-element (Bracketed first place) p element = absurd element

  ended-other : (to : Target) (p : Place) → (IsElement to → ⊥) → Leads UpdateOf p (ended left to p)
  ended-other (Element first found) p other = absurd (other tt)
  ended-other (Variable first) p other = go (sees sign.Semi p)
    where
      go : (b : Bool) → Leads UpdateOf p (cond b (call_of left (Variable first) p) (update left (Variable first) p))
      go true = leads-lacking an-update p update-fresh
      go false = update-leads left (Variable first) p
  ended-other (Bracketed first place) p other = go (sees sign.Semi p)
    where
      go : (b : Bool) → Leads UpdateOf p (cond b (call_of left (Bracketed first place) p) (update left (Bracketed first place) p))
      go true = leads-lacking an-update p update-fresh
      go false = update-leads left (Bracketed first place) p

  not-element : (to : Target) → IsBracketed to → IsElement to → ⊥
  not-element (Element first found) bracket element = bracket
  not-element (Variable first) bracket element = bracket
  not-element (Bracketed first place) bracket element = element

  behind-name : (first : List ℕ) (q : Place) (nx : Next) → front q ≡ nx → Leads NamedOf q (and_then (target_by left first nx q) (ended left))
  behind-name first q (next.Sign sign.OpenParen) is =
      leads-map (λ tokens rest c. c.second tokens c.first) (leads-then (ended left) (element-leads left first q is) (λ to s element. ended-element to s element)
      (record { fix = []; goes = λ r all places. called all r places }))
  behind-name first q (next.Sign sign.OpenBracket) is =
      leads-map (λ tokens rest c. updated tokens rest (record { between = c.between; first = bracketed-target tokens c.between c.first; second = c.second }))
      (leads-then (ended left) (bracketed-leads left first q is) (λ to s bracket. ended-other to s (not-element to bracket)) an-update)
  behind-name first q (next.Sign s) is = leads-map (λ tokens rest update. updated tokens rest (record { between = tokens; first = variable-target tokens; second = update })) (ended-other (Variable first) q (λ element. element))
  behind-name first q other is = leads-map (λ tokens rest update. updated tokens rest (record { between = tokens; first = variable-target tokens; second = update })) (ended-other (Variable first) q (λ element. element))

  a-call : Default NamedOf
  a-call = record { fix = an-update.fix; goes = λ r. updated (an-update.fix ++ r) r (record { between = an-update.fix ++ r; first = variable-target (an-update.fix ++ r); second = an-update.goes r }) }

  named-begun : (tokens rest : List Token) → Chain NameOf NamedOf tokens rest → BegunOf tokens rest
  named-begun tokens rest c = λ line r end. let (l0, w, free, is) = c.first in subst (λ l. WrittenOf l r) (sym is) (c.second l0 w free line r end)

  pub used-leads : (p : Place) → Leads BegunOf p (used left p)
  used-leads p = subst (λ o. Leads BegunOf p o) (sym (used-is left p)) (leads-map named-begun (leads-then _ (leads-name p) (λ first q _. behind-name first q (front q) refl) a-call))
