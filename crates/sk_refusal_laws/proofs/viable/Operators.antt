-- What reading an expression leads to.
use Rattle.std.proofs.Common.{◌≡◌, ℕ, zero, suc, ◌+◌, ◌-◌, ◌<◌, ◌≤◌, Bool, true, false, cond, List, [], ◌∷◌, ◌++◌, length, pos, Option, Some, None, refl, ap, sym, subst, ◌∙◌, arith}
use Rattle.sk_base.specs.declared.number.Ty.TheVariants.{Int}
use Rattle.sk_grammar.specs.ExpressionSpelling as spelling
use Rattle.sk_grammar.specs.ExpressionSpelling.{Expression, in_front, level_in, IsLawful, joined, sign_at}
use Rattle.sk_grammar.specs.Signs.{infix_of, infix_level, prefix_of}
use Rattle.sk_grammar.specs.declared.infix.Infix.{Infix}
use Rattle.sk_refusals.specs.declared.refusal.Refusal.TheVariants.{Syntax, Deep}
use Rattle.sk_tokens.specs.declared.token.Sign.{Sign}
use Rattle.sk_tokens.specs.declared.token.Sign.TheVariants as sign
use Rattle.sk_tokens.specs.declared.token.Token.{Token}
use Rattle.sk_tree.specs.declared.tree.Expr.{Expr}
use Rattle.sk_tree.specs.declared.tree.Expr.TheVariants as tree
use Rattle.sk_tree.specs.declared.tree.Un.{Un}
use Rattle.sk_tree.specs.declared.tree.Un.TheVariants.{Neg, Inv, Not}
use Rattle.sk_reading.specs.declared.next.Next.{Next}
use Rattle.sk_reading.specs.declared.next.Next.TheVariants as next
use Rattle.sk_reading.specs.declared.reach.Reach.{Reach}
use Rattle.sk_reading.specs.declared.reach.Reach.TheVariants.{Whole, Sum, Operand}
use Rattle.sk_reading.specs.Reading.{Place, Read, Parser, and_then, ◌>>=◌, ◌>>◌, refuse, take, front, advance, sees, opened, count_node}
use Rattle.sk_reading.specs.ReadingExpressions.{infix_at, begins_expression, opened_by_expression, more, operators, chosen, choice_from, choice, reading, below, expression}
use Rattle.sk_reading_sound_laws.proofs.Steps.{lines_of, sign-takes, sees-sign}
use Rattle.sk_reading_sound_laws.proofs.expressions.Operators.{infix_at-is}
use Rattle.sk_refusal_laws.proofs.Forms.{regrouped}
use Rattle.sk_refusal_laws.proofs.viable.Leads as leading
use Rattle.sk_refusal_laws.proofs.viable.Leads.{Lang, Chain, Nothing, SignOf, LeadsTo, Part, Leads, Default, Fresh, default-chain, leads-then, leads-map, leads-done, leads-lacking}
use Rattle.sk_refusal_laws.proofs.viable.Operands.{ExpressionOf, a-number, a-sign, least_of, Inside, looser, operand-leads}
use Rattle.sk_refusal_laws.proofs.viable.Tokens.{leads-expect, leads-sign, leads-counted, front-of, number-here, name-here}

-- ---- operators

record OperatorHere (reach : ℕ) (nx : Next) (j : Infix) : Type 0 where
  s : Sign
  is : nx ≡ next.Sign s
  means : infix_of s ≡ Some j
  level : infix_level j + reach ≡ 10
  no_open : next.Sign s ≡ next.Sign sign.OpenParen → ⊥

operator-here : (reach : ℕ) (nx : Next) (j : Infix) → infix_at reach nx ≡ Some j → OperatorHere reach nx j
operator-here reach nx j is =
    let (s, same, means, level) = infix_at-is reach nx j is in
    record { s = s; is = same; means = means; level = level; no_open = λ other. let e : s ≡ sign.OpenParen = cc in let none = ap infix_of e in cc }

-- what may follow a first part
abbrev JoinsOf : (least : ℕ) → Lang
JoinsOf least tokens rest = (all : List Token) → ExpressionOf least all tokens → ExpressionOf least all rest

none-joined : (least : ℕ) → Default (JoinsOf least)
none-joined least = record { fix = []; goes = λ r all first. first }

-- what follows the `:` of so many tests
abbrev ColonsOf : ℕ → Lang
ColonsOf zero = Nothing
ColonsOf (suc tests) = Chain (SignOf sign.Colon) (Chain (ExpressionOf 0) (ColonsOf tests))

-- what may follow a value behind so many tests
abbrev ChosenOf : ℕ → Lang
ChosenOf tests tokens rest = (all : List Token) → ExpressionOf 1 all tokens → Chain (ExpressionOf 0) (ColonsOf tests) all rest

some-colons : (tests : ℕ) → Default (ColonsOf tests)
some-colons zero = record { fix = []; goes = λ r. refl }
some-colons (suc tests) = default-chain (a-sign sign.Colon) (default-chain (a-number 0 (omega arith)) (some-colons tests))

some-chosen : (tests : ℕ) → Default (ChosenOf tests)
some-chosen tests =
    let d = some-colons tests in
    record { fix = d.fix; goes = λ r all first. record { between = d.fix ++ r; first = looser 1 0 (omega arith) all (d.fix ++ r) first; second = d.goes r } }

-- from a `?` on
asked : (tests : ℕ) (tokens rest : List Token) → Chain (SignOf sign.Question) (Chain (ExpressionOf 1) (ChosenOf (suc tests))) tokens rest → ChosenOf tests tokens rest
asked tests tokens rest c = λ all (a, lawful, level, is).
    let (l0, is0) = c.first in
    let whole = c.second.second c.between c.second.first in
    let (b, lawful_b, level_b, is_b) = whole.first in
    let (l1, is1) = whole.second.first in
    let (e, lawful_e, level_e, is_e) = whole.second.second.first in
    record {
      between = whole.second.second.between;
      first = (
        Expression.Choose (lines_of (l0 ∷ l1 ∷ [])) a b e,
        (omega arith, lawful, lawful_b, lawful_e),
        omega arith,
        is ∙ ap (in_front a) (is0 ∙ ap (λ l. sign_at sign.Question l0 ∷ l) (is_b ∙ ap (in_front b) (is1 ∙ ap (λ l. sign_at sign.Colon l1 ∷ l) is_e))),
      );
      second = whole.second.second.second;
    }

module _ (left : ℕ) (inner : Reach → Parser Expr) (inside : Inside left inner) where
  more-leads : (part : Parser Expr) (reach : ℕ) → reach < 10 → ((p : Place) → Leads (ExpressionOf (suc (10 - reach))) p (part p)) → (turns : ℕ) (first : Expr) (p : Place)
      → Leads (JoinsOf (10 - reach)) p (more left inner part reach turns first p)
  unfolding more
  more-leads part reach few parts zero first p = leading.Whole first p [] refl tt refl (λ r all first. first)
  more-leads part reach few parts (suc turns) first p = go (λ j second q. more-leads part reach few parts turns (joined j first second) q) (infix_at reach (front p)) refl
    where
      made : (s : Sign) (j : Infix) → infix_of s ≡ Some j → infix_level j + reach ≡ 10 → (tokens rest : List Token) → Chain (SignOf s) (Chain (ExpressionOf (suc (10 - reach))) (JoinsOf (10 - reach))) tokens rest
          → JoinsOf (10 - reach) tokens rest
      made s j means level tokens rest c = λ all whole.
          let (line, is0) = c.first in
          let (b, lawful, above, is1) = c.second.first in
          let (a, lawful', above', is2) = whole in
          c.second.second all (Expression.Join line s j a b, (means, omega arith, omega arith, lawful', lawful), omega arith, is2 ∙ ap (in_front a) (is0 ∙ ap (λ l. sign_at s line ∷ l) is1))

      go : ((j : Infix) (second : Expr) (q : Place) → Leads (JoinsOf (10 - reach)) q (more left inner part reach turns (joined j first second) q)) → (found : Option Infix) → infix_at reach (front p) ≡ found
          → Leads (JoinsOf (10 - reach)) p (elim found [
            | None ↦ Read (first, p)
            | Some operator ↦ (count_node >> (take >> (part >>= (λ second. more left inner part reach turns (joined operator first second))))) p
          ])
      go later None is = leading.Whole first p [] refl tt refl (λ r all first. first)
      go later (Some j) is =
          let here = operator-here reach (front p) j is in
          let (line, takes) = sign-takes p here.s here.is in
          let one = a-number (suc (10 - reach)) (omega arith) in
          leads-counted p _ (record {
            token = sign_at here.s line;
            rest = (advance p).rest;
            fix = one.fix;
            tokens = takes.tokens;
            goes = λ r. made here.s j here.means here.level (sign_at here.s line ∷ (one.fix ++ r)) r (record { between = one.fix ++ r; first = (line, refl); second = record { between = r; first = one.goes r; second = λ all first. first } });
            no_open = here.no_open;
          }) (λ q same. leads-map (made here.s j here.means here.level) (leads-then _ (leads-sign here.s q (front-of p q same ∙ here.is)) (λ _ z _.
          leads-then _ (parts z) (λ second u _. later j second u) (none-joined (10 - reach))) (default-chain one (none-joined (10 - reach)))))

  operators-lead : (reach : ℕ) → reach ≤ 10 → (p : Place) → Leads (ExpressionOf (11 - reach)) p (operators left inner reach p)
  unfolding operators
  operators-lead zero most p = leads-map (λ tokens rest found. looser 11 (11 - 0) (omega arith) tokens rest found) (operand-leads left inner inside p)
  operators-lead (suc reach) most p =
      leads-map (λ tokens rest c. looser (10 - reach) (11 - suc reach) (omega arith) tokens rest (c.second tokens (looser (11 - reach) (10 - reach) (omega arith) tokens c.between c.first)))
      (leads-then _ (operators-lead reach (omega arith) p) (λ first q _. more-leads (operators left inner reach) reach (omega arith)
      (λ z. leads-map (λ tokens rest found. looser (11 - reach) (suc (10 - reach)) (omega arith) tokens rest found) (operators-lead reach (omega arith) z)) (length q.rest) first q) (none-joined (10 - reach)))

  -- ---- choices

  -- one may begin here, and be completed
  record BeginsHere (p : Place) : Type 0 where
    token : Token
    rest : List Token
    fix : List Token
    tokens : p.rest ≡ token ∷ rest
    goes : (r : List Token) → ExpressionOf 0 (token ∷ (fix ++ r)) r

  prefix-here : (s : Sign) (op : Un) → prefix_of s ≡ Some op → (p : Place) → front p ≡ next.Sign s → BeginsHere p
  prefix-here s op means p is =
      let (line, takes) = sign-takes p s is in
      record {
        token = sign_at s line;
        rest = (advance p).rest;
        fix = spelling.number Int (pos 1) 0 ∷ [];
        tokens = takes.tokens;
        goes = λ r. (Expression.Prefix line s op (Expression.Number 0 Int (pos 1)), (means, omega arith, tt), omega arith, refl);
      }

  begins-here : (p : Place) → begins_expression (front p) ≡ true → BeginsHere p
  begins-here p begins = go (front p) refl begins
    where
      go : (nx : Next) → front p ≡ nx → begins_expression nx ≡ true → BeginsHere p
      go next.Number is begins =
          let here = number-here p is in
          record { token = spelling.number here.t here.v here.line; rest = here.rest; fix = []; tokens = here.tokens; goes = λ r. (Expression.Number here.line here.t here.v, tt, omega arith, refl) }
      go next.Name is begins =
          let here = name-here p is in
          record { token = spelling.word here.w here.line; rest = here.rest; fix = []; tokens = here.tokens; goes = λ r. (Expression.Name here.line here.w, here.free, omega arith, refl) }
      go (next.Sign sign.OpenParen) is begins =
          let (line, takes) = sign-takes p sign.OpenParen is in
          record {
            token = sign_at sign.OpenParen line;
            rest = (advance p).rest;
            fix = spelling.number Int (pos 1) 0 ∷ sign_at sign.CloseParen 0 ∷ [];
            tokens = takes.tokens;
            goes = λ r. (Expression.Paren (lines_of (line ∷ 0 ∷ [])) (Expression.Number 0 Int (pos 1)), tt, omega arith, refl);
          }
      go (next.Sign sign.Minus) is begins = prefix-here sign.Minus Neg refl p is
      go (next.Sign sign.Tilde) is begins = prefix-here sign.Tilde Inv refl p is
      go (next.Sign sign.Not) is begins = prefix-here sign.Not Not refl p is
      go (next.Sign s) is begins = absurd (cc)
      go other is begins = absurd (cc)

  a-fresh : Fresh (spelling.number Int (pos 1) 0 ∷ [])
  a-fresh = record { token = spelling.number Int (pos 1) 0; more = []; is = refl; no_type = refl }

  opened-leads : (p : Place) → Leads (ExpressionOf 0) p (and_then (opened_by_expression left p) (λ _. inner Whole))
  unfolding opened_by_expression opened
  opened-leads p = go (begins_expression (front p)) refl left refl
    where
      go : (b : Bool) → begins_expression (front p) ≡ b → (n : ℕ) → left ≡ n → Leads (ExpressionOf 0) p (and_then (cond b (opened n p) (refuse Syntax p)) (λ _. inner Whole))
      go false is n same = leads-lacking (a-number 0 (omega arith)) p a-fresh
      go true is zero same =
          let here = begins-here p is in
          Part Deep (length p.rest) (here.token ∷ []) here.fix here.rest refl here.tokens here.goes (sym (ap length here.tokens))
      go true is (suc n) same = inside Whole p (omega arith)

  chosen-leads : (tests : List Expr) (value : Expr) (p : Place) → Leads (ColonsOf (length tests)) p (chosen left inner tests value p)
  unfolding chosen
  chosen-leads [] value p = leading.Whole value p [] refl tt refl (λ r. refl)
  chosen-leads (test ∷ tests) value p =
      leads-then _ (leads-expect sign.Colon p) (λ _ q _.
      subst (λ o. Leads (Chain (ExpressionOf 0) (ColonsOf (length tests))) q o) (regrouped (opened_by_expression left q) (λ _. inner Whole) (λ other. chosen left inner tests (tree.Choose test value other)))
      (leads-then (λ other. chosen left inner tests (tree.Choose test value other)) (opened-leads q) (λ other s _. chosen-leads tests (tree.Choose test value other) s) (some-colons (length tests))))
      (default-chain (a-number 0 (omega arith)) (some-colons (length tests)))

  -- a `?` and what follows it
  ask : (tests line : ℕ) (r : List Token) → ChosenOf tests (sign_at sign.Question line ∷ spelling.number Int (pos 1) 0 ∷ ((some-chosen (suc tests)).fix ++ r)) r
  ask tests line r =
      let later = some-chosen (suc tests) in
      asked tests (sign_at sign.Question line ∷ spelling.number Int (pos 1) 0 ∷ (later.fix ++ r)) r (record {
        between = spelling.number Int (pos 1) 0 ∷ (later.fix ++ r);
        first = (line, refl);
        second = record { between = later.fix ++ r; first = (Expression.Number 0 Int (pos 1), tt, omega arith, refl); second = later.goes r };
      })

  choice_from-leads : (turns : ℕ) (tests : List Expr) (value : Expr) (p : Place) → Leads (ChosenOf (length tests)) p (choice_from left inner turns tests value p)
  unfolding choice_from
  choice_from-leads zero tests value p =
      let fix = spelling.number Int (pos 1) 0 ∷ (some-chosen (suc (length tests))).fix in
      leads-lacking (record { fix = sign_at sign.Question 0 ∷ fix; goes = λ r. ask (length tests) 0 r }) p (record { token = sign_at sign.Question 0; more = fix; is = refl; no_type = refl })
  choice_from-leads (suc turns) tests value p = go (λ second q. choice_from-leads turns (value ∷ tests) second q) (sees sign.Question p) refl
    where
      go : ((second : Expr) (q : Place) → Leads (ChosenOf (suc (length tests))) q (choice_from left inner turns (value ∷ tests) second q)) → (b : Bool) → sees sign.Question p ≡ b
          → Leads (ChosenOf (length tests)) p (cond b ((count_node >> (take >> (operators left inner 10 >>= choice_from left inner turns (value ∷ tests)))) p) (chosen left inner tests value p))
      go later true is =
          let (line, takes) = sign-takes p sign.Question (sees-sign p sign.Question is) in
          leads-counted p _ (record {
            token = sign_at sign.Question line;
            rest = (advance p).rest;
            fix = spelling.number Int (pos 1) 0 ∷ (some-chosen (suc (length tests))).fix;
            tokens = takes.tokens;
            goes = λ r. ask (length tests) line r;
            no_open = λ same. cc;
          }) (λ q same. leads-map (asked (length tests)) (leads-then _ (leads-sign sign.Question q (front-of p q same ∙ sees-sign p sign.Question is)) (λ _ z _.
          leads-then _ (operators-lead 10 (omega arith) z) (λ second u _. later second u) (some-chosen (suc (length tests)))) (default-chain (a-number 1 (omega arith)) (some-chosen (suc (length tests))))))
      go later false is =
          leads-map (λ tokens rest colons all whole. record { between = tokens; first = looser 1 0 (omega arith) all tokens whole; second = colons }) (chosen-leads tests value p)

  choice-leads : (p : Place) → Leads (ExpressionOf 0) p (choice left inner p)
  unfolding choice
  choice-leads p =
      leads-map (λ tokens rest c. let whole = c.second tokens c.first in subst (λ l. ExpressionOf 0 tokens l) whole.second whole.first)
      (leads-then _ (operators-lead 10 (omega arith) p) (λ first q _. choice_from-leads (length p.rest) [] first q) (some-chosen 0))

  reading-leads : (reach : Reach) (p : Place) → Leads (ExpressionOf (least_of reach)) p (reading left inner reach p)
  reading-leads Whole p = choice-leads p
  reading-leads Sum p = operators-lead 2 (omega arith) p
  reading-leads Operand p = operand-leads left inner inside p

pub below-leads : (left : ℕ) → Inside left (below left)
unfolding below
below-leads zero reach p some = absurd (omega arith)
below-leads (suc left) reach p some = reading-leads left (below left) (below-leads left) reach p

pub expression-leads : (left : ℕ) (reach : Reach) (p : Place) → Leads (ExpressionOf (least_of reach)) p (expression left reach p)
unfolding expression
expression-leads left reach p = reading-leads left (below left) (below-leads left) reach p
