-- What reading an operand leads to.
use Rattle.std.proofs.Common.{◌≡◌, ◌≢◌, inr, ℕ, zero, suc, ◌+◌, ◌<◌, ◌≤◌, Bool, true, false, cond, nat_lt, List, [], ◌∷◌, ◌++◌, length, pos, Some, codes, refl, ap, sym, subst, ◌∙◌, arith}
use Rattle.sk_base.specs.declared.number.Ty.TheVariants.{Int}
use Rattle.sk_grammar.specs.ExpressionSpelling as spelling
use Rattle.sk_grammar.specs.ExpressionSpelling.{Expression, Arguments, in_front, arguments_in_front, level_in, IsLawful, AreLawful, IsName, sign_at, word, typed}
use Rattle.sk_grammar.specs.Signs.{prefix_of}
use Rattle.sk_refusals.specs.declared.refusal.Limited.TheVariants.{Nodes}
use Rattle.sk_refusals.specs.declared.refusal.Refusal.TheVariants.{Syntax, Deep, Many}
use Rattle.sk_tokens.specs.declared.token.Sign.{Sign}
use Rattle.sk_tokens.specs.declared.token.Sign.TheVariants as sign
use Rattle.sk_tokens.specs.declared.token.Token.{Token}
use Rattle.sk_tree.specs.declared.tree.Expr.{Expr}
use Rattle.sk_tree.specs.declared.tree.Expr.TheVariants as tree
use Rattle.sk_tree.specs.declared.tree.Un.{Un}
use Rattle.sk_tree.specs.declared.tree.Un.TheVariants.{Neg, Inv, Not}
use Rattle.sk_reading.specs.declared.next.Next.{Next}
use Rattle.sk_reading.specs.declared.next.Next.TheVariants as next
use Rattle.sk_reading.specs.declared.reach.Reach.{Reach}
use Rattle.sk_reading.specs.declared.reach.Reach.TheVariants.{Whole, Sum, Operand}
use Rattle.sk_reading.specs.Reading.{Place, Outcome, Read, Refused, Parser, and_then, ◌>>=◌, ◌>>◌, pure, refuse, take, front, advance, sees, same_sign, after, expect, ty, count_node, opened}
use Rattle.sk_reading.specs.ReadingExpressions.{own, arguments, arguments_from, begins_conversion, conversion, parenthesized, prefixed, called, indexed, member, named_by, named, literal, bracketed, operand_by, operand}
use Rattle.sk_reading_sound_laws.proofs.Steps.{lines_of, sign-takes, sees-sign}
use Rattle.sk_refusal_laws.proofs.viable.Leads as leading
use Rattle.sk_refusal_laws.proofs.viable.Leads.{Lang, Chain, Nothing, SignOf, NameOf, NumberOf, TypeOf, LeadsTo, Part, Leads, Default, default-chain, leads-then, leads-map, leads-done, leads-lacking, Fresh}
use Rattle.sk_refusal_laws.proofs.viable.Tokens.{leads-expect, leads-name, leads-number, leads-ty, leads-sign, leads-opens, leads-counted, leads-prefix, name-here, number-here, type-here, front-of, leads-list, is-a}

-- ---- languages of expressions

abbrev pub ExpressionOf : (least : ℕ) → Lang
ExpressionOf least tokens rest = (s : Expression) × IsLawful s × (least ≤ level_in s) × (tokens ≡ in_front s rest)

abbrev pub ArgumentsOf : Lang
ArgumentsOf tokens rest = (ss : Arguments) × AreLawful ss × (tokens ≡ arguments_in_front ss rest)

-- a number stands for any expression
abbrev pub a-number : (least : ℕ) → least ≤ 12 → Default (ExpressionOf least)
a-number least few = record { fix = spelling.number Int (pos 1) 0 ∷ []; goes = λ r. (Expression.Number 0 Int (pos 1), tt, few, refl) }

abbrev pub a-sign : (s : Sign) → Default (SignOf s)
a-sign s = record { fix = sign_at s 0 ∷ []; goes = λ r. (0, refl) }

abbrev pub least_of : Reach → ℕ
least_of Whole = 0
least_of Sum = 9
least_of Operand = 11

-- where one may be opened
abbrev pub Inside : (left : ℕ) → (Reach → Parser Expr) → Type 0
Inside left inner = (reach : Reach) (p : Place) → 0 < left → Leads (ExpressionOf (least_of reach)) p (inner reach p)

pub looser : (more less : ℕ) → less ≤ more → (tokens rest : List Token) → ExpressionOf more tokens rest → ExpressionOf less tokens rest
looser more less few tokens rest (s, lawful, level, is) = (s, lawful, omega arith, is)

abbrev pub an-argument : Default ArgumentsOf
an-argument = record { fix = spelling.number Int (pos 1) 0 ∷ []; goes = λ r. (Arguments.Last (Expression.Number 0 Int (pos 1)), tt, refl) }

-- whether they are expressions of their own is all one
pub arguments-lead : (are_own : Bool) (item : Parser Expr) → ((p : Place) → Leads (ExpressionOf 0) p (item p)) → (p : Place) → Leads ArgumentsOf p (arguments are_own item p)
unfolding arguments arguments_from
arguments-lead are_own item leads p =
    leads-list (λ _. own are_own item) (λ e. e) (arguments_from (own are_own item)) (ExpressionOf 0) ArgumentsOf (λ found p. refl, λ turns found p. refl)
    (λ tokens rest found. let (s, lawful, level, is) = found in (Arguments.Last s, lawful, is))
    (λ tokens between rest line first found. let (s, lawful, level, is) = first in let (ss, others, same) = found in
    (Arguments.More s line ss, (lawful, others), is ∙ ap (λ l. in_front s (sign_at sign.Comma line ∷ l)) same))
    an-argument (record { token = spelling.number Int (pos 1) 0; more = []; is = refl; no_type = refl }) (λ found q. own-leads are_own q) (length p.rest) [] p
  where
    own-leads : (are_own : Bool) (q : Place) → Leads (ExpressionOf 0) q (own are_own item q)
    own-leads true q = moved (leads (record q { nodes = 0 }))
      where
        moved : {o : Outcome Expr} → Leads (ExpressionOf 0) (record q { nodes = 0 }) o → Leads (ExpressionOf 0) q o
        moved (leading.Whole value z w is holds tokens goes) = leading.Whole value z w is holds tokens goes
        moved (Part refusal left front fix rest is tokens goes shape) = Part refusal left front fix rest is tokens goes shape
    own-leads false q = leads q

-- what may follow a name
abbrev TailOf : Lang
TailOf tokens rest = (line : ℕ) (w : List ℕ) → IsName w → ExpressionOf 12 (word w line ∷ tokens) rest

-- and then a parenthesis
abbrev CalledOf : Lang
CalledOf tokens rest = (line : ℕ) (w : List ℕ) → IsName w → (l1 : ℕ) → ExpressionOf 12 (word w line ∷ sign_at sign.OpenParen l1 ∷ tokens) rest

-- or a dot and another name
abbrev MemberOf : Lang
MemberOf tokens rest = (line : ℕ) (w : List ℕ) → IsName w → (l1 l2 : ℕ) (v : List ℕ) → IsName v → ExpressionOf 12 (word w line ∷ sign_at sign.Dot l1 ∷ word v l2 ∷ tokens) rest

abbrev no-tail : Default TailOf
no-tail = record { fix = []; goes = λ r line w free. (Expression.Name line w, free, omega arith, refl) }

module _ (left : ℕ) (inner : Reach → Parser Expr) (inside : Inside left inner) where
  literal-leads : (p : Place) → front p ≡ next.Number → Leads (ExpressionOf 11) p (literal left inner p)
  unfolding literal
  literal-leads p is =
      let here = number-here p is in
      leads-counted p _ (record {
        token = spelling.number here.t here.v here.line;
        rest = here.rest;
        fix = [];
        tokens = here.tokens;
        goes = λ r. (Expression.Number here.line here.t here.v, tt, omega arith, refl);
        no_open = λ same. cc;
      }) (λ q same. leads-map (λ tokens rest found. let (line, t, v, is) = found in (Expression.Number line t v, tt, omega arith, is)) (leads-done (λ value. tree.Number value.0 value.1) (λ _ _. tt) (leads-number q)))

  parenthesized-leads : (p : Place) → front p ≡ next.Sign sign.OpenParen → Leads (ExpressionOf 11) p (parenthesized left inner p)
  unfolding parenthesized
  parenthesized-leads p is =
      leads-map made (leads-opens sign.OpenParen left p _ is (λ q some. leads-then _ (inside Whole q some) (λ whole s _. leads-done (λ _. whole) (λ _ _. tt) (leads-expect sign.CloseParen s)) (a-sign sign.CloseParen))
      (default-chain (a-number 0 (omega arith)) (a-sign sign.CloseParen)))
    where
      made : (tokens rest : List Token) → Chain (SignOf sign.OpenParen) (Chain (ExpressionOf 0) (SignOf sign.CloseParen)) tokens rest → ExpressionOf 11 tokens rest
      made tokens rest c =
          let (l0, is0) = c.first in
          let (s, lawful, level, is1) = c.second.first in
          let (l1, is2) = c.second.second in
          (Expression.Paren (lines_of (l0 ∷ l1 ∷ [])) s, lawful, omega arith, is0 ∙ ap (λ l. sign_at sign.OpenParen l0 ∷ l) (is1 ∙ ap (in_front s) is2))

  prefixed-leads : (s : Sign) (op : Un) → prefix_of s ≡ Some op → next.Sign s ≢ next.Sign sign.OpenParen → (p : Place) → front p ≡ next.Sign s → Leads (ExpressionOf 11) p (prefixed left inner op p)
  unfolding prefixed opened
  prefixed-leads s op means other p is = go left refl
    where
      one : Default (ExpressionOf 11)
      one = a-number 11 (omega arith)

      spelt : (line : ℕ) (tokens rest : List Token) → ExpressionOf 11 tokens rest → ExpressionOf 11 (sign_at s line ∷ tokens) rest
      spelt line tokens rest (e, lawful, level, same) = (Expression.Prefix line s op e, (means, level, lawful), omega arith, ap (λ l. sign_at s line ∷ l) same)

      made : (tokens rest : List Token) → Chain (SignOf s) (ExpressionOf 11) tokens rest → ExpressionOf 11 tokens rest
      made tokens rest c =
          let (line, is0) = c.first in
          subst (λ l. ExpressionOf 11 l rest) (sym is0) (spelt line c.between rest c.second)

      go : (n : ℕ) → left ≡ n → Leads (ExpressionOf 11) p (and_then (opened n p) (λ _. count_node >> (take >> (inner Operand >>= (λ operand. pure (tree.Unary op operand))))))
      go zero same =
          let (line, takes) = sign-takes p s is in
          Part Deep (length p.rest) (sign_at s line ∷ []) one.fix (advance p).rest refl takes.tokens
          (λ r. spelt line (one.fix ++ r) r (one.goes r)) (sym (ap length takes.tokens))
      go (suc n) opens =
          let (line, takes) = sign-takes p s is in
          leads-counted p _ (record {
            token = sign_at s line;
            rest = (advance p).rest;
            fix = one.fix;
            tokens = takes.tokens;
            goes = λ r. spelt line (one.fix ++ r) r (one.goes r);
            no_open = other;
          }) (λ q same. leads-map made (leads-then _ (leads-sign s q (front-of p q same ∙ is)) (λ _ z _. leads-done (tree.Unary op) (λ _ _. tt) (inside Operand z (omega arith))) one))

  conversion-leads : (p : Place) → front p ≡ next.Sign sign.OpenParen → begins_conversion p ≡ true → Leads (ExpressionOf 11) p (conversion left inner p)
  unfolding conversion opened count_node begins_conversion expect sees same_sign front advance
  conversion-leads p is begins = go left refl
    where
      spelt : (line : ℕ) (tokens rest : List Token) → Chain TypeOf (Chain (SignOf sign.CloseParen) (ExpressionOf 11)) tokens rest → ExpressionOf 11 (sign_at sign.OpenParen line ∷ tokens) rest
      spelt line tokens rest c =
          let (l1, t, is1) = c.first in
          let (l2, is2) = c.second.first in
          let (s, lawful, level, is3) = c.second.second in (
            Expression.Convert (lines_of (line ∷ l1 ∷ l2 ∷ [])) t s,
            (level, lawful),
            omega arith,
            ap (λ l. sign_at sign.OpenParen line ∷ l) (is1 ∙ ap (λ l. typed t l1 ∷ l) (is2 ∙ ap (λ l. sign_at sign.CloseParen l2 ∷ l) is3)),
          )

      after_type : Default (Chain (SignOf sign.CloseParen) (ExpressionOf 11))
      after_type = default-chain (a-sign sign.CloseParen) (a-number 11 (omega arith))

      counted : 0 < left → (b : Bool) → Leads (ExpressionOf 11) p (and_then (cond b (Read (tt {0}, record p { nodes = p.nodes + 1 })) (refuse (Many Nodes) p))
          (λ _. expect sign.OpenParen >> (ty >>= (λ to. expect sign.CloseParen >> (inner Operand >>= (λ operand. pure (tree.Cast to operand)))))))
      counted within true =
          let (line, takes) = sign-takes p sign.OpenParen is in
          let q = advance (record p { nodes = p.nodes + 1 }) in
          rw is (leads-prefix (sign_at sign.OpenParen line) p q takes.tokens (spelt line) (leads-then _ (leads-ty q begins) (λ to s _.
          leads-then _ (leads-expect sign.CloseParen s) (λ _ z _. leads-done (tree.Cast to) (λ _ _. tt) (inside Operand z within)) (a-number 11 (omega arith))) after_type))
      counted within false =
          let (line, takes) = sign-takes p sign.OpenParen is in
          let here = type-here (advance p) begins in
          Part (Many Nodes) (length p.rest) (sign_at sign.OpenParen line ∷ typed here.t here.line ∷ []) after_type.fix here.rest refl
          (takes.tokens ∙ ap (λ l. sign_at sign.OpenParen line ∷ l) here.tokens)
          (λ r. spelt line (typed here.t here.line ∷ (after_type.fix ++ r)) r (record { between = after_type.fix ++ r; first = (here.line, here.t, refl); second = after_type.goes r }))
          (inr (sym (ap length (takes.tokens ∙ ap (λ l. sign_at sign.OpenParen line ∷ l) here.tokens))))

      go : (n : ℕ) → left ≡ n → Leads (ExpressionOf 11) p (and_then (opened n p) (λ _. count_node >> (expect sign.OpenParen >> (ty >>= (λ to. expect sign.CloseParen >> (inner Operand >>= (λ operand. pure (tree.Cast to operand))))))))
      go zero same =
          let (line, takes) = sign-takes p sign.OpenParen is in
          Part Deep (length p.rest) (sign_at sign.OpenParen line ∷ []) (typed Int 0 ∷ after_type.fix) (advance p).rest refl takes.tokens
          (λ r. spelt line (typed Int 0 ∷ (after_type.fix ++ r)) r (record { between = after_type.fix ++ r; first = (0, Int, refl); second = after_type.goes r }))
          (sym (ap length takes.tokens))
      go (suc n) opens = counted (omega arith) (nat_lt p.nodes 1024)

  bracketed-leads : (p : Place) → front p ≡ next.Sign sign.OpenParen → Leads (ExpressionOf 11) p (bracketed left inner p)
  unfolding bracketed
  bracketed-leads p is = go (begins_conversion p) refl
    where
      go : (b : Bool) → begins_conversion p ≡ b → Leads (ExpressionOf 11) p (cond b (conversion left inner p) (parenthesized left inner p))
      go true begins = conversion-leads p is begins
      go false begins = parenthesized-leads p is

  -- ---- what begins with a name

  indexed-leads : (first : List ℕ) (p : Place) → front p ≡ next.Sign sign.OpenBracket → Leads TailOf p (indexed left inner first p)
  unfolding indexed
  indexed-leads first p is =
      leads-map made (leads-opens sign.OpenBracket left p _ is (λ q some. leads-then _ (inside Whole q some) (λ place s _. leads-done (λ _. tree.Apply first (place ∷ [])) (λ _ _. tt) (leads-expect sign.CloseBracket s)) (a-sign sign.CloseBracket))
      (default-chain (a-number 0 (omega arith)) (a-sign sign.CloseBracket)))
    where
      made : (tokens rest : List Token) → Chain (SignOf sign.OpenBracket) (Chain (ExpressionOf 0) (SignOf sign.CloseBracket)) tokens rest → TailOf tokens rest
      made tokens rest c =
          let (l1, is1) = c.first in
          let (s, lawful, level, is2) = c.second.first in
          let (l2, is3) = c.second.second in
          λ line w free. (
            Expression.Index (lines_of (line ∷ l1 ∷ l2 ∷ [])) w s,
            (free, lawful),
            omega arith,
            ap (λ l. word w line ∷ l) (is1 ∙ ap (λ l. sign_at sign.OpenBracket l1 ∷ l) (is2 ∙ ap (in_front s) is3)),
          )

  called-leads : (first : List ℕ) (p : Place) → front p ≡ next.Sign sign.OpenParen → Leads TailOf p (called left inner first p)
  unfolding called after
  called-leads first p is = leads-map made (leads-opens sign.OpenParen left p _ is (λ q some. behind some q (sees sign.CloseParen q) refl) (record { fix = sign_at sign.CloseParen 0 ∷ []; goes = λ r. alone 0 r }))
    where
      alone : (l2 : ℕ) (r : List Token) → CalledOf (sign_at sign.CloseParen l2 ∷ r) r
      alone l2 r = λ line w free l1. (Expression.Alone (lines_of (line ∷ l1 ∷ l2 ∷ [])) w, free, omega arith, refl)

      some : (tokens rest : List Token) → Chain ArgumentsOf (SignOf sign.CloseParen) tokens rest → CalledOf tokens rest
      some tokens rest c =
          let (ss, lawful, is2) = c.first in
          let (l2, is3) = c.second in
          λ line w free l1. (
            Expression.Apply (lines_of (line ∷ l1 ∷ l2 ∷ [])) w ss,
            (free, lawful),
            omega arith,
            ap (λ l. word w line ∷ sign_at sign.OpenParen l1 ∷ l) (is2 ∙ ap (arguments_in_front ss) is3),
          )

      behind : 0 < left → (q : Place) (b : Bool) → sees sign.CloseParen q ≡ b
          → Leads CalledOf q (cond {A = Parser Expr} b (λ (z : Place). Read (tree.Apply first [], z)) (λ z. and_then (arguments false (inner Whole) z) (λ found. expect sign.CloseParen >> pure (tree.Apply first found))) (cond b (advance q) q))
      behind within q true is =
          let (l2, takes) = sign-takes q sign.CloseParen (sees-sign q sign.CloseParen is) in
          leading.Whole (tree.Apply first []) (advance q) (sign_at sign.CloseParen l2 ∷ []) refl tt takes.tokens (λ r. alone l2 r)
      behind within q false is =
          leads-map some (leads-then _ (arguments-lead false (inner Whole) (λ z. inside Whole z within) q) (λ found s _. leads-done (λ _. tree.Apply first found) (λ _ _. tt) (leads-expect sign.CloseParen s)) (a-sign sign.CloseParen))

      made : (tokens rest : List Token) → Chain (SignOf sign.OpenParen) CalledOf tokens rest → TailOf tokens rest
      made tokens rest c =
          let (l1, is1) = c.first in
          λ line w free. subst (λ l. ExpressionOf 12 (word w line ∷ l) rest) (sym is1) (c.second line w free l1)

  member-leads : (first : List ℕ) (p : Place) → front p ≡ next.Sign sign.Dot → Leads TailOf p (member left inner first p)
  unfolding member
  member-leads first p is =
      leads-map made (leads-then _ (leads-sign sign.Dot p is) (λ _ q _. leads-then _ (leads-name q) (λ part s _. behind part s (sees sign.OpenParen s) refl) plain) (default-chain (record { fix = word (codes "a") 0 ∷ []; goes = a-name }) plain))
    where
      a-name : (r : List Token) → NameOf (word (codes "a") 0 ∷ r) r
      a-name r = (0, codes "a", is-a, refl)

      plain : Default MemberOf
      plain = record { fix = []; goes = λ r line w free l1 l2 v free'. (Expression.Field (lines_of (line ∷ l1 ∷ l2 ∷ [])) w v, (free, free'), omega arith, refl) }

      method : (tokens rest : List Token) → Chain (SignOf sign.OpenParen) (SignOf sign.CloseParen) tokens rest → MemberOf tokens rest
      method tokens rest c =
          let (l3, is3) = c.first in
          let (l4, is4) = c.second in
          λ line w free l1 l2 v free'. (
            Expression.Method (lines_of (line ∷ l1 ∷ l2 ∷ l3 ∷ l4 ∷ [])) w v,
            (free, free'),
            omega arith,
            ap (λ l. word w line ∷ sign_at sign.Dot l1 ∷ word v l2 ∷ l) (is3 ∙ ap (λ l. sign_at sign.OpenParen l3 ∷ l) is4),
          )

      behind : (part : List ℕ) (q : Place) (b : Bool) → sees sign.OpenParen q ≡ b
          → Leads MemberOf q (cond {A = Parser Expr} b (λ (z : Place). and_then (opened left z) (λ _. take >> (expect sign.CloseParen >> pure (tree.Method first part)))) (λ z. Read (tree.Field first part, z)) q)
      behind part q true is =
          leads-map method (leads-opens sign.OpenParen left q _ (sees-sign q sign.OpenParen is) (λ s _. leads-done (λ _. tree.Method first part) (λ _ _. tt) (leads-expect sign.CloseParen s)) (a-sign sign.CloseParen))
      behind part q false is = leading.Whole (tree.Field first part) q [] refl tt refl plain.goes

      made : (tokens rest : List Token) → Chain (SignOf sign.Dot) (Chain NameOf MemberOf) tokens rest → TailOf tokens rest
      made tokens rest c =
          let (l1, is1) = c.first in
          let (l2, v, free', is2) = c.second.first in
          λ line w free. subst (λ l. ExpressionOf 12 (word w line ∷ l) rest) (sym (is1 ∙ ap (λ l. sign_at sign.Dot l1 ∷ l) is2)) (c.second.second line w free l1 l2 v free')

  named-leads : (p : Place) → front p ≡ next.Name → Leads (ExpressionOf 11) p (named left inner p)
  unfolding named
  named-leads p is =
      let here = name-here p is in
      leads-counted p _ (record {
        token = word here.w here.line;
        rest = here.rest;
        fix = [];
        tokens = here.tokens;
        goes = λ r. (Expression.Name here.line here.w, here.free, omega arith, refl);
        no_open = here.no_open;
      }) (λ q same. leads-map made (leads-then _ (leads-name q) (λ first s _. tail first s (front s) refl) no-tail))
    where
      made : (tokens rest : List Token) → Chain NameOf TailOf tokens rest → ExpressionOf 11 tokens rest
      made tokens rest c =
          let (line, w, free, is) = c.first in
          looser 12 11 (omega arith) tokens rest (subst (λ l. ExpressionOf 12 l rest) (sym is) (c.second line w free))

      tail : (first : List ℕ) (q : Place) (nx : Next) → front q ≡ nx → Leads TailOf q (named_by left inner first nx q)
      tail first q (next.Sign sign.OpenParen) is = called-leads first q is
      tail first q (next.Sign sign.OpenBracket) is = indexed-leads first q is
      tail first q (next.Sign sign.Dot) is = member-leads first q is
      tail first q (next.Sign s) is = leading.Whole (tree.Name first) q [] refl tt refl no-tail.goes
      tail first q other is = leading.Whole (tree.Name first) q [] refl tt refl no-tail.goes

  pub operand-leads : (p : Place) → Leads (ExpressionOf 11) p (operand left inner p)
  unfolding operand
  operand-leads p = go (front p) refl
    where
      lacking : {A : Type 0} → Leads {A = A} (ExpressionOf 11) p (Refused Syntax (length p.rest))
      lacking = leads-lacking (a-number 11 (omega arith)) p (record { token = spelling.number Int (pos 1) 0; more = []; is = refl; no_type = refl })

      go : (nx : Next) → front p ≡ nx → Leads (ExpressionOf 11) p (operand_by left inner nx p)
      go next.Number is = literal-leads p is
      go next.Name is = named-leads p is
      go (next.Sign sign.OpenParen) is = bracketed-leads p is
      go (next.Sign sign.Minus) is = prefixed-leads sign.Minus Neg refl (λ same. cc) p is
      go (next.Sign sign.Tilde) is = prefixed-leads sign.Tilde Inv refl (λ same. cc) p is
      go (next.Sign sign.Not) is = prefixed-leads sign.Not Not refl (λ same. cc) p is
      go (next.Sign s) is = lacking
      go other is = lacking
