-- What reading statements leads to.
use Rattle.std.proofs.Common.{◌≡◌, ℕ, zero, suc, ◌<◌, Bool, true, false, cond, List, [], ◌∷◌, ◌++◌, length, pos, codes, refl, ap, sym, subst, ◌∙◌, arith}
use Rattle.sk_base.specs.declared.number.Ty.TheVariants.{Int}
use Rattle.sk_grammar.specs.ExpressionSpelling as expressions
use Rattle.sk_grammar.specs.ExpressionSpelling.{Expression, in_front, sign_at, word}
use Rattle.sk_grammar.specs.StatementSpelling as spelling
use Rattle.sk_grammar.specs.StatementSpelling.{Written, Branch, Otherwise, Block, Statements, at_line, written_in_front, branch_in_front, otherwise_in_front, block_in_front, statements_in_front, IsLawfulBranch, IsLawfulOtherwise, IsLawfulBlock, AreLawfulStatements}
use Rattle.sk_refusals.specs.declared.refusal.Refusal.TheVariants.{Deep}
use Rattle.sk_tokens.specs.declared.token.Sign.TheVariants as sign
use Rattle.sk_tokens.specs.declared.token.Token.{Token}
use Rattle.sk_tree.specs.declared.tree.Statement.{Statement}
use Rattle.sk_tree.specs.declared.tree.What.TheVariants as what
use Rattle.sk_reading.specs.declared.head.Head.{Head}
use Rattle.sk_reading.specs.declared.keyword.Keyword.TheVariants as key
use Rattle.sk_reading.specs.declared.next.Next.{Next}
use Rattle.sk_reading.specs.declared.next.Next.TheVariants as next
use Rattle.sk_reading.specs.declared.part.Part.{Part}
use Rattle.sk_reading.specs.declared.part.Part.TheVariants as kinds
use Rattle.sk_reading.specs.declared.reach.Reach.TheVariants.{Whole}
use Rattle.sk_reading.specs.Reading.{Place, Read, Parser, and_then, ◌>>◌, front, front_line, advance, sees, sees_keyword, opened, keyword_of}
use Rattle.sk_reading.specs.ReadingStatements.{head, head_inside, block, other_branch, otherwise, branch, turned, statement_by, doing, statement, statements_from, alone, part, part_below}
use Rattle.sk_reading_sound_laws.proofs.Steps.{lines_of, keyword-takes, sees-keyword}
use Rattle.sk_refusal_laws.proofs.viable.Leads as leading
use Rattle.sk_refusal_laws.proofs.viable.Leads.{Lang, Chain, SignOf, KeywordOf, LeadsTo, Leads, Default, Fresh, default-chain, leads-then, leads-map, leads-done, leads-lacking}
use Rattle.sk_refusal_laws.proofs.viable.Assignments.{SimpleOf, AssignmentOf, an-update, value-leads, value_inside-leads, assignment-leads, simple-leads}
use Rattle.sk_refusal_laws.proofs.viable.Begun.{short-leads}
use Rattle.sk_refusal_laws.proofs.viable.Forms.{WrittenOf}
use Rattle.sk_refusal_laws.proofs.viable.Operands.{ExpressionOf, a-number, a-sign}
use Rattle.sk_refusal_laws.proofs.viable.Tokens.{leads-expect, leads-taken, leads-opens_by, leads-prefix, is-a}

abbrev pub StatementsOf : Lang
StatementsOf tokens rest = (ss : Statements) × AreLawfulStatements ss × (tokens ≡ statements_in_front ss rest)

abbrev pub BlockOf : Lang
BlockOf tokens rest = (b : Block) × IsLawfulBlock b × (tokens ≡ block_in_front b rest)

abbrev OtherwiseOf : Lang
OtherwiseOf tokens rest = (o : Otherwise) × IsLawfulOtherwise o × (tokens ≡ otherwise_in_front o rest)

-- behind `if`
abbrev TestOf : Lang
TestOf = Chain (SignOf sign.OpenParen) (Chain (ExpressionOf 0) (Chain (SignOf sign.CloseParen) (Chain BlockOf OtherwiseOf)))

abbrev BranchOf : Lang
BranchOf tokens rest = (line : ℕ) × (b : Branch) × IsLawfulBranch b × (tokens ≡ word (codes "if") line ∷ branch_in_front b rest)

test-branch : (tokens rest : List Token) → TestOf tokens rest → (b : Branch) × IsLawfulBranch b × (tokens ≡ branch_in_front b rest)
test-branch tokens rest c =
    let (l0, is0) = c.first in
    let (s, lawful, level, is1) = c.second.first in
    let (l1, is2) = c.second.second.first in
    let (b, lawful', is3) = c.second.second.second.first in
    let (o, lawful'', is4) = c.second.second.second.second in (
      Branch.Test (lines_of (l0 ∷ l1 ∷ [])) s b o,
      (lawful, lawful', lawful''),
      is0 ∙ ap (λ l. sign_at sign.OpenParen l0 ∷ l) (is1 ∙ ap (in_front s) (is2 ∙ ap (λ l. sign_at sign.CloseParen l1 ∷ l) (is3 ∙ ap (block_in_front b) is4))),
    )

abbrev pub a-block : Default BlockOf
a-block = record { fix = sign_at sign.OpenBrace 0 ∷ sign_at sign.CloseBrace 0 ∷ []; goes = λ r. (Block.Braces (lines_of (0 ∷ 0 ∷ [])) Statements.Done, tt, refl) }

abbrev nothing-else : Default OtherwiseOf
nothing-else = record { fix = []; goes = λ r. (Otherwise.Nothing, tt, refl) }

abbrev behind-test : Default (Chain (SignOf sign.CloseParen) (Chain BlockOf OtherwiseOf))
behind-test = default-chain (a-sign sign.CloseParen) (default-chain a-block nothing-else)

abbrev a-test : Default TestOf
a-test = default-chain (a-sign sign.OpenParen) (default-chain (a-number 0 (omega arith)) behind-test)

if-branch : (line : ℕ) (tokens rest : List Token) → TestOf tokens rest → BranchOf (word (codes "if") line ∷ tokens) rest
if-branch line tokens rest c = let (b, lawful, is) = test-branch tokens rest c in (line, b, lawful, ap (λ l. word (codes "if") line ∷ l) is)

abbrev PartOf : Part → Lang
PartOf kinds.Statements = StatementsOf
PartOf kinds.Branch = BranchOf

abbrev Starts : Part → Place → Type 0
Starts kinds.Statements p = Unit {0}
Starts kinds.Branch p = front p ≡ next.Keyword key.If

abbrev InsidePart : (left : ℕ) → (Part → Parser (List Statement)) → Type 0
InsidePart left inner = (kind : Part) (p : Place) → 0 < left → Starts kind p → Leads (PartOf kind) p (inner kind p)

abbrev no-statements : Default StatementsOf
no-statements = record { fix = []; goes = λ r. (Statements.Done, tt, refl) }

abbrev HeadOf : Lang
HeadOf = Chain SimpleOf (Chain (SignOf sign.Semi) (Chain (ExpressionOf 0) (Chain (SignOf sign.Semi) AssignmentOf)))

abbrev pub an-assignment : Default AssignmentOf
an-assignment = record { fix = word (codes "a") 0 ∷ an-update.fix; goes = λ r. an-update.goes r (word (codes "a") 0 ∷ (an-update.fix ++ r)) (spelling.Target.Variable 0 (codes "a"), is-a, refl) }

abbrev a-simple : Default SimpleOf
a-simple = record { fix = an-assignment.fix; goes = λ r. let (a, lawful, is) = an-assignment.goes r in (spelling.Simple.Assigning a, lawful, is) }

abbrev a-step : Default (Chain (SignOf sign.Semi) AssignmentOf)
a-step = default-chain (a-sign sign.Semi) an-assignment

head-leads : (left of : ℕ) (p : Place) → Leads HeadOf p (head left of p)
unfolding head
head-leads left of p =
    leads-then _ (simple-leads left p) (λ first q _. leads-then _ (leads-expect sign.Semi q) (λ _ s _. leads-then _ (value-leads left Whole s) (λ test z _. leads-then _ (leads-expect sign.Semi z) (λ _ u _.
    leads-done (λ step. let made : Head = record { first = at_line of first; test = test; step = at_line of step } in made) (λ _ _. tt) (assignment-leads left u)) an-assignment) a-step)
    (default-chain (a-number 0 (omega arith)) a-step)) (default-chain (a-sign sign.Semi) (default-chain (a-number 0 (omega arith)) a-step))

head_inside-leads : (left of : ℕ) (p : Place) → 0 < left → Leads HeadOf p (head_inside left of p)
head_inside-leads zero of p some = absurd (omega arith)
head_inside-leads (suc left) of p some = head-leads left of p

abbrev a-head : Default HeadOf
a-head = default-chain a-simple (default-chain (a-sign sign.Semi) (default-chain (a-number 0 (omega arith)) a-step))

module _ (left : ℕ) (inner : Part → Parser (List Statement)) (inside : InsidePart left inner) where
  pub block-leads : (p : Place) → Leads BlockOf p (block left inner p)
  unfolding block
  block-leads p =
      leads-map made (leads-opens_by sign.OpenBrace left p _ (λ q some. leads-then _ (inside kinds.Statements q some tt) (λ found s _. leads-done (λ _. found) (λ _ _. tt) (leads-expect sign.CloseBrace s)) (a-sign sign.CloseBrace))
      (default-chain no-statements (a-sign sign.CloseBrace)))
    where
      made : (tokens rest : List Token) → Chain (SignOf sign.OpenBrace) (Chain StatementsOf (SignOf sign.CloseBrace)) tokens rest → BlockOf tokens rest
      made tokens rest c =
          let (l0, is0) = c.first in
          let (ss, lawful, is1) = c.second.first in
          let (l1, is2) = c.second.second in
          (Block.Braces (lines_of (l0 ∷ l1 ∷ [])) ss, lawful, is0 ∙ ap (λ l. sign_at sign.OpenBrace l0 ∷ l) (is1 ∙ ap (statements_in_front ss) is2))

  inner-branch : (p : Place) → front p ≡ next.Keyword key.If → Leads BranchOf p (and_then (opened left p) (λ _. inner kinds.Branch))
  unfolding opened
  inner-branch p is = go left refl
    where
      go : (n : ℕ) → left ≡ n → Leads BranchOf p (and_then (opened n p) (λ _. inner kinds.Branch))
      go zero same =
          let (line, takes) = keyword-takes p key.If is in
          leading.Part Deep (length p.rest) (word (codes "if") line ∷ []) a-test.fix (advance p).rest refl takes.tokens (λ r. if-branch line (a-test.fix ++ r) r (a-test.goes r)) (sym (ap length takes.tokens))
      go (suc n) same = inside kinds.Branch p (omega arith) is

  -- behind `else`
  abbrev ElseOf : Lang
  ElseOf tokens rest = (line : ℕ) → OtherwiseOf (word (codes "else") line ∷ tokens) rest

  else-block : (tokens rest : List Token) → BlockOf tokens rest → ElseOf tokens rest
  else-block tokens rest (b, lawful, is) = λ line. (Otherwise.Else line b, lawful, ap (λ l. word (codes "else") line ∷ l) is)

  else-branch : (tokens rest : List Token) → BranchOf tokens rest → ElseOf tokens rest
  else-branch tokens rest (l1, b, lawful, is) = λ line. (Otherwise.ElseIf (lines_of (line ∷ l1 ∷ [])) b, lawful, ap (λ l. word (codes "else") line ∷ l) is)

  other_branch-leads : (p : Place) → front p ≡ next.Keyword key.Else → Leads OtherwiseOf p (other_branch left inner p)
  unfolding other_branch
  other_branch-leads p is =
      leads-map (λ tokens rest c. let (line, is0) = c.first in subst (λ l. OtherwiseOf l rest) (sym is0) (c.second line))
      (leads-then _ (leads-taken key.Else p is) (λ _ q _. go q (sees_keyword key.If q) refl) (record { fix = a-block.fix; goes = λ r. else-block (a-block.fix ++ r) r (a-block.goes r) }))
    where
      go : (q : Place) (b : Bool) → sees_keyword key.If q ≡ b → Leads ElseOf q (cond b ((opened left >> inner kinds.Branch) q) (block left inner q))
      go q true sees = leads-map else-branch (inner-branch q (sees-keyword q key.If sees))
      go q false sees = leads-map else-block (block-leads q)

  otherwise-leads : (p : Place) → Leads OtherwiseOf p (otherwise left inner p)
  unfolding otherwise
  otherwise-leads p = go (sees_keyword key.Else p) refl
    where
      go : (b : Bool) → sees_keyword key.Else p ≡ b → Leads OtherwiseOf p (cond b (other_branch left inner p) (Read ([], p)))
      go true sees = other_branch-leads p (sees-keyword p key.Else sees)
      go false sees = leading.Whole [] p [] refl tt refl nothing-else.goes

  branch-leads : (p : Place) → front p ≡ next.Keyword key.If → Leads BranchOf p (branch left inner p)
  unfolding branch
  branch-leads p is =
      let (line, takes) = keyword-takes p key.If is in
      leads-prefix (word (codes "if") line) p (advance p) takes.tokens (if-branch line) (leads-opens_by sign.OpenParen left (advance p) _ (λ q some. leads-then _ (value_inside-leads left q some) (λ test s _.
      leads-then _ (leads-expect sign.CloseParen s) (λ _ z _. leads-then _ (block-leads z) (λ then_block u _. leads-done (what.If test then_block) (λ _ _. tt) (otherwise-leads u)) nothing-else)
      (default-chain a-block nothing-else)) behind-test) (default-chain (a-number 0 (omega arith)) behind-test))

  turned-leads : (of : ℕ) (p : Place) → front p ≡ next.Keyword key.For → Leads WrittenOf p (turned left inner of p)
  unfolding turned
  turned-leads of p is =
      leads-map made (leads-then _ (leads-taken key.For p is) (λ _ q _. leads-opens_by sign.OpenParen left q _ (λ s some. leads-then _ (head_inside-leads left of s some) (λ found z _. leads-then _ (leads-expect sign.CloseParen z)
      (λ _ u _. leads-done (what.For found.first found.test found.step) (λ _ _. tt) (block-leads u)) a-block) (default-chain (a-sign sign.CloseParen) a-block))
      (default-chain a-head (default-chain (a-sign sign.CloseParen) a-block))) (default-chain (a-sign sign.OpenParen) (default-chain a-head (default-chain (a-sign sign.CloseParen) a-block))))
    where
      made : (tokens rest : List Token) → Chain (KeywordOf key.For) (Chain (SignOf sign.OpenParen) (Chain HeadOf (Chain (SignOf sign.CloseParen) BlockOf))) tokens rest → WrittenOf tokens rest
      made tokens rest c =
          let (l0, is0) = c.first in
          let (l1, is1) = c.second.first in
          let h = c.second.second.first in
          let (first, lawful1, is2) = h.first in
          let (l2, is3) = h.second.first in
          let (test, lawful2, level, is4) = h.second.second.first in
          let (l3, is5) = h.second.second.second.first in
          let (step, lawful3, is6) = h.second.second.second.second in
          let (l4, is7) = c.second.second.second.first in
          let (b, lawful4, is8) = c.second.second.second.second in (
            Written.For (lines_of (l0 ∷ l1 ∷ l2 ∷ l3 ∷ l4 ∷ [])) first test step b,
            (lawful1, lawful2, lawful3, lawful4),
            is0 ∙ ap (λ l. word (codes "for") l0 ∷ l) (is1 ∙ ap (λ l. sign_at sign.OpenParen l1 ∷ l) (is2 ∙ ap (spelling.simple_in_front first) (is3 ∙ ap (λ l. sign_at sign.Semi l2 ∷ l) (is4 ∙ ap (in_front test)
                (is5 ∙ ap (λ l. sign_at sign.Semi l3 ∷ l) (is6 ∙ ap (spelling.assignment_in_front step) (is7 ∙ ap (λ l. sign_at sign.CloseParen l4 ∷ l) is8))))))),
          )

  statement-leads : (p : Place) → Leads WrittenOf p (statement left inner p)
  unfolding statement doing
  statement-leads p = leads-done (at_line (front_line p)) (λ _ _. tt) (go (front p) refl)
    where
      go : (nx : Next) → front p ≡ nx → Leads WrittenOf p (statement_by left inner (front_line p) nx p)
      go (next.Keyword key.If) is = leads-map (λ tokens rest found. let (line, b, lawful, same) = found in (Written.If line b, lawful, same)) (branch-leads p is)
      go (next.Keyword key.For) is = turned-leads (front_line p) p is
      go (next.Keyword k) is = short-leads left p
      go other is = short-leads left p

  abbrev a-result : Default StatementsOf
  a-result = record { fix = word (codes "return") 0 ∷ expressions.number Int (pos 1) 0 ∷ sign_at sign.Semi 0 ∷ []; goes = λ r. (Statements.Then (Written.Return (lines_of (0 ∷ 0 ∷ [])) (Expression.Number 0 Int (pos 1))) Statements.Done, (tt, tt), refl) }

  result-fresh : Fresh (word (codes "return") 0 ∷ expressions.number Int (pos 1) 0 ∷ sign_at sign.Semi 0 ∷ [])
  unfolding keyword_of
  result-fresh = record { token = word (codes "return") 0; more = _; is = refl; no_type = refl }

  statements-lead : (turns : ℕ) (found : List Statement) (p : Place) → Leads StatementsOf p (statements_from left inner turns found p)
  unfolding statements_from
  statements-lead zero found p = leads-lacking a-result p result-fresh
  statements-lead (suc turns) found p = go (sees sign.CloseBrace p) (λ made q. statements-lead turns (found ++ made ∷ []) q)
    where
      go : (b : Bool) → ((made : Statement) (q : Place) → Leads StatementsOf q (statements_from left inner turns (found ++ made ∷ []) q))
          → Leads StatementsOf p (cond b (Read (found, p)) (and_then (statement left inner p) (λ made. statements_from left inner turns (found ++ made ∷ []))))
      go true later = leading.Whole found p [] refl tt refl no-statements.goes
      go false later =
          leads-map (λ tokens rest c. let (w, lawful, is) = c.first in let (ss, others, same) = c.second in (Statements.Then w ss, (lawful, others), is ∙ ap (written_in_front w) same))
          (leads-then _ (statement-leads p) (λ made q _. later made q) no-statements)

  part-leads : (kind : Part) (p : Place) → Starts kind p → Leads (PartOf kind) p (part left inner kind p)
  unfolding alone
  part-leads kinds.Statements p starts = statements-lead (length p.rest) [] p
  part-leads kinds.Branch p starts = leads-done (λ does. at_line (front_line p) does ∷ []) (λ _ _. tt) (branch-leads p starts)

pub part_below-leads : (left : ℕ) → InsidePart left (part_below left)
unfolding part_below
part_below-leads zero kind p some starts = absurd (omega arith)
part_below-leads (suc left) kind p some starts = part-leads left (part_below left) (part_below-leads left) kind p starts
