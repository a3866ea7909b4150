-- Lawful spellings of statements are read as far as their marks allow.
use Rattle.std.proofs.Common.{◌≡◌, ℕ, zero, suc, ◌+◌, ◌≤◌, List, [], ◌∷◌, ◌++◌, length, codes, refl, ap, sym, ◌∙◌, arith, append_assoc, append-nil}
use Rattle.sk_base.specs.declared.number.Op.{Op}
use Rattle.sk_base.specs.declared.number.Ty.{Ty}
use Rattle.sk_grammar.specs.ExpressionSpelling.{Expression, in_front, tree_in, IsLawful, IsName, TokenLines, sign_at, word, typed}
use Rattle.sk_grammar.specs.Limits.{written_instances, branch_instances, otherwise_instances, block_instances, instances_in, nodes_in}
use Rattle.sk_grammar.specs.Signs.{Assigns}
use Rattle.sk_grammar.specs.StatementSpelling
use Rattle.sk_grammar.specs.StatementSpelling.{Written, Branch, Otherwise, Block, Statements, Simple, Assignment, Target, at_line, written_in_front, branch_in_front, otherwise_in_front, block_in_front, statements_in_front, written_tree, branch_tree, otherwise_tree, block_tree, statements_tree, IsLawfulStatement, IsLawfulBranch, IsLawfulOtherwise, IsLawfulBlock, AreLawfulStatements}
use Rattle.sk_refusals.specs.Marks.{Marks, mark, own_marks, simple_marks, assignment_marks, written_marks, branch_marks, otherwise_marks, block_marks, statements_marks}
use Rattle.sk_tokens.specs.declared.token.Sign.{Sign}
use Rattle.sk_tokens.specs.declared.token.Sign.TheVariants as sign
use Rattle.sk_tokens.specs.declared.token.Token.{Token}
use Rattle.sk_tree.specs.declared.tree.Statement.{Statement}
use Rattle.sk_tree.specs.declared.tree.What.{What}
use Rattle.sk_tree.specs.declared.tree.What.TheVariants as what
use Rattle.sk_reading.specs.declared.head.Head.{Head}
use Rattle.sk_reading.specs.declared.part.Part.TheVariants as part
use Rattle.sk_reading.specs.declared.update.Update.TheVariants.{Step}
use Rattle.sk_reading.specs.Reading.{Read, and_then, keyword_of, front, front_of, word_next, advance, sees, sees_keyword, expect, same_sign, same_keyword, line_of, front_line}
use Rattle.sk_reading.specs.ReadingForms as forms
use Rattle.sk_reading.specs.ReadingStatements as reading
use Rattle.sk_reading.proofs.Targets.{target-line}
use Rattle.sk_reading_complete_laws.proofs.statements.Assignments.{update_for, is-update, assigns-update, step-update, target-name, last_nodes}
use Rattle.sk_reading_complete_laws.proofs.statements.Blocks.{part-inside, no-else, block-first}
use Rattle.sk_reading_complete_laws.proofs.statements.Short.{NoElse, IsShort, name-short, same_number, declares, typed-short, second-not-dot, make-short, auto-short, std-short, return-short}
use Rattle.sk_reading_complete_laws.proofs.statements.Tokens.{begins, written_longer}
use Rattle.sk_reading_complete_laws.proofs.Steps.{at, keyword-none}
use Rattle.sk_reading_complete_laws.proofs.spelled.Assignments.{value-judged, value_inside-judged, nodes_behind, target-judged, update-judged, step-judged, assignment_nodes, assignment-judged, declaration-judged, simple_nodes, simple-judged}
use Rattle.sk_reading_complete_laws.proofs.spelled.Forms.{JudgesBegun, ended-judged, make-judged, take-judged, instance-judged, return-judged, call-judged, set_value-judged, set_overlap-judged, set_mode-judged, print-judged}
use Rattle.sk_reading_complete_laws.proofs.spelled.Judged.{Judged, Goes, Here, plain, next, judged-then, judged-trans, renamed, opening, opening_by}
use Rattle.sk_reading_complete_laws.proofs.spelled.Lengths.{expression-length, assignment-length, simple-length, branch-length, otherwise-length, block-length, statements-length}

abbrev pub JudgesStatement : Written → Type 0
JudgesStatement w = (left depth n i j : ℕ) (r : List Token) (rest : Marks) → depth + left ≡ 64 → i + written_instances w ≡ j → length r ≡ length rest → NoElse r
    → (m : ℕ) × Judged (reading.statement left (reading.part_below left) (at (written_in_front w r) n i)) (Read (written_tree w, at r m j)) rest (written_marks w depth i rest)

abbrev pub JudgesBlock : Block → Type 0
JudgesBlock b = (left depth n i j : ℕ) (r : List Token) (rest : Marks) → depth + left ≡ 64 → i + block_instances b ≡ j → length r ≡ length rest
    → (m : ℕ) × Judged (reading.block left (reading.part_below left) (at (block_in_front b r) n i)) (Read (block_tree b, at r m j)) rest (block_marks b depth i rest)

abbrev JudgesBranch : Branch → Type 0
JudgesBranch b = (left depth line n i j : ℕ) (r : List Token) (rest : Marks) → depth + left ≡ 64 → i + branch_instances b ≡ j → length r ≡ length rest → NoElse r
    → (m : ℕ) × Judged (reading.branch left (reading.part_below left) (at (word (codes "if") line ∷ branch_in_front b r) n i)) (Read (branch_tree b, at r m j)) rest (mark depth ∷ branch_marks b depth i rest)

abbrev JudgesOtherwise : Otherwise → Type 0
JudgesOtherwise o = (left depth n i j : ℕ) (r : List Token) (rest : Marks) → depth + left ≡ 64 → i + otherwise_instances o ≡ j → length r ≡ length rest → NoElse r
    → (m : ℕ) × Judged (reading.otherwise left (reading.part_below left) (at (otherwise_in_front o r) n i)) (Read (otherwise_tree o, at r m j)) rest (otherwise_marks o depth i rest)

abbrev JudgesStatements : Statements → Type 0
JudgesStatements ss = (left depth line turns n i j : ℕ) (found : List Statement) (r : List Token) (rest : Marks) → depth + left ≡ 64 → i + instances_in ss ≡ j → length r ≡ length rest
    → length (statements_in_front ss (sign_at sign.CloseBrace line ∷ r)) ≤ turns
    → (m : ℕ) × Judged (reading.statements_from left (reading.part_below left) turns found (at (statements_in_front ss (sign_at sign.CloseBrace line ∷ r)) n i))
    (Read (found ++ statements_tree ss, at (sign_at sign.CloseBrace line ∷ r) m j)) (mark depth ∷ rest) (statements_marks ss depth i (mark depth ∷ rest))

-- ---- statements that end with `;`

short-judged : (left line : ℕ) (does : What) (tokens : List Token) (n i m j : ℕ) (r : List Token) (rest from : Marks) → IsShort (front_of tokens) → line_of tokens ≡ line
    → Judged (forms.short left (at tokens n i)) (Read (does, at r m j)) rest from
    → Judged (reading.statement left (reading.part_below left) (at tokens n i)) (Read (at_line line does, at r m j)) rest from
unfolding reading.statement reading.doing front_line front
short-judged left line does tokens n i m j r rest from short is-line judged =
    renamed (ap (λ o. and_then o (λ d q. Read (at_line (line_of tokens) d, q))) (short left (line_of tokens) (at tokens n i)))
    (judged-then _ judged (Goes (ap (λ l. Read (at_line l does, at r m j)) is-line) Here))

assign-judged : (t : Target) (line : ℕ) (sg : Sign) (how : Assigns) (s : Expression) (line' : ℕ) → StatementSpelling.IsLawfulAssignment (Assignment.Assign t line sg how s)
    → (left depth : ℕ) (r : List Token) (rest : Marks) → depth + left ≡ 64 → length r ≡ length rest → (n i : ℕ)
    → JudgesBegun (StatementSpelling.assignment_tree (Assignment.Assign t line sg how s)) left depth (nodes_in s) i
    (StatementSpelling.assignment_in_front (Assignment.Assign t line sg how s) (sign_at sign.Semi line' ∷ r)) n i line' r rest
    (assignment_marks (Assignment.Assign t line sg how s) depth (mark depth ∷ rest))
unfolding forms.begun forms.by_name forms.begins_setting forms.used front advance sees
assign-judged t line sg how s line' lawful left depth r rest within same n i =
    let update = is-update sg (update_for how) (assigns-update sg how lawful.1) in
    let end = sign_at sign.Semi line' ∷ r in
    let behind = sign_at sg line ∷ in_front s end in
    rw (target-name t lawful.0 behind) (rw (second-not-dot t sg line (in_front s end) update)
    (judged-then _ (target-judged t lawful.0 left depth behind (mark depth ∷ own_marks s depth (mark depth ∷ rest)) within (omega (arith, expression-length s depth 0 end (mark depth ∷ rest) (omega arith))) update.place n i)
    (rw update.semi (update-judged t line sg how s lawful.1 lawful.2 left depth end (mark depth ∷ rest) within (omega arith) tt (nodes_behind t n) i))))

step_after-judged : (t : Target) (line : ℕ) (sg : Sign) (operator : Op) (line' : ℕ) → StatementSpelling.IsLawfulAssignment (Assignment.StepAfter t line sg operator)
    → (left depth : ℕ) (r : List Token) (rest : Marks) → depth + left ≡ 64 → length r ≡ length rest → (n i : ℕ)
    → JudgesBegun (StatementSpelling.assignment_tree (Assignment.StepAfter t line sg operator)) left depth (nodes_behind t n) i
    (StatementSpelling.assignment_in_front (Assignment.StepAfter t line sg operator) (sign_at sign.Semi line' ∷ r)) n i line' r rest
    (assignment_marks (Assignment.StepAfter t line sg operator) depth (mark depth ∷ rest))
unfolding forms.begun forms.by_name forms.begins_setting forms.used front advance sees
step_after-judged t line sg operator line' lawful left depth r rest within same n i =
    let update = is-update sg (Step operator) (step-update sg operator lawful.1) in
    let end = sign_at sign.Semi line' ∷ r in
    rw (target-name t lawful.0 (sign_at sg line ∷ end)) (rw (second-not-dot t sg line end update)
    (judged-then _ (target-judged t lawful.0 left depth (sign_at sg line ∷ end) (mark depth ∷ mark depth ∷ rest) within (omega arith) update.place n i)
    (rw update.semi (step-judged t line sg operator lawful.1 left depth end (mark depth ∷ rest) within (nodes_behind t n) i))))

declare-judged : (lines : TokenLines) (t : Ty) (w : List ℕ) (s : Expression) (line : ℕ) → IsName w → IsLawful s
    → (left depth : ℕ) (r : List Token) (rest : Marks) → depth + left ≡ 64 → length r ≡ length rest → (n i : ℕ)
    → JudgesBegun (what.Declare t w (tree_in s)) left depth (nodes_in s) i (StatementSpelling.simple_in_front (Simple.Declare lines t w s) (sign_at sign.Semi line ∷ r)) n i line r rest
    (simple_marks (Simple.Declare lines t w s) depth (mark depth ∷ rest))
unfolding forms.begun front
declare-judged lines t w s line free lawful left depth r rest within same n i =
    let end = sign_at sign.Semi line ∷ r in
    let later = word w (lines 1) ∷ sign_at sign.Eq (lines 2) ∷ in_front s end in
    renamed (declares t (lines 0) left later (at (typed t (lines 0) ∷ later) n i)) (declaration-judged lines t w s free lawful left depth end (mark depth ∷ rest) within (omega arith) tt n i)

before-judged : (line : ℕ) (sg : Sign) (operator : Op) (t : Target) (line' : ℕ) → StatementSpelling.IsLawfulAssignment (Assignment.StepBefore line sg operator t)
    → (left depth : ℕ) (r : List Token) (rest : Marks) → depth + left ≡ 64 → length r ≡ length rest → (n i : ℕ)
    → JudgesBegun (StatementSpelling.assignment_tree (Assignment.StepBefore line sg operator t)) left depth (nodes_behind t n) i
    (StatementSpelling.assignment_in_front (Assignment.StepBefore line sg operator t) (sign_at sign.Semi line' ∷ r)) n i line' r rest
    (assignment_marks (Assignment.StepBefore line sg operator t) depth (mark depth ∷ rest))
unfolding forms.begun front
before-judged line sg operator t line' lawful left depth r rest within same n i =
    assignment-judged (Assignment.StepBefore line sg operator t) lawful left depth (sign_at sign.Semi line' ∷ r) (mark depth ∷ rest) within (omega arith) tt refl n i

-- a short statement that counts no instance
plain-judged : (w : Written) (line : ℕ) → ((r : List Token) → IsShort (front_of (written_in_front w r))) → ((r : List Token) → line_of (written_in_front w r) ≡ (written_tree w).line)
    → written_instances w ≡ 0
    → ((left depth : ℕ) (r : List Token) (rest : Marks) → depth + left ≡ 64 → length r ≡ length rest → (n i : ℕ)
    → (m : ℕ) × JudgesBegun (written_tree w).what left depth m i (written_in_front w r) n i line r rest (written_marks w depth i rest))
    → JudgesStatement w
plain-judged w line short is-line none judges left depth n i j r rest within sum same h =
    let (m, judged) = judges left depth r rest within same n i in
    let counts : i ≡ j = omega (arith, none, sum) in (
      m,
      judged-trans (short-judged left (written_tree w).line (written_tree w).what (written_in_front w r) n i m i r rest (written_marks w depth i rest) (short r) (is-line r)
          (ended-judged (written_tree w).what left depth m i (written_in_front w r) n i line r rest (written_marks w depth i rest) (omega arith) judged))
          (Goes (ap (λ k. Read (written_tree w, at r m k)) counts) Here),
    )

name-first : (w : List ℕ) → IsName w → IsShort (word_next (keyword_of w))
name-first w free = name-short (word_next (keyword_of w)) (ap word_next (keyword-none w free))

simply-judged : (s : Simple) (line : ℕ) → StatementSpelling.IsLawfulSimple s → JudgesStatement (Written.Simply s line)
simply-judged (Simple.Declare lines t w s) line lawful =
    plain-judged (Written.Simply (Simple.Declare lines t w s) line) line (λ r. typed-short t (lines 0) (word w (lines 1) ∷ sign_at sign.Eq (lines 2) ∷ in_front s (sign_at sign.Semi line ∷ r))) (λ r. refl) refl
    (λ left depth r rest within same n i. (nodes_in s, declare-judged lines t w s line lawful.0 lawful.1 left depth r rest within same n i))
simply-judged (Simple.Assigning (Assignment.Assign t line' sg how s)) line lawful =
    plain-judged (Written.Simply (Simple.Assigning (Assignment.Assign t line' sg how s)) line) line
    (λ r. name-short _ (target-name t lawful.0 (sign_at sg line' ∷ in_front s (sign_at sign.Semi line ∷ r)))) (λ r. target-line t (sign_at sg line' ∷ in_front s (sign_at sign.Semi line ∷ r))) refl
    (λ left depth r rest within same n i. (nodes_in s, assign-judged t line' sg how s line lawful left depth r rest within same n i))
simply-judged (Simple.Assigning (Assignment.StepAfter t line' sg operator)) line lawful =
    plain-judged (Written.Simply (Simple.Assigning (Assignment.StepAfter t line' sg operator)) line) line
    (λ r. name-short _ (target-name t lawful.0 (sign_at sg line' ∷ sign_at sign.Semi line ∷ r))) (λ r. target-line t (sign_at sg line' ∷ sign_at sign.Semi line ∷ r)) refl
    (λ left depth r rest within same n i. (nodes_behind t n, step_after-judged t line' sg operator line lawful left depth r rest within same n i))
simply-judged (Simple.Assigning (Assignment.StepBefore line' sg operator t)) line lawful =
    plain-judged (Written.Simply (Simple.Assigning (Assignment.StepBefore line' sg operator t)) line) line (λ r left of p. refl) (λ r. refl) refl
    (λ left depth r rest within same n i. (nodes_behind t n, before-judged line' sg operator t line lawful left depth r rest within same n i))

-- ---- blocks

braces-judged : (lines : TokenLines) (ss : Statements) → JudgesStatements ss → JudgesBlock (Block.Braces lines ss)
unfolding reading.block front advance sees expect same_sign
braces-judged lines ss judges zero depth n i j r rest within sum same =
    let behind = mark (suc depth) ∷ rest in
    let inner = statements_in_front ss (sign_at sign.CloseBrace (lines 1) ∷ r) in (
      n,
      opening_by sign.OpenBrace _ zero depth (mark (suc depth)) (statements_marks ss (suc depth) i behind) (lines 0) inner n i refl within (omega arith)
          (omega (arith, statements-length ss (suc depth) i (sign_at sign.CloseBrace (lines 1) ∷ r) behind (omega arith))) (λ inside opens deeper. absurd (omega arith)),
    )
braces-judged lines ss judges (suc left) depth n i j r rest within sum same =
    let behind = mark (suc depth) ∷ rest in
    let inner = statements_in_front ss (sign_at sign.CloseBrace (lines 1) ∷ r) in
    let (m, judged) = judges left (suc depth) (lines 1) (length inner) n i j [] r rest (omega arith) sum same (omega arith) in (
      m,
      opening_by sign.OpenBrace _ (suc left) depth (mark (suc depth)) (statements_marks ss (suc depth) i behind) (lines 0) inner n i refl within (omega arith)
          (omega (arith, statements-length ss (suc depth) i (sign_at sign.CloseBrace (lines 1) ∷ r) behind (omega arith))) (λ inside opens deeper.
          next (plain (suc depth) deeper) (judged-then _ (renamed (part-inside left part.Statements (at inner n i)) judged) (next (plain (suc depth) deeper) (Goes refl Here)))),
    )

done-judged : JudgesStatements Statements.Done
unfolding reading.statements_from front sees same_sign
done-judged left depth line zero n i j found r rest within sum same enough = absurd (omega arith)
done-judged left depth line (suc turns) n i j found r rest within sum same enough =
    (n, Goes (ap (λ l. Read (l, at (sign_at sign.CloseBrace line ∷ r) n i)) (sym (append-nil found)) ∙ ap (λ k. Read (found ++ [], at (sign_at sign.CloseBrace line ∷ r) n k)) (same_number i j sum)) Here)

then-judged : (w : Written) (ss : Statements) → IsLawfulStatement w → AreLawfulStatements ss → JudgesStatement w → JudgesStatements ss → JudgesStatements (Statements.Then w ss)
unfolding reading.statements_from front sees
then-judged w ss lawful others judges judge-others left depth line zero n i j found r rest within sum same enough =
    absurd (omega (arith, written_longer w (statements_in_front ss (sign_at sign.CloseBrace line ∷ r)) lawful))
then-judged w ss lawful others judges judge-others left depth line (suc turns) n i j found r rest within sum same enough =
    let end = sign_at sign.CloseBrace line ∷ r in
    let later = statements_in_front ss end in
    let k = i + written_instances w in
    let behind = statements_marks ss depth k (mark depth ∷ rest) in
    let (m, judged) = judges left depth n i k later behind within refl (statements-length ss depth k end (mark depth ∷ rest) (omega arith)) (no-else ss others line r) in
    let (m', more) = judge-others left depth line turns m k j (found ++ written_tree w ∷ []) r rest within (omega (arith, sum)) same (omega (arith, written_longer w later lawful)) in (
      m',
      rw (begins w later lawful).0 (judged-then _ judged (judged-trans more
          (Goes (ap (λ l. Read (l, at end m' j)) (append_assoc found (written_tree w ∷ []) (statements_tree ss))) Here))),
    )

-- ---- branches and loops

nothing-judged : JudgesOtherwise Otherwise.Nothing
unfolding reading.otherwise front sees_keyword
nothing-judged left depth n i j r rest within sum same h = (n, rw h (Goes (ap (λ k. Read ([], at r n k)) (same_number i j sum)) Here))

else-judged : (line : ℕ) (b : Block) → JudgesBlock b → JudgesOtherwise (Otherwise.Else line b)
unfolding reading.otherwise reading.other_branch front advance sees_keyword same_keyword keyword_of
else-judged line b judges left depth n i j r rest within sum same h =
    let (m, judged) = judges left depth n i j r rest within sum same in (m, rw (block-first b r) (next (plain depth (omega arith)) judged))

else_if-judged : (lines : TokenLines) (b : Branch) → JudgesBranch b → JudgesOtherwise (Otherwise.ElseIf lines b)
unfolding reading.otherwise reading.other_branch reading.alone front_line front advance sees_keyword same_keyword keyword_of
else_if-judged lines b judges zero depth n i j r rest within sum same h = (
  n,
  next (plain depth (omega arith)) (opening _ zero depth (mark (suc depth)) (branch_marks b (suc depth) i rest) (word (codes "if") (lines 1) ∷ branch_in_front b r) n i within (omega arith)
      (omega (arith, branch-length b (suc depth) i r rest same)) (λ inside opens deeper. absurd (omega arith))),
)
else_if-judged lines b judges (suc left) depth n i j r rest within sum same h =
    let tokens = word (codes "if") (lines 1) ∷ branch_in_front b r in
    let (m, judged) = judges left (suc depth) (lines 1) n i j r rest (omega arith) sum same h in (
      m,
      next (plain depth (omega arith)) (opening _ (suc left) depth (mark (suc depth)) (branch_marks b (suc depth) i rest) tokens n i within (omega arith)
          (omega (arith, branch-length b (suc depth) i r rest same)) (λ inside opens deeper.
          renamed (part-inside left part.Branch (at tokens n i)) (judged-then _ judged (Goes refl Here)))),
    )

test-judged : (lines : TokenLines) (s : Expression) (b : Block) (o : Otherwise) → IsLawful s → JudgesBlock b → JudgesOtherwise o → JudgesBranch (Branch.Test lines s b o)
unfolding reading.branch front advance sees expect same_sign
test-judged lines s b o lawful judge-block judge-other left depth line n i j r rest within sum same h =
    let inner = mark (suc depth) in
    let k = i + block_instances b in
    let others = otherwise_marks o depth k rest in
    let blocks = block_marks b depth i others in
    let later = sign_at sign.CloseParen (lines 1) ∷ block_in_front b (otherwise_in_front o r) in
    let few = otherwise-length o depth k r rest same in
    let lengths = block-length b depth i (otherwise_in_front o r) others few in
    let (m, first) = judge-block left depth (nodes_in s) i k (otherwise_in_front o r) others within refl few in
    let (m', second) = judge-other left depth m k j r rest within (omega (arith, sum)) same h in (
      m',
      next (plain depth (omega arith)) (opening_by sign.OpenParen _ left depth inner (own_marks s (suc depth) (inner ∷ blocks)) (lines 0) (in_front s later) n i refl within (omega arith)
          (omega (arith, expression-length s (suc depth) 0 later (inner ∷ blocks) (omega (arith, lengths)))) (λ inside opens deeper.
          next (plain (suc depth) deeper) (judged-then _ (value_inside-judged s lawful left inside depth later (inner ∷ blocks) opens within (omega (arith, lengths)) tt n i)
          (next (plain (suc depth) deeper) (judged-then _ first (judged-then _ second (Goes refl Here))))))),
    )

if-judged : (line : ℕ) (b : Branch) → JudgesBranch b → JudgesStatement (Written.If line b)
unfolding reading.statement reading.doing front_line front keyword_of
if-judged line b judges left depth n i j r rest within sum same h =
    let (m, judged) = judges left depth line n i j r rest within sum same h in (m, judged-then _ judged (Goes refl Here))

abbrev head-of : TokenLines → Simple → Expression → Assignment → Head
head-of lines first test step = record { first = at_line (lines 0) (StatementSpelling.simple_tree first); test = tree_in test; step = at_line (lines 0) (StatementSpelling.assignment_tree step) }

head-below : (lines : TokenLines) (first : Simple) (test : Expression) (step : Assignment) → StatementSpelling.IsLawfulSimple first → IsLawful test → StatementSpelling.IsLawfulAssignment step
    → (left depth : ℕ) (r : List Token) (rest : Marks) → depth + left ≡ 64 → length r ≡ length rest → (n i : ℕ)
    → Judged (reading.head left (lines 0) (at (StatementSpelling.simple_in_front first (sign_at sign.Semi (lines 2) ∷ in_front test (sign_at sign.Semi (lines 3)
    ∷ StatementSpelling.assignment_in_front step (sign_at sign.CloseParen (lines 4) ∷ r)))) n i))
    (Read (head-of lines first test step, at (sign_at sign.CloseParen (lines 4) ∷ r) (assignment_nodes step (nodes_in test)) i)) (mark depth ∷ rest)
    (simple_marks first depth (mark depth ∷ own_marks test depth (mark depth ∷ assignment_marks step depth (mark depth ∷ rest))))
unfolding reading.head front advance sees expect same_sign
head-below lines first test step lawful lawful' lawful'' left depth r rest within same n i =
    let close = sign_at sign.CloseParen (lines 4) ∷ r in
    let steps = assignment-length step depth close (mark depth ∷ rest) (omega arith) in
    let after_test = sign_at sign.Semi (lines 3) ∷ StatementSpelling.assignment_in_front step close in
    let marked = mark depth ∷ assignment_marks step depth (mark depth ∷ rest) in
    let tests = expression-length test depth 0 after_test marked (omega (arith, steps)) in
    judged-then _ (simple-judged first lawful left depth (sign_at sign.Semi (lines 2) ∷ in_front test after_test) (mark depth ∷ own_marks test depth marked) within (omega (arith, tests)) tt refl n i)
    (next (plain depth (omega arith)) (judged-then _ (value-judged test lawful' left depth after_test marked within (omega (arith, steps)) tt (simple_nodes first n) i)
    (next (plain depth (omega arith)) (judged-then _ (assignment-judged step lawful'' left depth close (mark depth ∷ rest) within (omega arith) tt refl (nodes_in test) i) (Goes refl Here)))))

head-judged : (lines : TokenLines) (first : Simple) (test : Expression) (step : Assignment) → StatementSpelling.IsLawfulSimple first → IsLawful test → StatementSpelling.IsLawfulAssignment step
    → (left inside depth : ℕ) (r : List Token) (rest : Marks) → left ≡ suc inside → depth + left ≡ 64 → length r ≡ length rest → (n i : ℕ)
    → Judged (reading.head_inside left (lines 0) (at (StatementSpelling.simple_in_front first (sign_at sign.Semi (lines 2) ∷ in_front test (sign_at sign.Semi (lines 3)
    ∷ StatementSpelling.assignment_in_front step (sign_at sign.CloseParen (lines 4) ∷ r)))) n i))
    (Read (head-of lines first test step, at (sign_at sign.CloseParen (lines 4) ∷ r) (assignment_nodes step (nodes_in test)) i)) (mark (suc depth) ∷ rest)
    (simple_marks first (suc depth) (mark (suc depth) ∷ own_marks test (suc depth) (mark (suc depth) ∷ assignment_marks step (suc depth) (mark (suc depth) ∷ rest))))
head-judged lines first test step lawful lawful' lawful'' left inside depth r rest opens within same n i =
    rw opens (head-below lines first test step lawful lawful' lawful'' inside (suc depth) r rest (omega arith) same n i)

for-judged : (lines : TokenLines) (first : Simple) (test : Expression) (step : Assignment) (b : Block) → StatementSpelling.IsLawfulSimple first → IsLawful test
    → StatementSpelling.IsLawfulAssignment step → JudgesBlock b → JudgesStatement (Written.For lines first test step b)
unfolding reading.statement reading.doing front_line reading.turned front keyword_of advance sees expect same_sign
for-judged lines first test step b lawful lawful' lawful'' judges left depth n i j r rest within sum same h =
    let inner = mark (suc depth) in
    let blocks = block_marks b depth i rest in
    let lengths = block-length b depth i r rest same in
    let close = sign_at sign.CloseParen (lines 4) ∷ block_in_front b r in
    let steps = assignment-length step (suc depth) close (inner ∷ blocks) (omega (arith, lengths)) in
    let after_test = sign_at sign.Semi (lines 3) ∷ StatementSpelling.assignment_in_front step close in
    let stepped = inner ∷ assignment_marks step (suc depth) (inner ∷ blocks) in
    let tests = expression-length test (suc depth) 0 after_test stepped (omega (arith, steps)) in
    let after_first = sign_at sign.Semi (lines 2) ∷ in_front test after_test in
    let tested = inner ∷ own_marks test (suc depth) stepped in
    let (m, judged) = judges left depth (assignment_nodes step (nodes_in test)) i j r rest within sum same in (
      m,
      next (plain depth (omega arith)) (judged-then _ (opening_by sign.OpenParen _ left depth inner (simple_marks first (suc depth) tested) (lines 1) (StatementSpelling.simple_in_front first after_first) n i refl within (omega arith)
          (omega (arith, simple-length first (suc depth) after_first tested (omega (arith, tests)))) (λ inside opens deeper.
          next (plain (suc depth) deeper) (judged-then _ (head-judged lines first test step lawful lawful' lawful'' left inside depth (block_in_front b r) blocks opens within lengths n i)
          (next (plain (suc depth) deeper) (judged-then _ judged (Goes refl Here)))))) (Goes refl Here)),
    )

mutual
  pub statement-judged : (w : Written) → IsLawfulStatement w → JudgesStatement w
  statement-judged (Written.Simply s line) lawful = simply-judged s line lawful
  statement-judged (Written.Make lines k sizes t w ss) lawful =
      plain-judged (Written.Make lines k sizes t w ss) (lines 9) (λ r. make-short) (λ r. refl) refl
      (λ left depth r rest within same n i. (last_nodes ss, make-judged lines k sizes t w ss lawful.0 lawful.1 lawful.2 left depth r rest within same n i))
  statement-judged (Written.Take lines k sizes t w input) lawful =
      plain-judged (Written.Take lines k sizes t w input) (lines 12) (λ r. make-short) (λ r. refl) refl
      (λ left depth r rest within same n i. (n, take-judged lines k sizes t w input lawful.0 lawful.1 left depth r rest within same n i))
  statement-judged (Written.Instantiate lines w k skeleton ns fs) lawful = λ left depth n i j r rest within sum same h.
      let s = Written.Instantiate lines w k skeleton ns fs in
      let counts : suc i ≡ j = omega (arith, sum) in (
        n,
        judged-trans (short-judged left (lines 0) (written_tree s).what (written_in_front s r) n i n (suc i) r rest (written_marks s depth i rest) auto-short refl
            (ended-judged (written_tree s).what left depth n (suc i) (written_in_front s r) n i (lines 8) r rest (written_marks s depth i rest) (omega arith)
            (instance-judged lines w k skeleton ns fs lawful.0 lawful.1 lawful.2 lawful.3 lawful.4 left depth r rest within same n i)))
            (Goes (ap (λ z. Read (written_tree s, at r n z)) counts) Here),
      )
  statement-judged (Written.SetValue lines w k sets s) lawful =
      plain-judged (Written.SetValue lines w k sets s) (lines 5) (λ r. name-first w lawful.0) (λ r. refl) refl
      (λ left depth r rest within same n i. (nodes_in s, set_value-judged lines w k sets s lawful.0 lawful.1 lawful.2 left depth r rest within same n i))
  statement-judged (Written.SetOverlap lines w ss) lawful =
      plain-judged (Written.SetOverlap lines w ss) (lines 5) (λ r. name-first w lawful.0) (λ r. refl) refl
      (λ left depth r rest within same n i. (last_nodes ss, set_overlap-judged lines w ss lawful.0 lawful.1 left depth r rest within same n i))
  statement-judged (Written.SetMode lines w k family mode made) lawful =
      plain-judged (Written.SetMode lines w k family mode made) (lines 10) (λ r. name-first w lawful.0) (λ r. refl) refl
      (λ left depth r rest within same n i. (n, set_mode-judged lines w k family mode made lawful.0 lawful.1 lawful.2 left depth r rest within same n i))
  statement-judged (Written.Call lines w ss) lawful =
      plain-judged (Written.Call lines w ss) (lines 3) (λ r. name-first w lawful.0) (λ r. refl) refl
      (λ left depth r rest within same n i. (last_nodes ss, call-judged lines w ss lawful.0 lawful.1 left depth r rest within same n i))
  statement-judged (Written.Print lines l) lawful =
      plain-judged (Written.Print lines l) (lines 3) (λ r. std-short) (λ r. refl) refl
      (λ left depth r rest within same n i. print-judged lines l lawful.0 lawful.1 left depth r rest within same n i)
  statement-judged (Written.Return lines s) lawful =
      plain-judged (Written.Return lines s) (lines 1) (λ r. return-short) (λ r. refl) refl
      (λ left depth r rest within same n i. (nodes_in s, return-judged lines s lawful left depth r rest within same n i))
  statement-judged (Written.If line b) lawful = if-judged line b (branch-judged b lawful)
  statement-judged (Written.For lines first test step b) lawful = for-judged lines first test step b lawful.0 lawful.1 lawful.2 (block-judged b lawful.3)

  branch-judged : (b : Branch) → IsLawfulBranch b → JudgesBranch b
  branch-judged (Branch.Test lines s b o) lawful = test-judged lines s b o lawful.0 (block-judged b lawful.1) (otherwise-judged o lawful.2)

  otherwise-judged : (o : Otherwise) → IsLawfulOtherwise o → JudgesOtherwise o
  otherwise-judged Otherwise.Nothing lawful = nothing-judged
  otherwise-judged (Otherwise.Else line b) lawful = else-judged line b (block-judged b lawful)
  otherwise-judged (Otherwise.ElseIf lines b) lawful = else_if-judged lines b (branch-judged b lawful)

  pub block-judged : (b : Block) → IsLawfulBlock b → JudgesBlock b
  block-judged (Block.Braces lines ss) lawful = braces-judged lines ss (statements-judged ss lawful)

  statements-judged : (ss : Statements) → AreLawfulStatements ss → JudgesStatements ss
  statements-judged Statements.Done lawful = done-judged
  statements-judged (Statements.Then w ss) lawful = then-judged w ss lawful.0 lawful.1 (statement-judged w lawful.0) (statements-judged ss lawful.1)
