-- Lawful spellings of values, targets and assignments are read as far as their marks allow.
use Rattle.std.proofs.Common.{◌≡◌, ℕ, zero, suc, ◌+◌, ◌≤◌, false, List, [], ◌∷◌, ◌++◌, length, Some, refl, ap, arith, append_assoc}
use Rattle.sk_base.specs.declared.number.Op.{Op}
use Rattle.sk_base.specs.declared.number.Ty.{Ty}
use Rattle.sk_grammar.specs.ExpressionSpelling.{Expression, Arguments, in_front, arguments_in_front, tree_in, trees_in, level_in, IsLawful, AreLawful, IsName, TokenLines, sign_at, word}
use Rattle.sk_grammar.specs.Limits.{nodes_in}
use Rattle.sk_grammar.specs.Signs.{Assigns, Plainly, Joining, assigns_of, step_of}
use Rattle.sk_grammar.specs.StatementSpelling as spelling
use Rattle.sk_refusals.specs.Marks.{Marks, mark, own_marks, each_own_marks, target_marks, assignment_marks, simple_marks}
use Rattle.sk_tokens.specs.declared.token.Sign.{Sign}
use Rattle.sk_tokens.specs.declared.token.Sign.TheVariants as sign
use Rattle.sk_tokens.specs.declared.token.Token.{Token}
use Rattle.sk_tree.specs.declared.tree.Expr.{Expr}
use Rattle.sk_tree.specs.declared.tree.What.TheVariants as what
use Rattle.sk_reading.specs.declared.reach.Reach.TheVariants.{Whole, Sum}
use Rattle.sk_reading.specs.declared.update.Update.TheVariants.{Step}
use Rattle.sk_reading.specs.Reading.{Read, front, front_of, advance, sees, after, expect, same_sign}
use Rattle.sk_reading.specs.ReadingExpressions.{choice, chosen, below, arguments, arguments_from, expression}
use Rattle.sk_reading.specs.ReadingAssignments as reading
use Rattle.sk_reading.proofs.Targets.{target_value, assigned-same, old-same}
use Rattle.sk_reading_complete_laws.proofs.expressions.Ends.{Ends}
use Rattle.sk_reading_complete_laws.proofs.statements.Assignments.{update_for, assigns-update, step-update, opens_place, is-update, target-name, target-variable, step-ok, last_nodes}
use Rattle.sk_reading_complete_laws.proofs.statements.Forms.{by-type, not-type}
use Rattle.sk_reading_complete_laws.proofs.Steps.{at, name-ok, ty-ok}
use Rattle.sk_reading_complete_laws.proofs.spelled.Chains.{up_to}
use Rattle.sk_reading_complete_laws.proofs.spelled.Expressions.{judgeable, whole-inside, whole-below}
use Rattle.sk_reading_complete_laws.proofs.spelled.Judged.{Judged, Goes, Here, plain, next, judged-then, judged-trans, renamed, opening}
use Rattle.sk_reading_complete_laws.proofs.spelled.Lengths.{expression-length, each_own-length}
use Rattle.sk_reading_complete_laws.proofs.expressions.Tokens.{longer}

-- ---- expressions of their own

pub value-judged : (s : Expression) → IsLawful s → (left depth : ℕ) (r : List Token) (rest : Marks) → depth + left ≡ 64 → length r ≡ length rest → Ends 11 r → (n i : ℕ)
    → Judged (reading.value left Whole (at (in_front s r) n i)) (Read (tree_in s, at r (nodes_in s) i)) rest (own_marks s depth rest)
unfolding reading.value expression choice chosen
value-judged s lawful left depth r rest within same h n i =
    (judgeable s lawful).whole_judged left depth 0 (nodes_in s) i (length (in_front s r)) [] r rest within (omega arith) same h (omega arith)

pub sum-judged : (s : Expression) → IsLawful s → 9 ≤ level_in s → (left depth : ℕ) (r : List Token) (rest : Marks) → depth + left ≡ 64 → length r ≡ length rest → Ends 2 r → (n i : ℕ)
    → Judged (reading.value left Sum (at (in_front s r) n i)) (Read (tree_in s, at r (nodes_in s) i)) rest (own_marks s depth rest)
unfolding reading.value expression
sum-judged s lawful level left depth r rest within same h n i =
    up_to s (judgeable s lawful) 2 (omega arith) (omega (arith, level)) left depth 0 (nodes_in s) i r rest within (omega arith) same h

pub value_inside-judged : (s : Expression) → IsLawful s → (left inside depth : ℕ) (r : List Token) (rest : Marks) → left ≡ suc inside → depth + left ≡ 64 → length r ≡ length rest → Ends 11 r → (n i : ℕ)
    → Judged (reading.value_inside left (at (in_front s r) n i)) (Read (tree_in s, at r (nodes_in s) i)) rest (own_marks s (suc depth) rest)
unfolding reading.value_inside
value_inside-judged s lawful left inside depth r rest opens within same h n i =
    whole-inside s (judgeable s lawful) left inside depth 0 (nodes_in s) i r rest opens within (omega arith) same h

owns-judged : (ss : Arguments) → AreLawful ss → (left depth line turns : ℕ) (found : List Expr) (r : List Token) (rest : Marks) → depth + left ≡ 64 → length r ≡ length rest → (n i : ℕ)
    → length (arguments_in_front ss (sign_at sign.CloseParen line ∷ r)) ≤ turns
    → Judged (arguments_from (λ p. below (suc left) Whole (record p { nodes = 0 })) turns found (at (arguments_in_front ss (sign_at sign.CloseParen line ∷ r)) n i))
    (Read (found ++ trees_in ss, at (sign_at sign.CloseParen line ∷ r) (last_nodes ss) i)) (mark depth ∷ rest) (each_own_marks ss depth (mark depth ∷ rest))
unfolding arguments_from sees front after advance same_sign
owns-judged (Arguments.Last s) lawful left depth line zero found r rest within same n i enough = absurd (omega (arith, longer s (sign_at sign.CloseParen line ∷ r)))
owns-judged (Arguments.Last s) lawful left depth line (suc turns) found r rest within same n i enough =
    judged-then _ (whole-below s (judgeable s lawful) left depth 0 (nodes_in s) i (sign_at sign.CloseParen line ∷ r) (mark depth ∷ rest) within (omega arith) (omega arith) tt) (Goes refl Here)
owns-judged (Arguments.More s comma ss) lawful left depth line zero found r rest within same n i enough =
    absurd (omega (arith, longer s (sign_at sign.Comma comma ∷ arguments_in_front ss (sign_at sign.CloseParen line ∷ r))))
owns-judged (Arguments.More s comma ss) lawful left depth line (suc turns) found r rest within same n i enough =
    let later = arguments_in_front ss (sign_at sign.CloseParen line ∷ r) in
    let lengths = each_own-length ss depth (sign_at sign.CloseParen line ∷ r) (mark depth ∷ rest) (omega arith) in
    judged-then _ (whole-below s (judgeable s lawful.0) left depth 0 (nodes_in s) i (sign_at sign.Comma comma ∷ later) (mark depth ∷ each_own_marks ss depth (mark depth ∷ rest)) within (omega arith) (omega (arith, lengths)) tt)
    (next (plain depth (omega arith)) (judged-trans (owns-judged ss lawful.1 left depth line turns (found ++ tree_in s ∷ []) r rest within same (nodes_in s) i (omega (arith, longer s (sign_at sign.Comma comma ∷ later))))
    (Goes (ap (λ l. Read (l, at (sign_at sign.CloseParen line ∷ r) (last_nodes ss) i)) (append_assoc found (tree_in s ∷ []) (trees_in ss))) Here)))

places-below : (ss : Arguments) → AreLawful ss → (left depth line : ℕ) (r : List Token) (rest : Marks) → depth + left ≡ 64 → length r ≡ length rest → (n i : ℕ)
    → Judged (reading.places (suc left) (at (arguments_in_front ss (sign_at sign.CloseParen line ∷ r)) n i)) (Read (trees_in ss, at (sign_at sign.CloseParen line ∷ r) (last_nodes ss) i))
    (mark depth ∷ rest) (each_own_marks ss depth (mark depth ∷ rest))
unfolding reading.places arguments
places-below ss lawful left depth line r rest within same n i =
    owns-judged ss lawful left depth line (length (arguments_in_front ss (sign_at sign.CloseParen line ∷ r))) [] r rest within same n i (omega arith)

pub places-judged : (ss : Arguments) → AreLawful ss → (left inside depth line : ℕ) (r : List Token) (rest : Marks) → left ≡ suc inside → depth + left ≡ 64 → length r ≡ length rest → (n i : ℕ)
    → Judged (reading.places left (at (arguments_in_front ss (sign_at sign.CloseParen line ∷ r)) n i)) (Read (trees_in ss, at (sign_at sign.CloseParen line ∷ r) (last_nodes ss) i))
    (mark (suc depth) ∷ rest) (each_own_marks ss (suc depth) (mark (suc depth) ∷ rest))
places-judged ss lawful left inside depth line r rest opens within same n i = rw opens (places-below ss lawful inside (suc depth) line r rest (omega arith) same n i)

-- ---- targets

abbrev pub nodes_behind : spelling.Target → ℕ → ℕ
nodes_behind (spelling.Target.Variable line w) n = n
nodes_behind (spelling.Target.Element lines w ss) n = last_nodes ss
nodes_behind (spelling.Target.Bracketed lines w s) n = nodes_in s

pub target-judged : (t : spelling.Target) → spelling.IsLawfulTarget t → (left depth : ℕ) (r : List Token) (rest : Marks) → depth + left ≡ 64 → length r ≡ length rest → opens_place (front_of r) ≡ false → (n i : ℕ)
    → Judged (reading.target left (at (spelling.target_in_front t r) n i)) (Read (target_value t, at r (nodes_behind t n) i)) rest (target_marks t depth rest)
unfolding reading.target reading.element reading.bracketed front advance expect sees same_sign
target-judged (spelling.Target.Variable line w) free left depth r rest within same h n i =
    next (plain depth (omega arith)) (Goes (rw (name-ok w line r n i free) (target-variable left w (front_of r) (at r n i) h)) Here)
target-judged (spelling.Target.Element lines w ss) lawful left depth r rest within same h n i =
    let k = mark (suc depth) in
    let later = arguments_in_front ss (sign_at sign.CloseParen (lines 2) ∷ r) in
    let lengths = each_own-length ss (suc depth) (sign_at sign.CloseParen (lines 2) ∷ r) (k ∷ rest) (omega arith) in
    rw (name-ok w (lines 0) (sign_at sign.OpenParen (lines 1) ∷ later) n i lawful.0)
    (next (plain depth (omega arith)) (opening _ left depth k (each_own_marks ss (suc depth) (k ∷ rest)) (sign_at sign.OpenParen (lines 1) ∷ later) n i within (omega arith) (omega (arith, lengths)) (λ inside opens deeper.
    next (plain (suc depth) deeper) (judged-then _ (places-judged ss lawful.1 left inside depth (lines 2) r rest opens within same n i) (next (plain (suc depth) deeper) (Goes refl Here))))))
target-judged (spelling.Target.Bracketed lines w s) lawful left depth r rest within same h n i =
    let k = mark (suc depth) in
    let close = sign_at sign.CloseBracket (lines 2) ∷ r in
    let lengths = expression-length s (suc depth) 0 close (k ∷ rest) (omega arith) in
    rw (name-ok w (lines 0) (sign_at sign.OpenBracket (lines 1) ∷ in_front s close) n i lawful.0)
    (next (plain depth (omega arith)) (opening _ left depth k (own_marks s (suc depth) (k ∷ rest)) (sign_at sign.OpenBracket (lines 1) ∷ in_front s close) n i within (omega arith) (omega (arith, lengths)) (λ inside opens deeper.
    next (plain (suc depth) deeper) (judged-then _ (value_inside-judged s lawful.1 left inside depth close (k ∷ rest) opens within (omega arith) tt n i) (next (plain (suc depth) deeper) (Goes refl Here))))))

pub update-judged : (t : spelling.Target) (line : ℕ) (sg : Sign) (how : Assigns) (s : Expression) → assigns_of sg ≡ Some how → IsLawful s
    → (left depth : ℕ) (r : List Token) (rest : Marks) → depth + left ≡ 64 → length r ≡ length rest → Ends 11 r → (n i : ℕ)
    → Judged (reading.update left (target_value t) (at (sign_at sg line ∷ in_front s r) n i))
    (Read (spelling.assigned t (spelling.new_value how (spelling.old_value t) (tree_in s)), at r (nodes_in s) i)) rest (mark depth ∷ own_marks s depth rest)
unfolding reading.update reading.joined_value front advance
update-judged t line sg Plainly s is lawful left depth r rest within same h n i =
    rw (assigns-update sg Plainly is) (next (plain depth (omega arith)) (judged-then _ (value-judged s lawful left depth r rest within same h n i)
    (Goes (ap (λ d. Read (d, at r (nodes_in s) i)) (assigned-same t (tree_in s))) Here)))
update-judged t line sg (Joining op) s is lawful left depth r rest within same h n i =
    rw (assigns-update sg (Joining op) is) (next (plain depth (omega arith)) (judged-then _ (value-judged s lawful left depth r rest within same h n i)
    (Goes (rw (old-same t) (ap (λ d. Read (d, at r (nodes_in s) i)) (assigned-same t (spelling.new_value (Joining op) (spelling.old_value t) (tree_in s))))) Here)))

pub step-judged : (t : spelling.Target) (line : ℕ) (sg : Sign) (op : Op) → step_of sg ≡ Some op → (left depth : ℕ) (r : List Token) (rest : Marks) → depth + left ≡ 64 → (n i : ℕ)
    → Judged (reading.update left (target_value t) (at (sign_at sg line ∷ r) n i))
    (Read (spelling.assigned t (spelling.new_value (Joining op) (spelling.old_value t) spelling.one), at r n i)) rest (mark depth ∷ rest)
step-judged t line sg op is left depth r rest within n i = next (plain depth (omega arith)) (Goes (step-ok t line sg op is left r n i) Here)

-- ---- assignments

abbrev pub assignment_nodes : spelling.Assignment → ℕ → ℕ
assignment_nodes (spelling.Assignment.Assign t line sg how s) n = nodes_in s
assignment_nodes (spelling.Assignment.StepAfter t line sg op) n = nodes_behind t n
assignment_nodes (spelling.Assignment.StepBefore line sg op t) n = nodes_behind t n

pub assignment-judged : (a : spelling.Assignment) → spelling.IsLawfulAssignment a → (left depth : ℕ) (r : List Token) (rest : Marks) → depth + left ≡ 64 → length r ≡ length rest → Ends 11 r
    → opens_place (front_of r) ≡ false → (n i : ℕ)
    → Judged (reading.assignment left (at (spelling.assignment_in_front a r) n i)) (Read (spelling.assignment_tree a, at r (assignment_nodes a n) i)) rest (assignment_marks a depth rest)
unfolding reading.assignment front advance
assignment-judged (spelling.Assignment.Assign t line sg how s) lawful left depth r rest within same h h' n i =
    let update = is-update sg (update_for how) (assigns-update sg how lawful.1) in
    let behind = sign_at sg line ∷ in_front s r in
    rw (target-name t lawful.0 behind)
    (judged-then _ (target-judged t lawful.0 left depth behind (mark depth ∷ own_marks s depth rest) within (omega (arith, expression-length s depth 0 r rest same)) update.place n i)
    (update-judged t line sg how s lawful.1 lawful.2 left depth r rest within same h (nodes_behind t n) i))
assignment-judged (spelling.Assignment.StepAfter t line sg op) lawful left depth r rest within same h h' n i =
    let update = is-update sg (Step op) (step-update sg op lawful.1) in
    rw (target-name t lawful.0 (sign_at sg line ∷ r))
    (judged-then _ (target-judged t lawful.0 left depth (sign_at sg line ∷ r) (mark depth ∷ rest) within (omega arith) update.place n i)
    (step-judged t line sg op lawful.1 left depth r rest within (nodes_behind t n) i))
assignment-judged (spelling.Assignment.StepBefore line sg op t) lawful left depth r rest within same h h' n i =
    rw lawful.0 (next (plain depth (omega arith)) (judged-then _ (target-judged t lawful.1 left depth r rest within same h' n i)
    (Goes (rw (old-same t) (ap (λ d. Read (d, at r (nodes_behind t n) i)) (assigned-same t (spelling.new_value (Joining op) (spelling.old_value t) spelling.one)))) Here)))

-- ---- declarations

pub declaration-judged : (lines : TokenLines) (t : Ty) (w : List ℕ) (s : Expression) → IsName w → IsLawful s → (left depth : ℕ) (r : List Token) (rest : Marks) → depth + left ≡ 64 → length r ≡ length rest
    → Ends 11 r → (n i : ℕ)
    → Judged (reading.declaration left (at (spelling.simple_in_front (spelling.Simple.Declare lines t w s) r) n i)) (Read (what.Declare t w (tree_in s), at r (nodes_in s) i)) rest
    (simple_marks (spelling.Simple.Declare lines t w s) depth rest)
unfolding reading.declaration front advance expect sees same_sign
declaration-judged lines t w s free lawful left depth r rest within same h n i =
    rw (ty-ok t (lines 0) (word w (lines 1) ∷ sign_at sign.Eq (lines 2) ∷ in_front s r) n i)
    (rw (name-ok w (lines 1) (sign_at sign.Eq (lines 2) ∷ in_front s r) n i free)
    (next (plain depth (omega arith)) (next (plain depth (omega arith)) (next (plain depth (omega arith)) (judged-then _ (value-judged s lawful left depth r rest within same h n i) (Goes refl Here))))))

abbrev pub simple_nodes : spelling.Simple → ℕ → ℕ
simple_nodes (spelling.Simple.Declare lines t w s) n = nodes_in s
simple_nodes (spelling.Simple.Assigning a) n = assignment_nodes a n

pub simple-judged : (s : spelling.Simple) → spelling.IsLawfulSimple s → (left depth : ℕ) (r : List Token) (rest : Marks) → depth + left ≡ 64 → length r ≡ length rest → Ends 11 r
    → opens_place (front_of r) ≡ false → (n i : ℕ)
    → Judged (reading.simple left (at (spelling.simple_in_front s r) n i)) (Read (spelling.simple_tree s, at r (simple_nodes s n) i)) rest (simple_marks s depth rest)
unfolding reading.simple front
simple-judged (spelling.Simple.Declare lines t w s) lawful left depth r rest within same h h' n i =
    let tokens = spelling.simple_in_front (spelling.Simple.Declare lines t w s) r in
    renamed (by-type t (lines 0) left (at tokens n i) tokens refl) (declaration-judged lines t w s lawful.0 lawful.1 left depth r rest within same h n i)
simple-judged (spelling.Simple.Assigning a) lawful left depth r rest within same h h' n i =
    renamed (not-type left a lawful r (at (spelling.assignment_in_front a r) n i)) (assignment-judged a lawful left depth r rest within same h h' n i)
