-- Each lawful spelling of an expression is read as far as its marks allow: by cases.
use Rattle.std.proofs.Common.{◌≡◌, ℕ, zero, suc, ◌+◌, ◌-◌, ◌<◌, ◌≤◌, List, [], ◌∷◌, ◌++◌, length, ℤ, Some, refl, ap, sym, ◌∙◌, arith, append_assoc}
use Rattle.sk_base.specs.declared.number.Ty.{Ty}
use Rattle.sk_grammar.specs.ExpressionSpelling.{Expression, Arguments, in_front, arguments_in_front, tree_in, trees_in, level_in, IsLawful, AreLawful, IsName, TokenLines, joined, sign_at, word}
use Rattle.sk_grammar.specs.Limits.{nodes_in, nodes_of}
use Rattle.sk_grammar.specs.Signs.{infix_of, infix_level, prefix_of}
use Rattle.sk_grammar.specs.declared.infix.Infix.{Infix}
use Rattle.sk_refusals.specs.Marks.{Mark, Marks, mark, node, expression_marks, arguments_marks}
use Rattle.sk_tokens.specs.declared.token.Sign.{Sign}
use Rattle.sk_tokens.specs.declared.token.Sign.TheVariants as sign
use Rattle.sk_tokens.specs.declared.token.Token.{Token}
use Rattle.sk_tree.specs.declared.tree.Expr.{Expr}
use Rattle.sk_tree.specs.declared.tree.Expr.TheVariants as tree
use Rattle.sk_tree.specs.declared.tree.Un.{Un}
use Rattle.sk_reading.specs.declared.next.Next.TheVariants as next_is
use Rattle.sk_reading.specs.declared.reach.Reach.TheVariants.{Whole, Operand}
use Rattle.sk_reading.specs.Reading.{Read, and_then, ◌>>=◌, front, front_of, advance, sees, after, expect, same_sign, opened}
use Rattle.sk_reading.specs.ReadingExpressions.{opened_by_expression, operand, literal, named, member, called, indexed, bracketed, begins_conversion, conversion, parenthesized, prefixed, more, operators, chosen, choice_from, choice, below, arguments, arguments_from}
use Rattle.sk_reading_complete_laws.proofs.expressions.Ends.{continues, EndsBefore, Ends, continues_infix, infix_here, not_open, named_ends}
use Rattle.sk_reading_complete_laws.proofs.expressions.Starts.{starts, arguments_start, starts-not_close, starts-not_type, typed-is_type, prefix-by, level-least, level-most}
use Rattle.sk_reading_complete_laws.proofs.Steps.{at, keyword-none, name-ok, number-ok, ty-ok}
use Rattle.sk_reading_complete_laws.proofs.spelled.Chains.{JudgesOperand, JudgesUpTo, JudgesChain, JudgesWhole, JudgesArguments, Judgeable, chain_stops, up_to, chains_up, whole_above, tight}
use Rattle.sk_reading_complete_laws.proofs.spelled.Judged.{Judged, Goes, Here, plain, next, judged-then, judged-trans, renamed, remarked, counted, opening}
use Rattle.sk_reading_complete_laws.proofs.spelled.Lengths.{expression-length, arguments-length}
use Rattle.sk_reading_complete_laws.proofs.expressions.Tokens.{longer}

pub whole-below : (s : Expression) → Judgeable s → (left depth n m i : ℕ) (r : List Token) (rest : Marks) → depth + left ≡ 64 → n + nodes_in s ≡ m → length r ≡ length rest → Ends 11 r
    → Judged (below (suc left) Whole (at (in_front s r) n i)) (Read (tree_in s, at r m i)) rest (expression_marks s depth n rest)
unfolding below choice chosen
whole-below s is left depth n m i r rest within sum same h = is.whole_judged left depth n m i (length (in_front s r)) [] r rest within sum same h (omega arith)

operand-below : (s : Expression) → Judgeable s → 11 ≤ level_in s → (left depth n m i : ℕ) (r : List Token) (rest : Marks) → depth + left ≡ 64 → n + nodes_in s ≡ m → length r ≡ length rest → Ends 0 r
    → Judged (below (suc left) Operand (at (in_front s r) n i)) (Read (tree_in s, at r m i)) rest (expression_marks s depth n rest)
unfolding below
operand-below s is level left depth n m i r rest within sum same h = is.operand_judged level left depth n m i r rest within sum same h

-- inside of what is opened
pub whole-inside : (s : Expression) → Judgeable s → (left inside depth n m i : ℕ) (r : List Token) (rest : Marks) → left ≡ suc inside → depth + left ≡ 64 → n + nodes_in s ≡ m → length r ≡ length rest → Ends 11 r
    → Judged (below left Whole (at (in_front s r) n i)) (Read (tree_in s, at r m i)) rest (expression_marks s (suc depth) n rest)
whole-inside s is left inside depth n m i r rest opens within sum same h =
    rw opens (whole-below s is inside (suc depth) n m i r rest (omega arith) sum same h)

operand-inside : (s : Expression) → Judgeable s → 11 ≤ level_in s → (left inside depth n m i : ℕ) (r : List Token) (rest : Marks) → left ≡ suc inside → depth + left ≡ 64 → n + nodes_in s ≡ m
    → length r ≡ length rest → Ends 0 r → Judged (below left Operand (at (in_front s r) n i)) (Read (tree_in s, at r m i)) rest (expression_marks s (suc depth) n rest)
operand-inside s is level left inside depth n m i r rest opens within sum same h =
    rw opens (operand-below s is level inside (suc depth) n m i r rest (omega arith) sum same h)

arguments-inside : (ss : Arguments) → JudgesArguments ss → (left inside depth n m i line : ℕ) (r : List Token) (rest : Marks) → left ≡ suc inside → depth + left ≡ 64 → n + nodes_of ss ≡ m
    → length r ≡ length rest
    → Judged (arguments_from (below left Whole) (length (arguments_in_front ss (sign_at sign.CloseParen line ∷ r))) [] (at (arguments_in_front ss (sign_at sign.CloseParen line ∷ r)) n i))
    (Read (trees_in ss, at (sign_at sign.CloseParen line ∷ r) m i)) (mark (suc depth) ∷ rest) (arguments_marks ss (suc depth) n (mark (suc depth) ∷ rest))
arguments-inside ss judges left inside depth n m i line r rest opens within sum same =
    rw opens (judges inside (suc depth) n m i line (length (arguments_in_front ss (sign_at sign.CloseParen line ∷ r))) [] r rest (omega arith) sum same (omega arith))

number-judged : (line : ℕ) (t : Ty) (v : ℤ) → JudgesOperand (Expression.Number line t v)
unfolding operand literal front
number-judged line t v left depth n m i r rest within sum same h =
    counted _ depth n i (in_front (Expression.Number line t v) r) rest (omega arith) (omega arith) (λ fine.
    next fine (Goes (rw (number-ok t v line r (suc n) i) (let e : suc n ≡ m = omega arith in ap (λ k. Read (tree.Number t v, at r k i)) e)) Here))

name-judged : (line : ℕ) (w : List ℕ) → IsName w → JudgesOperand (Expression.Name line w)
unfolding operand named front
name-judged line w free left depth n m i r rest within sum same h =
    rw (keyword-none w free) (counted _ depth n i (in_front (Expression.Name line w) r) rest (omega arith) (omega arith) (λ fine.
    rw (name-ok w line r (suc n) i free) (next fine (Goes (named_ends left (below left) w 0 (front_of r) h (at r (suc n) i) ∙ (let e : suc n ≡ m = omega arith in ap (λ k. Read (tree.Name w, at r k i)) e)) Here))))

field-judged : (lines : TokenLines) (w v : List ℕ) → IsName w → IsName v → JudgesOperand (Expression.Field lines w v)
unfolding operand named member front advance sees
field-judged lines w v free free' left depth n m i r rest within sum same h =
    rw (keyword-none w free) (counted _ depth n i (in_front (Expression.Field lines w v) r) (mark depth ∷ mark depth ∷ rest) (omega arith) (omega arith) (λ fine.
    rw (name-ok w (lines 0) (sign_at sign.Dot (lines 1) ∷ word v (lines 2) ∷ r) (suc n) i free)
    (rw (name-ok v (lines 2) r (suc n) i free') (rw (not_open 0 (front_of r) h)
    (next fine (next (plain depth (omega arith)) (next (plain depth (omega arith)) (Goes (let e : suc n ≡ m = omega arith in ap (λ k. Read (tree.Field w v, at r k i)) e) Here))))))))

method-judged : (lines : TokenLines) (w v : List ℕ) → IsName w → IsName v → JudgesOperand (Expression.Method lines w v)
unfolding operand named member front advance sees expect same_sign
method-judged lines w v free free' left depth n m i r rest within sum same h =
    let k = mark (suc depth) in
    let opened_at = sign_at sign.OpenParen (lines 3) ∷ sign_at sign.CloseParen (lines 4) ∷ r in
    rw (keyword-none w free) (counted _ depth n i (in_front (Expression.Method lines w v) r) (mark depth ∷ mark depth ∷ k ∷ k ∷ rest) (omega arith) (omega arith) (λ fine.
    rw (name-ok w (lines 0) (sign_at sign.Dot (lines 1) ∷ word v (lines 2) ∷ opened_at) (suc n) i free) (rw (name-ok v (lines 2) opened_at (suc n) i free')
    (next fine (next (plain depth (omega arith)) (next (plain depth (omega arith)) (opening _ left depth k (k ∷ rest) opened_at (suc n) i within (omega arith) (omega arith) (λ inside opens deeper.
    next (plain (suc depth) deeper) (next (plain (suc depth) deeper) (Goes (let e : suc n ≡ m = omega arith in ap (λ z. Read (tree.Method w v, at r z i)) e) Here))))))))))

alone-judged : (lines : TokenLines) (w : List ℕ) → IsName w → JudgesOperand (Expression.Alone lines w)
unfolding operand named called front advance sees after same_sign
alone-judged lines w free left depth n m i r rest within sum same h =
    let k = mark (suc depth) in
    let opened_at = sign_at sign.OpenParen (lines 1) ∷ sign_at sign.CloseParen (lines 2) ∷ r in
    rw (keyword-none w free) (counted _ depth n i (in_front (Expression.Alone lines w) r) (k ∷ k ∷ rest) (omega arith) (omega arith) (λ fine.
    rw (name-ok w (lines 0) opened_at (suc n) i free) (next fine (opening _ left depth k (k ∷ rest) opened_at (suc n) i within (omega arith) (omega arith) (λ inside opens deeper.
    next (plain (suc depth) deeper) (next (plain (suc depth) deeper) (Goes (let e : suc n ≡ m = omega arith in ap (λ z. Read (tree.Apply w [], at r z i)) e) Here)))))))

apply-judged : (lines : TokenLines) (w : List ℕ) (ss : Arguments) → IsName w → AreLawful ss → JudgesArguments ss → JudgesOperand (Expression.Apply lines w ss)
unfolding operand named called front advance sees after same_sign arguments expect
apply-judged lines w ss free lawful judges left depth n m i r rest within sum same h =
    let k = mark (suc depth) in
    let later = arguments_in_front ss (sign_at sign.CloseParen (lines 2) ∷ r) in
    let marked = arguments_marks ss (suc depth) (suc n) (k ∷ rest) in
    let lengths = arguments-length ss (suc depth) (suc n) (sign_at sign.CloseParen (lines 2) ∷ r) (k ∷ rest) (omega arith) in
    rw (keyword-none w free) (counted _ depth n i (in_front (Expression.Apply lines w ss) r) (k ∷ marked) (omega arith) (omega (arith, lengths)) (λ fine.
    rw (name-ok w (lines 0) (sign_at sign.OpenParen (lines 1) ∷ later) (suc n) i free)
    (next fine (opening _ left depth k marked (sign_at sign.OpenParen (lines 1) ∷ later) (suc n) i within (omega arith) (omega (arith, lengths)) (λ inside opens deeper.
    rw (starts-not_close (front_of later) (arguments_start ss (sign_at sign.CloseParen (lines 2) ∷ r) lawful))
    (next (plain (suc depth) deeper) (judged-then _ (arguments-inside ss judges left inside depth (suc n) m i (lines 2) r rest opens within (omega arith) same)
    (next (plain (suc depth) deeper) (Goes refl Here)))))))))

index-judged : (lines : TokenLines) (w : List ℕ) (s : Expression) → IsName w → Judgeable s → JudgesOperand (Expression.Index lines w s)
unfolding operand named indexed front advance sees same_sign expect
index-judged lines w s free judges left depth n m i r rest within sum same h =
    let k = mark (suc depth) in
    let close = sign_at sign.CloseBracket (lines 2) ∷ r in
    let later = in_front s close in
    let lengths = expression-length s (suc depth) (suc n) close (k ∷ rest) (omega arith) in
    rw (keyword-none w free) (counted _ depth n i (in_front (Expression.Index lines w s) r) (k ∷ expression_marks s (suc depth) (suc n) (k ∷ rest)) (omega arith) (omega (arith, lengths)) (λ fine.
    rw (name-ok w (lines 0) (sign_at sign.OpenBracket (lines 1) ∷ later) (suc n) i free)
    (next fine (opening _ left depth k (expression_marks s (suc depth) (suc n) (k ∷ rest)) (sign_at sign.OpenBracket (lines 1) ∷ later) (suc n) i within (omega arith) (omega (arith, lengths)) (λ inside opens deeper.
    next (plain (suc depth) deeper) (judged-then _ (whole-inside s judges left inside depth (suc n) m i close (k ∷ rest) opens within (omega arith) (omega arith) tt)
    (next (plain (suc depth) deeper) (Goes refl Here))))))))

paren-judged : (lines : TokenLines) (s : Expression) → IsLawful s → Judgeable s → JudgesOperand (Expression.Paren lines s)
unfolding operand bracketed begins_conversion parenthesized front advance sees same_sign expect
paren-judged lines s lawful judges left depth n m i r rest within sum same h =
    let k = mark (suc depth) in
    let close = sign_at sign.CloseParen (lines 1) ∷ r in
    let lengths = expression-length s (suc depth) n close (k ∷ rest) (omega arith) in
    rw (starts-not_type (front_of (in_front s close)) (starts s close lawful))
    (opening _ left depth k (expression_marks s (suc depth) n (k ∷ rest)) (sign_at sign.OpenParen (lines 0) ∷ in_front s close) n i within (omega arith) (omega (arith, lengths)) (λ inside opens deeper.
    next (plain (suc depth) deeper) (judged-then _ (whole-inside s judges left inside depth n m i close (k ∷ rest) opens within sum (omega arith) tt)
    (next (plain (suc depth) deeper) (Goes refl Here)))))

prefix-judged : (line : ℕ) (sg : Sign) (op : Un) (s : Expression) → prefix_of sg ≡ Some op → 11 ≤ level_in s → Judgeable s → JudgesOperand (Expression.Prefix line sg op s)
unfolding operand prefixed front advance
prefix-judged line sg op s is level judges left depth n m i r rest within sum same h =
    let tokens = in_front (Expression.Prefix line sg op s) r in
    let behind = expression_marks s (suc depth) (suc n) rest in
    let lengths = expression-length s (suc depth) (suc n) r rest same in
    renamed (prefix-by left (below left) sg op is (at tokens n i))
    (opening _ left depth (node (suc depth) (suc n)) behind tokens n i within (omega arith) (omega (arith, lengths)) (λ inside opens deeper.
    counted _ (suc depth) n i tokens behind deeper (omega (arith, lengths)) (λ fine.
    next fine (judged-then _ (operand-inside s judges level left inside depth (suc n) m i r rest opens within (omega arith) same h) (Goes refl Here)))))

convert-judged : (lines : TokenLines) (t : Ty) (s : Expression) → 11 ≤ level_in s → Judgeable s → JudgesOperand (Expression.Convert lines t s)
unfolding operand bracketed begins_conversion conversion front advance sees same_sign expect
convert-judged lines t s level judges left depth n m i r rest within sum same h =
    let tokens = in_front (Expression.Convert lines t s) r in
    let k = mark (suc depth) in
    let behind = k ∷ k ∷ expression_marks s (suc depth) (suc n) rest in
    let lengths = expression-length s (suc depth) (suc n) r rest same in
    rw (typed-is_type t (lines 1)) (opening _ left depth (node (suc depth) (suc n)) behind tokens n i within (omega arith) (omega (arith, lengths)) (λ inside opens deeper.
    counted _ (suc depth) n i tokens behind deeper (omega (arith, lengths)) (λ fine.
    rw (ty-ok t (lines 1) (sign_at sign.CloseParen (lines 2) ∷ in_front s r) (suc n) i)
    (next fine (next (plain (suc depth) deeper) (next (plain (suc depth) deeper)
    (judged-then _ (operand-inside s judges level left inside depth (suc n) m i r rest opens within (omega arith) same h) (Goes refl Here))))))))

join-step : (line : ℕ) (sg : Sign) (j : Infix) (a b : Expression) (own : ℕ) → infix_of sg ≡ Some j → infix_level j + own ≡ 10 → JudgesUpTo b own
    → (left depth n m i turns : ℕ) (r : List Token) (rest : Marks) → depth + left ≡ 64 → suc n + nodes_in b ≡ m → length r ≡ length rest → Ends own r
    → Judged (more left (below left) (operators left (below left) own) own (suc turns) (tree_in a) (at (sign_at sg line ∷ in_front b r) n i))
    (more left (below left) (operators left (below left) own) own turns (joined j (tree_in a) (tree_in b)) (at r m i)) rest (node depth (suc n) ∷ expression_marks b depth (suc n) rest)
unfolding more front advance
join-step line sg j a b own is level judges left depth n m i turns r rest within sum same h =
    rw (infix_here own sg j is level, more) (counted _ depth n i (sign_at sg line ∷ in_front b r) (expression_marks b depth (suc n) rest) (omega arith)
    (omega (arith, expression-length b depth (suc n) r rest same)) (λ fine.
    next fine (judged-then _ (judges left depth (suc n) m i r rest within sum same h) (Goes refl Here))))

join-chain : (line : ℕ) (sg : Sign) (j : Infix) (a b : Expression) (own : ℕ) → infix_of sg ≡ Some j → infix_level j + own ≡ 10
    → JudgesChain a own → JudgesUpTo b own → JudgesChain (Expression.Join line sg j a b) own
join-chain line sg j a b own is level chain judges left depth n m i r rest within sum same h =
    let follows : EndsBefore own (continues (next_is.Sign sg)) = rw (continues_infix sg j is) (omega arith) in
    let k = suc (n + nodes_in a) in
    let behind = node depth k ∷ expression_marks b depth k rest in
    let (turns, enough, judged) = chain left depth n (n + nodes_in a) i (sign_at sg line ∷ in_front b r) behind within refl (omega (arith, expression-length b depth k r rest same)) follows in
    go turns enough judged
  where
    go : (turns : ℕ) → length (sign_at sg line ∷ in_front b r) ≤ turns
        → Judged (operators left (below left) (suc own) (at (in_front a (sign_at sg line ∷ in_front b r)) n i))
        (more left (below left) (operators left (below left) own) own turns (tree_in a) (at (sign_at sg line ∷ in_front b r) (n + nodes_in a) i))
        (node depth (suc (n + nodes_in a)) ∷ expression_marks b depth (suc (n + nodes_in a)) rest)
        (expression_marks a depth n (node depth (suc (n + nodes_in a)) ∷ expression_marks b depth (suc (n + nodes_in a)) rest))
        → (turns : ℕ) × (length r ≤ turns)
        × Judged (operators left (below left) (suc own) (at (in_front a (sign_at sg line ∷ in_front b r)) n i))
        (more left (below left) (operators left (below left) own) own turns (joined j (tree_in a) (tree_in b)) (at r m i)) rest (expression_marks (Expression.Join line sg j a b) depth n rest)
    go zero enough judged = absurd (omega arith)
    go (suc turns) enough judged =
        (turns, omega (arith, longer b r), judged-trans judged (join-step line sg j a b own is level judges left depth (n + nodes_in a) m i turns r rest within (omega (arith, sum)) same h))

join : (line : ℕ) (sg : Sign) (j : Infix) (a b : Expression) → IsLawful (Expression.Join line sg j a b) → Judgeable a → Judgeable b
    → Judgeable (Expression.Join line sg j a b)
join line sg j a b lawful one two =
    let low = level-least j in
    let high = level-most j in
    let own = 10 - infix_level j in
    let s = Expression.Join line sg j a b in
    let chain = join-chain line sg j a b own lawful.0 (omega (arith, low, high)) (one.chain_judged own (omega (arith, low, high)) (omega (arith, low, high, lawful.1)))
    (up_to b two own (omega (arith, low, high)) (omega (arith, low, high, lawful.2))) in
    record {
      operand_judged = λ above. absurd (omega (arith, high, above));
      chain_judged = λ reach most above. chains_up s own chain reach (omega (arith, low, high, above));
      whole_judged = whole_above s (chain_stops s 9 (chains_up s own chain 9 (omega (arith, low, high))));
    }

-- the first mark of an expression is as deep as it
first-mark : (s : Expression) (depth before : ℕ) (rest : Marks) → (k : Mark) × (behind : Marks) × (expression_marks s depth before rest ≡ k ∷ behind) × (depth ≤ k.depth)
first-mark (Expression.Number line t v) depth before rest = (_, _, refl, omega arith)
first-mark (Expression.Name line w) depth before rest = (_, _, refl, omega arith)
first-mark (Expression.Field lines w v) depth before rest = (_, _, refl, omega arith)
first-mark (Expression.Method lines w v) depth before rest = (_, _, refl, omega arith)
first-mark (Expression.Alone lines w) depth before rest = (_, _, refl, omega arith)
first-mark (Expression.Apply lines w ss) depth before rest = (_, _, refl, omega arith)
first-mark (Expression.Index lines w s) depth before rest = (_, _, refl, omega arith)
first-mark (Expression.Paren lines s) depth before rest = (_, _, refl, omega arith)
first-mark (Expression.Prefix line sg op s) depth before rest = (_, _, refl, omega arith)
first-mark (Expression.Convert lines t s) depth before rest = (_, _, refl, omega arith)
first-mark (Expression.Join line sg j a b) depth before rest =
    first-mark a depth before (node depth (suc (before + nodes_in a)) ∷ expression_marks b depth (suc (before + nodes_in a)) rest)
first-mark (Expression.Choose lines a b c) depth before rest =
    first-mark a depth before (node depth (suc (before + nodes_in a)) ∷ expression_marks b depth (suc (before + nodes_in a)) (mark depth
    ∷ expression_marks c (suc depth) (suc (before + nodes_in a) + nodes_in b) rest))

-- from the `:` on
colon-judged : (line : ℕ) (test : Expr) (tests : List Expr) (one : Expr) (c : Expression) → IsLawful c → Judgeable c
    → (left depth n m i : ℕ) (r : List Token) (rest : Marks) → depth + left ≡ 64 → n + nodes_in c ≡ m → length r ≡ length rest → Ends 11 r
    → Judged (chosen left (below left) (test ∷ tests) one (at (sign_at sign.Colon line ∷ in_front c r) n i)) (chosen left (below left) tests (tree.Choose test one (tree_in c)) (at r m i))
    rest (mark depth ∷ expression_marks c (suc depth) n rest)
unfolding chosen sees front advance opened_by_expression same_sign expect
colon-judged line test tests one c lawful judges left depth n m i r rest within sum same h =
    let (k, behind, is, deeper) = first-mark c (suc depth) n rest in
    let lengths = expression-length c (suc depth) n r rest same in
    next (plain depth (omega arith)) (rw (starts c r lawful) (along k behind is deeper lengths))
  where
    along : (k : Mark) (behind : Marks) → expression_marks c (suc depth) n rest ≡ k ∷ behind → suc depth ≤ k.depth → length (in_front c r) ≡ length (expression_marks c (suc depth) n rest)
        → Judged (and_then (opened left (at (in_front c r) n i)) (λ _. below left Whole >>= (λ other. chosen left (below left) tests (tree.Choose test one other))))
        (chosen left (below left) tests (tree.Choose test one (tree_in c)) (at r m i)) rest (expression_marks c (suc depth) n rest)
    along k behind is deeper lengths = remarked is
        (opening _ left depth k behind (in_front c r) n i within deeper (lengths ∙ ap length is) (λ inside opens within'.
        remarked (sym is) (judged-then _ (whole-inside c judges left inside depth n m i r rest opens within sum same h) (Goes refl Here))))

choose-whole : (lines : TokenLines) (a b c : Expression) → 0 < level_in a → IsLawful c → Judgeable a → Judgeable b → Judgeable c → JudgesWhole (Expression.Choose lines a b c)
unfolding choice_from sees front advance same_sign
choose-whole lines a b c above lawful one two three left depth n m i zero tests r rest within sum same h enough =
    absurd (omega (arith, longer a (sign_at sign.Question (lines 0) ∷ in_front b (sign_at sign.Colon (lines 1) ∷ in_front c r))))
choose-whole lines a b c above lawful one two three left depth n m i (suc turns) tests r rest within sum same h enough =
    let later = sign_at sign.Colon (lines 1) ∷ in_front c r in
    let behind = sign_at sign.Question (lines 0) ∷ in_front b later in
    let k = n + nodes_in a in
    let last = expression_marks c (suc depth) (suc k + nodes_in b) rest in
    let middle = expression_marks b depth (suc k) (mark depth ∷ last) in
    let short = expression-length c (suc depth) (suc k + nodes_in b) r rest same in
    let lengths = expression-length b depth (suc k) later (mark depth ∷ last) (omega (arith, short)) in
    judged-then (choice_from left (below left) (suc turns) tests) (up_to a one 10 (omega arith) (omega (arith, above)) left depth n k i behind (node depth (suc k) ∷ middle) within refl (omega (arith, lengths)) (omega arith))
    (counted _ depth k i behind middle (omega arith) (omega (arith, lengths)) (λ fine.
    next fine (judged-trans (two.whole_judged left depth (suc k) (suc k + nodes_in b) i turns (tree_in a ∷ tests) later (mark depth ∷ last) within refl (omega (arith, short)) tt (omega (arith, longer a behind)))
    (colon-judged (lines 1) (tree_in a) tests (tree_in b) c lawful three left depth (suc k + nodes_in b) m i r rest within (omega (arith, sum)) same h))))

choose : (lines : TokenLines) (a b c : Expression) → 0 < level_in a → IsLawful c → Judgeable a → Judgeable b → Judgeable c → Judgeable (Expression.Choose lines a b c)
choose lines a b c above lawful one two three = record {
  operand_judged = λ level. absurd (omega arith);
  chain_judged = λ reach most level. absurd (omega arith);
  whole_judged = choose-whole lines a b c above lawful one two three;
}

last-judged : (s : Expression) → Judgeable s → JudgesArguments (Arguments.Last s)
unfolding arguments_from sees front after same_sign
last-judged s judges left depth n m i line zero found r rest within sum same enough = absurd (omega (arith, longer s (sign_at sign.CloseParen line ∷ r)))
last-judged s judges left depth n m i line (suc turns) found r rest within sum same enough =
    judged-then _ (whole-below s judges left depth n m i (sign_at sign.CloseParen line ∷ r) (mark depth ∷ rest) within sum (omega arith) tt) (Goes refl Here)

more-judged : (s : Expression) (comma : ℕ) (ss : Arguments) → Judgeable s → JudgesArguments ss → JudgesArguments (Arguments.More s comma ss)
unfolding arguments_from sees front after advance same_sign
more-judged s comma ss judges others left depth n m i line zero found r rest within sum same enough =
    absurd (omega (arith, longer s (sign_at sign.Comma comma ∷ arguments_in_front ss (sign_at sign.CloseParen line ∷ r))))
more-judged s comma ss judges others left depth n m i line (suc turns) found r rest within sum same enough =
    let later = arguments_in_front ss (sign_at sign.CloseParen line ∷ r) in
    let k = n + nodes_in s in
    let lengths = arguments-length ss depth k (sign_at sign.CloseParen line ∷ r) (mark depth ∷ rest) (omega arith) in
    judged-then _ (whole-below s judges left depth n k i (sign_at sign.Comma comma ∷ later) (mark depth ∷ arguments_marks ss depth k (mark depth ∷ rest)) within refl (omega (arith, lengths)) tt)
    (next (plain depth (omega arith)) (judged-trans (others left depth k m i line turns (found ++ tree_in s ∷ []) r rest within (omega (arith, sum)) same (omega (arith, longer s (sign_at sign.Comma comma ∷ later))))
    (Goes (ap (λ l. Read (l, at (sign_at sign.CloseParen line ∷ r) m i)) (append_assoc found (tree_in s ∷ []) (trees_in ss))) Here)))

mutual
  pub judgeable : (s : Expression) → IsLawful s → Judgeable s
  judgeable (Expression.Number line t v) h = tight (Expression.Number line t v) (omega arith) (number-judged line t v)
  judgeable (Expression.Name line w) h = tight (Expression.Name line w) (omega arith) (name-judged line w h)
  judgeable (Expression.Field lines w v) h = tight (Expression.Field lines w v) (omega arith) (field-judged lines w v h.0 h.1)
  judgeable (Expression.Method lines w v) h = tight (Expression.Method lines w v) (omega arith) (method-judged lines w v h.0 h.1)
  judgeable (Expression.Alone lines w) h = tight (Expression.Alone lines w) (omega arith) (alone-judged lines w h)
  judgeable (Expression.Apply lines w ss) h = tight (Expression.Apply lines w ss) (omega arith) (apply-judged lines w ss h.0 h.1 (arguments_judgeable ss h.1))
  judgeable (Expression.Index lines w s) h = tight (Expression.Index lines w s) (omega arith) (index-judged lines w s h.0 (judgeable s h.1))
  judgeable (Expression.Paren lines s) h = tight (Expression.Paren lines s) (omega arith) (paren-judged lines s h (judgeable s h))
  judgeable (Expression.Prefix line sg op s) h = tight (Expression.Prefix line sg op s) (omega arith) (prefix-judged line sg op s h.0 h.1 (judgeable s h.2))
  judgeable (Expression.Convert lines t s) h = tight (Expression.Convert lines t s) (omega arith) (convert-judged lines t s h.0 (judgeable s h.1))
  judgeable (Expression.Join line sg j a b) h = join line sg j a b h (judgeable a h.3) (judgeable b h.4)
  judgeable (Expression.Choose lines a b c) h = choose lines a b c h.0 h.3 (judgeable a h.1) (judgeable b h.2) (judgeable c h.3)

  pub arguments_judgeable : (ss : Arguments) → AreLawful ss → JudgesArguments ss
  arguments_judgeable (Arguments.Last s) h = last-judged s (judgeable s h)
  arguments_judgeable (Arguments.More s line ss) h = more-judged s line ss (judgeable s h.0) (arguments_judgeable ss h.1)
