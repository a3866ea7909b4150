-- What each expression comes to, by its marks: how each level reads it.
use Rattle.std.proofs.Common.{◌≡◌, ℕ, zero, suc, ◌+◌, ◌<◌, ◌≤◌, inl, inr, List, ◌∷◌, ◌++◌, length, refl, subst, arith}
use Rattle.std.proofs.lemmas.Bool.{cases_lt}
use Rattle.sk_grammar.specs.ExpressionSpelling.{Expression, Arguments, in_front, arguments_in_front, tree_in, trees_in, level_in, sign_at}
use Rattle.sk_grammar.specs.Limits.{nodes_in, nodes_of}
use Rattle.sk_refusals.specs.Marks.{Marks, mark, expression_marks, arguments_marks}
use Rattle.sk_tokens.specs.declared.token.Sign.TheVariants as sign
use Rattle.sk_tokens.specs.declared.token.Token.{Token}
use Rattle.sk_tree.specs.declared.tree.Expr.{Expr}
use Rattle.sk_reading.specs.declared.reach.Reach.TheVariants.{Whole}
use Rattle.sk_reading.specs.Reading.{Read, Parser, and_then, front, front_of, sees}
use Rattle.sk_reading.specs.ReadingExpressions.{operand, more, operators, chosen, choice_from, below, arguments_from}
use Rattle.sk_reading_complete_laws.proofs.expressions.Ends.{continues, Ends, ends_less, infix_ends, not_question}
use Rattle.sk_reading_complete_laws.proofs.Steps.{at}
use Rattle.sk_reading_complete_laws.proofs.spelled.Judged.{Judged, Goes, Here, judged-then, judged-trans}
use Rattle.sk_reading_complete_laws.proofs.expressions.Tokens.{longer}

-- ---- what is shown of each expression

abbrev pub JudgesOperand : Expression → Type 0
JudgesOperand s = (left depth n m i : ℕ) (r : List Token) (rest : Marks) → depth + left ≡ 64 → n + nodes_in s ≡ m → length r ≡ length rest → Ends 0 r
    → Judged (operand left (below left) (at (in_front s r) n i)) (Read (tree_in s, at r m i)) rest (expression_marks s depth n rest)

abbrev pub JudgesUpTo : Expression → ℕ → Type 0
JudgesUpTo s reach = (left depth n m i : ℕ) (r : List Token) (rest : Marks) → depth + left ≡ 64 → n + nodes_in s ≡ m → length r ≡ length rest → Ends reach r
    → Judged (operators left (below left) reach (at (in_front s r) n i)) (Read (tree_in s, at r m i)) rest (expression_marks s depth n rest)

-- the reader of the level above has this as its first part so far
abbrev pub JudgesChain : Expression → ℕ → Type 0
JudgesChain s reach = (left depth n m i : ℕ) (r : List Token) (rest : Marks) → depth + left ≡ 64 → n + nodes_in s ≡ m → length r ≡ length rest → Ends reach r
    → (turns : ℕ) × (length r ≤ turns)
    × Judged (operators left (below left) (suc reach) (at (in_front s r) n i))
    (more left (below left) (operators left (below left) reach) reach turns (tree_in s) (at r m i)) rest (expression_marks s depth n rest)

abbrev pub JudgesWhole : Expression → Type 0
JudgesWhole s = (left depth n m i turns : ℕ) (tests : List Expr) (r : List Token) (rest : Marks) → depth + left ≡ 64 → n + nodes_in s ≡ m → length r ≡ length rest → Ends 11 r
    → length (in_front s r) ≤ turns
    → Judged (and_then (operators left (below left) 10 (at (in_front s r) n i)) (choice_from left (below left) turns tests))
    (chosen left (below left) tests (tree_in s) (at r m i)) rest (expression_marks s depth n rest)

-- these read what is inside of what is opened
abbrev pub JudgesArguments : Arguments → Type 0
JudgesArguments ss = (left depth n m i line turns : ℕ) (found : List Expr) (r : List Token) (rest : Marks) → depth + left ≡ 64 → n + nodes_of ss ≡ m → length r ≡ length rest
    → length (arguments_in_front ss (sign_at sign.CloseParen line ∷ r)) ≤ turns
    → Judged (arguments_from (below (suc left) Whole) turns found (at (arguments_in_front ss (sign_at sign.CloseParen line ∷ r)) n i))
    (Read (found ++ trees_in ss, at (sign_at sign.CloseParen line ∷ r) m i)) (mark depth ∷ rest) (arguments_marks ss depth n (mark depth ∷ rest))

pub record Judgeable (s : Expression) : Type 0 where
  pub operand_judged : 11 ≤ level_in s → JudgesOperand s
  pub chain_judged : (reach : ℕ) → reach < 10 → 11 ≤ level_in s + suc reach → JudgesChain s reach
  pub whole_judged : JudgesWhole s

-- ---- levels

more-stops : (left : ℕ) (part : Parser Expr) (reach turns : ℕ) (first : Expr) (r : List Token) (n i : ℕ) → Ends (suc reach) r
    → more left (below left) part reach turns first (at r n i) ≡ Read (first, at r n i)
unfolding more front
more-stops left part reach zero first r n i h = refl
more-stops left part reach (suc turns) first r n i h = rw (infix_ends reach (front_of r) h) refl

pub chain_stops : (s : Expression) (reach : ℕ) → JudgesChain s reach → JudgesUpTo s (suc reach)
chain_stops s reach chain left depth n m i r rest within sum same h =
    let (turns, enough, judged) = chain left depth n m i r rest within sum same (ends_less reach (suc reach) (continues (front_of r)) (omega arith) h) in
    judged-trans judged (Goes (more-stops left (operators left (below left) reach) reach turns (tree_in s) r m i h) Here)

pub chain_starts : (s : Expression) (reach : ℕ) → JudgesUpTo s reach → JudgesChain s reach
unfolding operators
chain_starts s reach judges left depth n m i r rest within sum same h =
    (length r, omega arith, judged-then (λ first p. more left (below left) (operators left (below left) reach) reach (length p.rest) first p) (judges left depth n m i r rest within sum same h) (Goes refl Here))

pub up_to : (s : Expression) → Judgeable s → (reach : ℕ) → reach ≤ 10 → 11 ≤ level_in s + reach → JudgesUpTo s reach
unfolding operators
up_to s is zero most level = is.operand_judged (omega arith)
up_to s is (suc reach) most level = chain_stops s reach (is.chain_judged reach (omega arith) (omega arith))

pub chains_up : (s : Expression) (own : ℕ) → JudgesChain s own → (reach : ℕ) → own ≤ reach → JudgesChain s reach
chains_up s own chain zero less = let e : own ≡ 0 = omega arith in subst (JudgesChain s) e chain
chains_up s own chain (suc reach) less = elim (cases_lt reach own) [
  | inl above ↦ (let e : own ≡ suc reach = omega arith in subst (JudgesChain s) e chain)
  | inr below' ↦ chain_starts s (suc reach) (chain_stops s reach (chains_up s own chain reach below'))
]

tight_chains : (s : Expression) → JudgesOperand s → (reach : ℕ) → JudgesChain s reach
unfolding operators
tight_chains s judges = λ reach. chains_up s 0 (chain_starts s 0 judges) reach (omega arith)

choice-ends : (left turns : ℕ) (tests : List Expr) (value : Expr) (r : List Token) (n i : ℕ) → Ends 11 r
    → choice_from left (below left) (suc turns) tests value (at r n i) ≡ chosen left (below left) tests value (at r n i)
unfolding choice_from sees front
choice-ends left turns tests value r n i h = rw (not_question (front_of r) h) refl

pub whole_above : (s : Expression) → JudgesUpTo s 10 → JudgesWhole s
whole_above s judges left depth n m i zero tests r rest within sum same h enough = absurd (omega (arith, longer s r))
whole_above s judges left depth n m i (suc turns) tests r rest within sum same h enough =
    judged-then (choice_from left (below left) (suc turns) tests) (judges left depth n m i r rest within sum same (ends_less 10 11 (continues (front_of r)) (omega arith) h))
    (Goes (choice-ends left turns tests (tree_in s) r m i h) Here)

-- an expression that stands by itself, or a prefix with its operand
pub tight : (s : Expression) → 11 ≤ level_in s → JudgesOperand s → Judgeable s
unfolding operators
tight s level judges = record {
  operand_judged = λ _. judges;
  chain_judged = λ reach _ _. tight_chains s judges reach;
  whole_judged = whole_above s (chain_stops s 9 (tight_chains s judges 9));
}
