-- What is read as statements is the same with both lists.
use Rattle.std.proofs.Common.{ℕ, zero, suc, ◌≤◌, List, [], ◌∷◌, ◌++◌, length, refl, ap, arith}
use Rattle.sk_grammar.specs.StatementSpelling.{at_line}
use Rattle.sk_refusals.specs.declared.refusal.Refusal.TheVariants.{Deep}
use Rattle.sk_tokens.specs.declared.token.Sign.TheVariants as sign
use Rattle.sk_tree.specs.declared.tree.Statement.{Statement}
use Rattle.sk_tree.specs.declared.tree.What.{What}
use Rattle.sk_tree.specs.declared.tree.What.TheVariants as what
use Rattle.sk_reading.specs.declared.next.Next.{Next}
use Rattle.sk_reading.specs.declared.next.Next.TheVariants as next
use Rattle.sk_reading.specs.declared.reach.Reach.TheVariants.{Whole}
use Rattle.sk_reading.specs.declared.keyword.Keyword.TheVariants as key
use Rattle.sk_reading.specs.declared.part.Part.{Part}
use Rattle.sk_reading.specs.declared.part.Part.TheVariants as part_kind
use Rattle.sk_reading.specs.Reading.{Place, Read, Parser, and_then, ◌>>=◌, ◌>>◌, pure, take, front, front_line, is_sign, is_keyword, sees, sees_keyword, opened, opened_by, expect}
use Rattle.sk_reading.specs.ReadingAssignments.{value_inside}
use Rattle.sk_reading.specs.ReadingStatements.{head, head_inside, block, other_branch, otherwise, branch, turned, statement_by, doing, statement, statements_from, alone, part, part_below}
use Rattle.sk_refusal_laws.proofs.Local.{under-then, under-if, Shrinks, Parting, Alike, Related, Both, Local, related-and_then, related-if, step, front-same, local-pure, local-refuse, local-peek, local-line, local-take, local-front, local-turning, left-here, left-there}
use Rattle.sk_refusal_laws.proofs.Steps.{local-expect, local-opened, local-opened_by}
use Rattle.sk_refusal_laws.proofs.Strict.{Strict, strict-then, strict-take}
use Rattle.sk_refusal_laws.proofs.Assignments.{local-value, local-value_inside, local-assignment, local-simple}
use Rattle.sk_refusal_laws.proofs.Forms.{local-short, strict-short}

local-head : {w : Parting} (left of : ℕ) → Local w (head left of)
unfolding head
local-head left of =
    step (local-simple left) (λ first. step (local-expect sign.Semi) (λ _. step (local-value left Whole) (λ test. step (local-expect sign.Semi) (λ _. step (local-assignment left) (λ next.
    local-pure (record { first = at_line of first; test = test; step = at_line of next }))))))

local-head_inside : {w : Parting} (left of : ℕ) → Local w (head_inside left of)
local-head_inside zero of = local-refuse Deep
local-head_inside (suc left) of = local-head left of

module _ {w : Parting} (left : ℕ) (inner : Part → Parser (List Statement)) (inside : (kind : Part) → Local w (inner kind)) where
  pub local-block : Local w (block left inner)
  unfolding block
  local-block = step (local-opened_by sign.OpenBrace left) (λ _. step (inside part_kind.Statements) (λ found. step (local-expect sign.CloseBrace) (λ _. local-pure found)))

  local-other_branch : Local w (other_branch left inner)
  unfolding other_branch sees_keyword
  local-other_branch =
      step local-take (λ _. local-front (is_keyword key.If) (opened left >> inner part_kind.Branch) (block left inner) (step (local-opened left) (λ _. inside part_kind.Branch)) local-block)

  local-otherwise : Local w (otherwise left inner)
  unfolding otherwise sees_keyword
  local-otherwise = local-front (is_keyword key.Else) (other_branch left inner) (pure []) local-other_branch (local-pure [])

  abbrev branch_behind : Parser What
  branch_behind = opened_by sign.OpenParen left >>= (λ _. value_inside left >>= (λ test. expect sign.CloseParen >>= (λ _.
      block left inner >>= (λ then_block. otherwise left inner >>= (λ other. pure (what.If test then_block other))))))

  local-branch_behind : Local w branch_behind
  local-branch_behind =
      step (local-opened_by sign.OpenParen left) (λ _. step (local-value_inside left) (λ test. step (local-expect sign.CloseParen) (λ _. step local-block (λ then_block.
      step local-otherwise (λ other. local-pure (what.If test then_block other))))))

  local-branch : Local w (branch left inner)
  unfolding branch
  local-branch = step local-take (λ _. local-branch_behind)

  abbrev turned_behind : ℕ → Parser What
  turned_behind of = opened_by sign.OpenParen left >>= (λ _. head_inside left of >>= (λ found. expect sign.CloseParen >>= (λ _.
      block left inner >>= (λ body. pure (what.For found.first found.test found.step body)))))

  local-turned_behind : (of : ℕ) → Local w (turned_behind of)
  local-turned_behind of =
      step (local-opened_by sign.OpenParen left) (λ _. step (local-head_inside left of) (λ found. step (local-expect sign.CloseParen) (λ _. step local-block (λ body.
      local-pure (what.For found.first found.test found.step body)))))

  local-turned : (of : ℕ) → Local w (turned left inner of)
  unfolding turned
  local-turned of = step local-take (λ _. local-turned_behind of)

  local-statement_by : (of : ℕ) (nx : Next) → Local w (statement_by left inner of nx)
  local-statement_by of (next.Keyword key.If) = local-branch
  local-statement_by of (next.Keyword key.For) = local-turned of
  local-statement_by of (next.Keyword k) = local-short left
  local-statement_by of other = local-short left

  local-doing : (of : ℕ) → Local w (doing left inner of)
  unfolding doing
  local-doing of = step local-peek (λ nx. local-statement_by of nx)

  local-statement : Local w (statement left inner)
  unfolding statement
  local-statement = step local-line (λ of. step (local-doing of) (λ does. local-pure (at_line of does)))

  strict-branch : Strict (branch left inner)
  unfolding branch
  strict-branch p x some is = strict-then take (λ _. branch_behind) strict-take (λ _. local-branch_behind.shrinks) p x some is

  strict-turned : (of : ℕ) → Strict (turned left inner of)
  unfolding turned
  strict-turned of p x some is = strict-then take (λ _. turned_behind of) strict-take (λ _. (local-turned_behind of).shrinks) p x some is

  strict-statement_by : (of : ℕ) (nx : Next) → Strict (statement_by left inner of nx)
  strict-statement_by of (next.Keyword key.If) = strict-branch
  strict-statement_by of (next.Keyword key.For) = strict-turned of
  strict-statement_by of (next.Keyword k) = strict-short left w
  strict-statement_by of other = strict-short left w

  strict-doing : (of : ℕ) → Strict (doing left inner of)
  unfolding doing
  strict-doing of p x some is = strict-statement_by of (front p) p x some is

  strict-statement : Strict (statement left inner)
  unfolding statement
  strict-statement p x some is = strict-then (doing left inner (front_line p)) (λ does. pure (at_line (front_line p) does)) (strict-doing (front_line p)) (λ does. (local-pure {w = w} (at_line (front_line p) does)).shrinks) p x some is

  statements-shrink : (turns : ℕ) (found : List Statement) → Shrinks (statements_from left inner turns found)
  unfolding statements_from
  statements-shrink zero found p = omega arith
  statements-shrink (suc turns) found p =
      under-if (suc (length p.rest)) (sees sign.CloseBrace p) (Read (found, p)) (and_then (statement left inner p) (λ next. statements_from left inner turns (found ++ next ∷ [])))
      (omega arith) (under-then (suc (length p.rest)) (statement left inner p) (λ next. statements_from left inner turns (found ++ next ∷ [])) (local-statement.shrinks p)
      (λ next. statements-shrink turns (found ++ next ∷ [])))

  statements-go : (n n' : ℕ) (found : List Statement) (p p' : Place) → length p.rest ≤ n → length p'.rest ≤ n' → Alike w p p'
      → Related w (statements_from left inner n found p) (statements_from left inner n' found p')
  unfolding statements_from sees
  statements-go zero n' found p p' enough enough' alike = absurd (omega (arith, left-here p p' alike))
  statements-go (suc n) zero found p p' enough enough' alike = absurd (omega (arith, left-there p p' alike))
  statements-go (suc n) (suc n') found p p' enough enough' alike =
      related-if (sees sign.CloseBrace p) (sees sign.CloseBrace p') _ _ _ _ (ap (is_sign sign.CloseBrace) (front-same p p' alike)) (Both found p p' refl refl alike)
      (related-and_then (statement left inner p) (statement left inner p') (λ next. statements_from left inner n (found ++ next ∷ [])) (λ next. statements_from left inner n' (found ++ next ∷ []))
      (local-statement.goes p p' alike) (λ next. statements-shrink n (found ++ next ∷ [])) (λ next. statements-shrink n' (found ++ next ∷ [])) (λ next q q' is is' later.
      statements-go n n' (found ++ next ∷ []) q q' (omega (arith, strict-statement p (next, q) (left-here p p' alike) is)) (omega (arith, strict-statement p' (next, q') (left-there p p' alike) is')) later))

  local-alone : Local w (alone left inner)
  unfolding alone
  local-alone = step local-line (λ of. step local-branch (λ does. local-pure (at_line of does ∷ [])))

  local-part : (kind : Part) → Local w (part left inner kind)
  local-part part_kind.Statements = local-turning (λ n. statements_from left inner n []) (record {
    shrinks = λ n. statements-shrink n [];
    goes = λ n n' p p' enough enough' alike. statements-go n n' [] p p' enough enough' alike;
  })
  local-part part_kind.Branch = local-alone

pub local-part_below : {w : Parting} (left : ℕ) (kind : Part) → Local w (part_below left kind)
unfolding part_below
local-part_below zero kind = local-refuse Deep
local-part_below (suc left) kind = local-part left (part_below left) (λ within. local-part_below left within) kind
