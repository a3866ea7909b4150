-- What is read as an expression is the same with both lists.
use Rattle.std.proofs.Common.{◌≡◌, ℕ, zero, suc, ◌≤◌, List, [], ◌∷◌, length, Option, Some, None, refl, ap, subst, arith}
use Rattle.sk_grammar.specs.ExpressionSpelling.{joined}
use Rattle.sk_grammar.specs.declared.infix.Infix.{Infix}
use Rattle.sk_refusals.specs.declared.refusal.Refusal.TheVariants.{Deep}
use Rattle.sk_tokens.specs.declared.token.Sign.TheVariants as sign
use Rattle.sk_tree.specs.declared.tree.Expr.{Expr}
use Rattle.sk_tree.specs.declared.tree.Expr.TheVariants as tree
use Rattle.sk_reading.specs.declared.reach.Reach.{Reach}
use Rattle.sk_reading.specs.declared.reach.Reach.TheVariants.{Whole, Sum, Operand}
use Rattle.sk_reading.specs.Reading.{Place, Read, Parser, ◌>>=◌, front, take, is_sign, sees, count_node}
use Rattle.sk_reading.specs.ReadingExpressions.{infix_at, more, operators, chosen, choice_from, choice, reading, below, expression}
use Rattle.sk_refusal_laws.proofs.Local.{Under, under-then, under-if, Shrinks, Parting, Alike, Related, Both, Local, related-and_then, related-if, step, front-same, local-pure, local-refuse, local-take, local-turning, left-here, left-there}
use Rattle.sk_refusal_laws.proofs.Steps.{local-expect, local-count_node, local-opened_by_expression, taken-fewer, read-fewer}
use Rattle.sk_refusal_laws.proofs.Operands.{Inside, local-operand}

module _ {w : Parting} (left : ℕ) (inner : Reach → Parser Expr) (inside : Inside w inner) where
  -- an operator is counted and taken, and what follows is read as a part
  abbrev joins : {B : Type 0} → Parser Expr → (Expr → Parser B) → Parser B
  joins part g = count_node >>= (λ _. take >>= (λ _. part >>= g))

  joins-shrink : {B : Type 0} (part : Parser Expr) (g : Expr → Parser B) → Local w part → ((value : Expr) → Shrinks (g value)) → Shrinks (joins part g)
  joins-shrink part g local shrinks p =
      under-then (suc (length p.rest)) (count_node p) _ ((local-count_node {w = w}).shrinks p) (λ _ q.
      under-then (suc (length q.rest)) (take q) _ ((local-take {w = w}).shrinks q) (λ _ s.
      under-then (suc (length s.rest)) (part s) g (local.shrinks s) shrinks))

  behind-counted : {B : Type 0} (part : Parser Expr) (g : Expr → Parser B) → Local w part → ((value : Expr) → Shrinks (g value)) → Shrinks (take >>= (λ _. part >>= g))
  behind-counted part g local shrinks q =
      under-then (suc (length q.rest)) (take q) _ ((local-take {w = w}).shrinks q) (λ _ s. under-then (suc (length s.rest)) (part s) g (local.shrinks s) shrinks)

  joins-go : {B : Type 0} (part : Parser Expr) (g g' : Expr → Parser B) → Local w part → ((value : Expr) → Shrinks (g value)) → ((value : Expr) → Shrinks (g' value)) → (n n' : ℕ)
      → ((value : Expr) (q q' : Place) → length q.rest ≤ n → length q'.rest ≤ n' → Alike w q q' → Related w (g value q) (g' value q'))
      → (p p' : Place) → length p.rest ≤ suc n → length p'.rest ≤ suc n' → Alike w p p' → Related w (joins part g p) (joins part g' p')
  joins-go part g g' local shrinks shrinks' n n' goes p p' enough enough' alike =
      related-and_then (count_node p) (count_node p') _ _ (local-count_node.goes p p' alike) (λ _ q. behind-counted part g local shrinks q) (λ _ q. behind-counted part g' local shrinks' q) (λ u q q' is is' next.
      let few = read-fewer (count_node p) (suc n) p (u, q) ((local-count_node {w = w}).shrinks p) enough is in
      let few' = read-fewer (count_node p') (suc n') p' (u, q') ((local-count_node {w = w}).shrinks p') enough' is' in
      related-and_then (take q) (take q') _ _ (local-take.goes q q' next) (λ _ s. under-then (suc (length s.rest)) (part s) g (local.shrinks s) shrinks) (λ _ s. under-then (suc (length s.rest)) (part s) g' (local.shrinks s) shrinks') (λ _ s s' taken taken' later.
      let fewer = taken-fewer n q s (left-here q q' next) few taken in
      let fewer' = taken-fewer n' q' s' (left-there q q' next) few' taken' in
      related-and_then (part s) (part s') g g' (local.goes s s' later) shrinks shrinks' (λ value z z' read read' last.
      goes value z z' (read-fewer (part s) n s (value, z) (local.shrinks s) fewer read) (read-fewer (part s') n' s' (value, z') (local.shrinks s') fewer' read') last)))

  module _ (part : Parser Expr) (local : Local w part) (reach : ℕ) where
    more-shrinks : (turns : ℕ) (first : Expr) → Shrinks (more left inner part reach turns first)
    unfolding more
    more-shrinks zero first p = omega arith
    more-shrinks (suc turns) first p = go (λ operator second. more-shrinks turns (joined operator first second)) (infix_at reach (front p))
      where
        go : ((operator : Infix) (second : Expr) → Shrinks (more left inner part reach turns (joined operator first second))) → (found : Option Infix) → Under (suc (length p.rest)) (elim found [
          | None ↦ Read (first, p)
          | Some operator ↦ joins part (λ second. more left inner part reach turns (joined operator first second)) p
        ])
        go later None = omega arith
        go later (Some operator) = joins-shrink part (λ second. more left inner part reach turns (joined operator first second)) local (later operator) p

    more-goes : (n n' : ℕ) (first : Expr) (p p' : Place) → length p.rest ≤ n → length p'.rest ≤ n' → Alike w p p'
        → Related w (more left inner part reach n first p) (more left inner part reach n' first p')
    unfolding more
    more-goes zero n' first p p' enough enough' alike = absurd (omega (arith, left-here p p' alike))
    more-goes (suc n) zero first p p' enough enough' alike = absurd (omega (arith, left-there p p' alike))
    more-goes (suc n) (suc n') first p p' enough enough' alike =
        go (λ operator second q q' few few' next. more-goes n n' (joined operator first second) q q' few few' next) (infix_at reach (front p)) (infix_at reach (front p')) (ap (infix_at reach) (front-same p p' alike))
      where
        turn : (turns : ℕ) (found : Option Infix) → Parser Expr
        turn turns found q = elim found [
          | None ↦ Read (first, q)
          | Some operator ↦ joins part (λ second. more left inner part reach turns (joined operator first second)) q
        ]

        go : ((operator : Infix) (second : Expr) (q q' : Place) → length q.rest ≤ n → length q'.rest ≤ n' → Alike w q q'
            → Related w (more left inner part reach n (joined operator first second) q) (more left inner part reach n' (joined operator first second) q'))
            → (found found' : Option Infix) → found ≡ found' → Related w (turn n found p) (turn n' found' p')
        go later None found' is = subst (λ o. Related w (turn n None p) (turn n' o p')) is (Both first p p' refl refl alike)
        go later (Some operator) found' is = subst (λ o. Related w (turn n (Some operator) p) (turn n' o p')) is
            (joins-go part (λ second. more left inner part reach n (joined operator first second)) (λ second. more left inner part reach n' (joined operator first second)) local
            (λ second. more-shrinks n (joined operator first second)) (λ second. more-shrinks n' (joined operator first second)) n n' (later operator) p p' enough enough' alike)

  local-operators : (reach : ℕ) → Local w (operators left inner reach)
  unfolding operators
  local-operators zero = local-operand left inner inside
  local-operators (suc reach) = step (local-operators reach) (λ first. local-turning (λ n. more left inner (operators left inner reach) reach n first) (record {
    shrinks = λ n. more-shrinks (operators left inner reach) (local-operators reach) reach n first;
    goes = λ n n' p p' enough enough' alike. more-goes (operators left inner reach) (local-operators reach) reach n n' first p p' enough enough' alike;
  }))

  local-chosen : (tests : List Expr) (value : Expr) → Local w (chosen left inner tests value)
  unfolding chosen
  local-chosen [] value = local-pure value
  local-chosen (test ∷ tests) value =
      step (local-expect sign.Colon) (λ _. step (local-opened_by_expression left) (λ _. step (inside Whole) (λ other. local-chosen tests (tree.Choose test value other))))

  choice_from-shrinks : (turns : ℕ) (tests : List Expr) (value : Expr) → Shrinks (choice_from left inner turns tests value)
  unfolding choice_from
  choice_from-shrinks zero tests value p = omega arith
  choice_from-shrinks (suc turns) tests value p =
      under-if (suc (length p.rest)) (sees sign.Question p) (joins (operators left inner 10) (λ second. choice_from left inner turns (value ∷ tests) second) p) (chosen left inner tests value p)
      (joins-shrink (operators left inner 10) (λ second. choice_from left inner turns (value ∷ tests) second) (local-operators 10) (λ second. choice_from-shrinks turns (value ∷ tests) second) p)
      ((local-chosen tests value).shrinks p)

  choice_from-goes : (n n' : ℕ) (tests : List Expr) (value : Expr) (p p' : Place) → length p.rest ≤ n → length p'.rest ≤ n' → Alike w p p'
      → Related w (choice_from left inner n tests value p) (choice_from left inner n' tests value p')
  unfolding choice_from sees
  choice_from-goes zero n' tests value p p' enough enough' alike = absurd (omega (arith, left-here p p' alike))
  choice_from-goes (suc n) zero tests value p p' enough enough' alike = absurd (omega (arith, left-there p p' alike))
  choice_from-goes (suc n) (suc n') tests value p p' enough enough' alike =
      related-if (sees sign.Question p) (sees sign.Question p') _ _ _ _ (ap (is_sign sign.Question) (front-same p p' alike))
      (joins-go (operators left inner 10) (λ second. choice_from left inner n (value ∷ tests) second) (λ second. choice_from left inner n' (value ∷ tests) second) (local-operators 10)
      (λ second. choice_from-shrinks n (value ∷ tests) second) (λ second. choice_from-shrinks n' (value ∷ tests) second) n n' (λ second q q' few few' next. choice_from-goes n n' (value ∷ tests) second q q' few few' next) p p' enough enough' alike)
      ((local-chosen tests value).goes p p' alike)

  local-choice : Local w (choice left inner)
  unfolding choice
  local-choice = record {
    shrinks = λ p. under-then (suc (length p.rest)) (operators left inner 10 p) (choice_from left inner (length p.rest) []) ((local-operators 10).shrinks p) (λ first. choice_from-shrinks (length p.rest) [] first);
    goes = λ p p' alike.
        related-and_then (operators left inner 10 p) (operators left inner 10 p') (choice_from left inner (length p.rest) []) (choice_from left inner (length p'.rest) [])
        ((local-operators 10).goes p p' alike) (λ first. choice_from-shrinks (length p.rest) [] first) (λ first. choice_from-shrinks (length p'.rest) [] first) (λ first q q' read read' next.
        choice_from-goes (length p.rest) (length p'.rest) [] first q q'
        (read-fewer (operators left inner 10 p) (length p.rest) p (first, q) ((local-operators 10).shrinks p) (omega arith) read)
        (read-fewer (operators left inner 10 p') (length p'.rest) p' (first, q') ((local-operators 10).shrinks p') (omega arith) read') next);
  }

  local-reading : (reach : Reach) → Local w (reading left inner reach)
  local-reading Whole = local-choice
  local-reading Sum = local-operators 2
  local-reading Operand = local-operand left inner inside

pub local-below : {w : Parting} (left : ℕ) (reach : Reach) → Local w (below left reach)
unfolding below
local-below zero reach = local-refuse Deep
local-below (suc left) reach = local-reading left (below left) (λ within. local-below left within) reach

pub local-expression : {w : Parting} (left : ℕ) (reach : Reach) → Local w (expression left reach)
unfolding expression
local-expression left reach = local-reading left (below left) (λ within. local-below left within) reach
