-- What is read as an operand is the same with both lists.
use Rattle.std.proofs.Common.{◌≡◌, ℕ, zero, suc, ◌+◌, Bool, true, false, cond, nat_lt, List, [], ◌∷◌, ◌++◌, length, drop, Option, Some, None, refl, ap, sym, subst, ◌∙◌}
use Rattle.sk_refusals.specs.declared.refusal.Limited.TheVariants.{Nodes}
use Rattle.sk_refusals.specs.declared.refusal.Refusal.TheVariants.{Syntax, Deep, Many}
use Rattle.sk_grammar.specs.Signs.{prefix_of}
use Rattle.sk_tokens.specs.declared.token.Sign.TheVariants as sign
use Rattle.sk_tokens.specs.declared.token.Token.{Token}
use Rattle.sk_tree.specs.declared.tree.Expr.{Expr}
use Rattle.sk_tree.specs.declared.tree.Expr.TheVariants as tree
use Rattle.sk_tree.specs.declared.tree.Un.{Un}
use Rattle.sk_reading.specs.declared.next.Next.{Next}
use Rattle.sk_reading.specs.declared.next.Next.TheVariants as next
use Rattle.sk_reading.specs.declared.reach.Reach.{Reach}
use Rattle.sk_reading.specs.declared.reach.Reach.TheVariants.{Whole, Operand}
use Rattle.sk_reading.specs.Reading.{Place, Read, Refused, Parser, and_then, ◌>>=◌, pure, refuse, front, front_of, advance, same_sign, sees, expect, count_node, opened, ty}
use Rattle.sk_reading.specs.ReadingExpressions.{own, arguments, arguments_from, begins_conversion, is_type, conversion, parenthesized, prefixed, called, indexed, member, named_by, named, literal, bracketed, prefixed_by, operand_by, operand}
use Rattle.sk_refusal_laws.proofs.Local.{Shrinks, Parting, Alike, Related, Ends, Past, Counts, Apart, Local, step, front-same, local-pure, local-refuse, local-peek, local-take, local-cond, local-turning, related-if, under-if, past-at}
use Rattle.sk_refusal_laws.proofs.Steps.{local-expect, local-eat, local-sees, local-name, local-number, local-ty, local-fresh, local-count_node, local-opened, local-commas}

module _ {w : Parting} where
  local-own : (are_own : Bool) (item : Parser Expr) → Local w item → Local w (own are_own item)
  local-own true item local = step local-fresh (λ _. local)
  local-own false item local = local

  pub local-arguments : (are_own : Bool) (item : Parser Expr) → Local w item → Local w (arguments are_own item)
  unfolding arguments arguments_from
  local-arguments are_own item local =
      local-turning (λ n. arguments_from (own are_own item) n [])
      (local-commas (λ _. own are_own item) (λ e. e) (arguments_from (own are_own item)) (λ found p. refl, λ turns found p. refl) (λ _. local-own are_own item local) [])

abbrev pub Inside : Parting → (Reach → Parser Expr) → Type 0
Inside w inner = (reach : Reach) → Local w (inner reach)

module _ {w : Parting} (left : ℕ) (inner : Reach → Parser Expr) (inside : Inside w inner) where
  local-conversion : Local w (conversion left inner)
  unfolding conversion
  local-conversion =
      step (local-opened left) (λ _. step local-count_node (λ _. step (local-expect sign.OpenParen) (λ _. step local-ty (λ to.
      step (local-expect sign.CloseParen) (λ _. step (inside Operand) (λ operand. local-pure (tree.Cast to operand)))))))

  local-parenthesized : Local w (parenthesized left inner)
  unfolding parenthesized
  local-parenthesized =
      step (local-opened left) (λ _. step local-take (λ _. step (inside Whole) (λ whole. step (local-expect sign.CloseParen) (λ _. local-pure whole))))

  local-prefixed : (op : Un) → Local w (prefixed left inner op)
  unfolding prefixed
  local-prefixed op =
      step (local-opened left) (λ _. step local-count_node (λ _. step local-take (λ _. step (inside Operand) (λ operand. local-pure (tree.Unary op operand)))))

  local-called : (function : List ℕ) → Local w (called left inner function)
  unfolding called
  local-called function =
      step (local-opened left) (λ _. step local-take (λ _. step (local-eat sign.CloseParen) (λ is_empty. local-cond is_empty _ _ (local-pure (tree.Apply function []))
      (step (local-arguments false (inner Whole) (inside Whole)) (λ found. step (local-expect sign.CloseParen) (λ _. local-pure (tree.Apply function found)))))))

  local-indexed : (container : List ℕ) → Local w (indexed left inner container)
  unfolding indexed
  local-indexed container =
      step (local-opened left) (λ _. step local-take (λ _. step (inside Whole) (λ place. step (local-expect sign.CloseBracket) (λ _. local-pure (tree.Apply container (place ∷ []))))))

  local-member : (whole : List ℕ) → Local w (member left inner whole)
  unfolding member
  local-member whole =
      step local-take (λ _. step local-name (λ part. step (local-sees sign.OpenParen) (λ is_method. local-cond is_method _ _
      (step (local-opened left) (λ _. step local-take (λ _. step (local-expect sign.CloseParen) (λ _. local-pure (tree.Method whole part)))))
      (local-pure (tree.Field whole part)))))

  local-named_by : (first : List ℕ) (nx : Next) → Local w (named_by left inner first nx)
  local-named_by first (next.Sign sign.OpenParen) = local-called first
  local-named_by first (next.Sign sign.OpenBracket) = local-indexed first
  local-named_by first (next.Sign sign.Dot) = local-member first
  local-named_by first (next.Sign s) = local-pure (tree.Name first)
  local-named_by first other = local-pure (tree.Name first)

  local-named : Local w (named left inner)
  unfolding named
  local-named = step local-count_node (λ _. step local-name (λ first. step local-peek (λ kind. local-named_by first kind)))

  local-literal : Local w (literal left inner)
  unfolding literal
  local-literal = step local-count_node (λ _. step local-number (λ value. local-pure (tree.Number value.0 value.1)))

  -- ---- parentheses: whether they hold a type stands behind the token

  bracketed-shrinks : Shrinks (bracketed left inner)
  unfolding bracketed
  bracketed-shrinks p = under-if (suc (length p.rest)) (begins_conversion p) (conversion left inner p) (parenthesized left inner p) (local-conversion.shrinks p) (local-parenthesized.shrinks p)

abbrev behind_open : (Reach → Parser Expr) → Parser Expr
behind_open inner = ty >>= (λ to. expect sign.CloseParen >>= (λ _. inner Operand >>= (λ operand. pure (tree.Cast to operand))))

abbrev inside_open : (Reach → Parser Expr) → Parser Expr
inside_open inner = inner Whole >>= (λ whole. expect sign.CloseParen >>= (λ _. pure whole))

module _ {w : Parting} (left : ℕ) (inner : Reach → Parser Expr) (inside : Inside w inner) where
  behind-shrinks : Shrinks (behind_open inner)
  behind-shrinks = (step {w = w} local-ty (λ to. step (local-expect sign.CloseParen) (λ _. step (inside Operand) (λ operand. local-pure (tree.Cast to operand))))).shrinks

  inside-shrinks : Shrinks (inside_open inner)
  inside-shrinks = (step {w = w} (inside Whole) (λ whole. step (local-expect sign.CloseParen) (λ _. local-pure whole))).shrinks

  conversion-ends : (token : Token) (behind : List Token) (p : Place) → front p ≡ next.Sign sign.OpenParen → begins_conversion p ≡ true → p.rest ≡ token ∷ behind
      → Ends token behind (conversion (suc left) inner p)
  unfolding conversion opened count_node expect sees front same_sign begins_conversion advance
  conversion-ends token behind p is begins rest = go (nat_lt p.nodes 1024)
    where
      go : (b : Bool) → Ends token behind (and_then (cond b (Read (tt {0}, record p { nodes = p.nodes + 1 })) (refuse (Many Nodes) p)) (λ _ q. and_then (expect sign.OpenParen q) (λ _. behind_open inner)))
      go true = rw is (Past (past-at token behind (record p { nodes = p.nodes + 1 }) (behind_open inner) behind-shrinks rest))
      go false = Counts (ap front_of (sym rest) ∙ is) (ap (λ l. is_type (front_of (drop 1 l))) (sym rest) ∙ begins) (ap (λ l. Refused (Many Nodes) (length l)) rest)

  parenthesized-ends : (token : Token) (behind : List Token) (p : Place) → p.rest ≡ token ∷ behind → Ends token behind (parenthesized (suc left) inner p)
  unfolding parenthesized opened
  parenthesized-ends token behind p rest = Past (past-at token behind p (inside_open inner) inside-shrinks rest)

  bracketed-ends : (token : Token) (behind : List Token) (p : Place) → front p ≡ next.Sign sign.OpenParen → p.rest ≡ token ∷ behind → Ends token behind (bracketed (suc left) inner p)
  unfolding bracketed
  bracketed-ends token behind p is rest = go (begins_conversion p) refl
    where
      go : (b : Bool) → begins_conversion p ≡ b → Ends token behind (cond b (conversion (suc left) inner p) (parenthesized (suc left) inner p))
      go true begins = conversion-ends token behind p is begins rest
      go false begins = parenthesized-ends token behind p rest

module _ {w : Parting} (inner : Reach → Parser Expr) (inside : Inside w inner) where
  closed : (b b' : Bool) (p p' : Place) → Alike w p p' → Related w (cond b (conversion 0 inner p) (parenthesized 0 inner p)) (cond b' (conversion 0 inner p') (parenthesized 0 inner p'))
  unfolding conversion parenthesized opened
  closed true true p p' alike = (local-refuse Deep).goes p p' alike
  closed true false p p' alike = (local-refuse Deep).goes p p' alike
  closed false true p p' alike = (local-refuse Deep).goes p p' alike
  closed false false p p' alike = (local-refuse Deep).goes p p' alike

  bracketed-goes : (left : ℕ) (p p' : Place) → Alike w p p' → front p ≡ next.Sign sign.OpenParen → Related w (bracketed left inner p) (bracketed left inner p')
  unfolding bracketed begins_conversion advance
  bracketed-goes left p p' alike is = go left alike.before alike.one alike.other
    where
      go : (left : ℕ) (before : List Token) → p.rest ≡ before ++ w.token ∷ w.one → p'.rest ≡ before ++ w.token ∷ w.other → Related w (bracketed left inner p) (bracketed left inner p')
      go zero [] one other = closed (begins_conversion p) (begins_conversion p') p p' alike
      go (suc left) [] one other =
          Apart (bracketed-ends left inner inside w.token w.one p is one) (bracketed-ends left inner inside w.token w.other p' (sym (front-same p p' alike) ∙ is) other)
      go left (token ∷ before) one other =
          let ahead = front-same (advance p) (advance p') (record { before = before; one = ap (drop 1) one; other = ap (drop 1) other; nodes = alike.nodes; instances = alike.instances }) in
          related-if (begins_conversion p) (begins_conversion p') _ _ _ _ (ap is_type ahead) ((local-conversion left inner inside).goes p p' alike) ((local-parenthesized left inner inside).goes p p' alike)

module _ {w : Parting} (left : ℕ) (inner : Reach → Parser Expr) (inside : Inside w inner) where
  local-prefixed_by : (op : Option Un) → Local w (prefixed_by left inner op)
  local-prefixed_by (Some op) = local-prefixed left inner inside op
  local-prefixed_by None = local-refuse Syntax

  -- by what comes next
  operand_by-shrinks : (nx : Next) → Shrinks (operand_by left inner nx)
  operand_by-shrinks next.Number = (local-literal left inner inside).shrinks
  operand_by-shrinks next.Name = (local-named left inner inside).shrinks
  operand_by-shrinks (next.Sign sign.OpenParen) = bracketed-shrinks left inner inside
  operand_by-shrinks (next.Sign s) = (local-prefixed_by (prefix_of s)).shrinks
  operand_by-shrinks other = (local-refuse {w = w} {A = Expr} Syntax).shrinks

  operand_by-goes : (nx : Next) (p p' : Place) → Alike w p p' → front p ≡ nx → Related w (operand_by left inner nx p) (operand_by left inner nx p')
  operand_by-goes next.Number p p' alike is = (local-literal left inner inside).goes p p' alike
  operand_by-goes next.Name p p' alike is = (local-named left inner inside).goes p p' alike
  operand_by-goes (next.Sign sign.OpenParen) p p' alike is = bracketed-goes inner inside left p p' alike is
  operand_by-goes (next.Sign s) p p' alike is = (local-prefixed_by (prefix_of s)).goes p p' alike
  operand_by-goes other p p' alike is = (local-refuse Syntax).goes p p' alike

  pub local-operand : Local w (operand left inner)
  unfolding operand
  local-operand = record {
    shrinks = λ p. operand_by-shrinks (front p) p;
    goes = λ p p' alike. subst (λ nx. Related w (operand_by left inner (front p) p) (operand_by left inner nx p')) (front-same p p' alike) (operand_by-goes (front p) p p' alike refl);
  }
