-- A recursion on a count of turns, beside a loop that counts up; and one step down.
use Rattle.std.proofs.Common.{◌≡◌, ℕ, suc, ◌+◌, ◌-◌, ◌<◌, ◌≤◌, List, [], ◌∷◌, ◌++◌, length, refl, ap, sym, ◌∙◌, arith}
use Rattle.std.specs.Prelude.{reverse}
use Rattle.std.proofs.lemmas.List.{reverse-append}
use Rattle.sk_tokens.specs.declared.token.Sign.TheVariants as sign
use Rattle.sk_tree.specs.declared.tree.Expr.{Expr}
use Rattle.sk_tree.specs.declared.tree.Expr.TheVariants as tree
use Rattle.sk_reading.specs.declared.reach.Reach.{Reach}
use Rattle.sk_reading.specs.declared.reach.Reach.TheVariants.{Whole}
use Rattle.sk_reading.specs.Reading.{Place, Outcome, Read, Refused, Parser, and_then, expect}
use Rattle.sk_reading.specs.ReadingStatements.{part_below, part_of}
use Rattle.sk_reading.specs.declared.part.Part.{Part}
use Rattle.sk_reading.specs.ReadingExpressions.{opened_by_expression, below, expression, chosen, operators, more}

pub one_more : {X : Type 0} {x : X} (f : ℕ → X) (n at : ℕ) → at < n → x ≡ f (n - at) → x ≡ f (suc (n - (at + 1)))
one_more f n at less e = let turn : n - at ≡ suc (n - (at + 1)) = omega arith in e ∙ ap f turn

pub no_more : {X : Type 0} {x : X} (f : ℕ → X) (n at : ℕ) → n ≤ at → x ≡ f (n - at) → x ≡ f 0
no_more f n at done e = let none : n - at ≡ 0 = omega arith in e ∙ ap f none

below-suc : (left : ℕ) (reach : Reach) (p : Place) → below (suc left) reach p ≡ expression left reach p
unfolding below expression
below-suc left reach p = refl

pub below-some : (left : ℕ) (reach : Reach) (p : Place) → 0 < left → below left reach p ≡ expression (left - 1) reach p
below-some left reach p some =
    let e : left ≡ suc (left - 1) = omega arith in
    ap (λ n. below n reach p) e ∙ below-suc (left - 1) reach p

and_then-then : {A B C : Type 0} (o : Outcome A) (f : A → Parser B) (g : B → Parser C) → and_then (and_then o f) g ≡ and_then o (λ a p. and_then (f a p) g)
and_then-then (Refused refusal left) f g = refl
and_then-then (Read x) f g = refl

-- the other part is read, and the choice waits behind the tests that are left
pub chosen_turn : (left : ℕ) (inner : Reach → Parser Expr) (tests : List Expr) (test value : Expr) (p : Place)
    → chosen left inner (test ∷ tests) value p
    ≡ and_then (and_then (expect sign.Colon p) (λ _ q. and_then (opened_by_expression left q) (λ _. inner Whole))) (λ other. chosen left inner tests (tree.Choose test value other))
unfolding chosen
chosen_turn left inner tests test value p = go (expect sign.Colon p)
  where
    go : (o : Outcome (Unit {0}))
        → and_then o (λ _ q. and_then (opened_by_expression left q) (λ _ r. and_then (inner Whole r) (λ other. chosen left inner tests (tree.Choose test value other))))
        ≡ and_then (and_then o (λ _ q. and_then (opened_by_expression left q) (λ _. inner Whole))) (λ other. chosen left inner tests (tree.Choose test value other))
    go (Refused refusal left) = refl
    go (Read x) = sym (and_then-then (opened_by_expression left x.1) (λ _. inner Whole) (λ other. chosen left inner tests (tree.Choose test value other)))

pub chosen_pop : (left : ℕ) (inner : Reach → Parser Expr) (tests rest : List Expr) (test value : Expr) (p : Place) → tests ≡ rest ++ test ∷ []
    → chosen left inner (reverse tests) value p ≡ chosen left inner (test ∷ reverse rest) value p
chosen_pop left inner tests rest test value p e =
    ap (λ l. chosen left inner l value p) (ap reverse e ∙ reverse-append rest (test ∷ []))

operators-suc : (left : ℕ) (inner : Reach → Parser Expr) (reach : ℕ) (p : Place)
    → operators left inner (suc reach) p ≡ and_then (operators left inner reach p) (λ first q. more left inner (operators left inner reach) reach (length q.rest) first q)
unfolding operators
operators-suc left inner reach p = refl

pub operators-some : (left : ℕ) (inner : Reach → Parser Expr) (reach : ℕ) (p : Place) → 0 < reach
    → operators left inner reach p ≡ and_then (operators left inner (reach - 1) p) (λ first q. more left inner (operators left inner (reach - 1)) (reach - 1) (length q.rest) first q)
operators-some left inner reach p some =
    let e : reach ≡ suc (reach - 1) = omega arith in
    ap (λ n. operators left inner n p) e ∙ operators-suc left inner (reach - 1) p

pub chosen_none : (left : ℕ) (inner : Reach → Parser Expr) (tests : List Expr) (value : Expr) (p : Place) → length tests ≡ 0
    → chosen left inner (reverse tests) value p ≡ Read (value, p)
unfolding chosen
chosen_none left inner [] value p e = refl
chosen_none left inner (test ∷ tests) value p e = absurd (omega arith)

part-suc : (left : ℕ) (kind : Part) (p : Place) → part_below (suc left) kind p ≡ part_of left kind p
unfolding part_below part_of
part-suc left kind p = refl

pub part-some : (left : ℕ) (kind : Part) (p : Place) → 0 < left → part_below left kind p ≡ part_of (left - 1) kind p
part-some left kind p some =
    let e : left ≡ suc (left - 1) = omega arith in
    ap (λ n. part_below n kind p) e ∙ part-suc (left - 1) kind p
