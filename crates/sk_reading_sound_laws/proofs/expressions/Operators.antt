-- What is read as an expression has a lawful spelling that keeps the limits: operators and choices.
use Rattle.std.proofs.Common.{◌≡◌, ℕ, zero, suc, ◌+◌, Bool, true, false, cond, ◌==◌, List, [], ◌∷◌, length, Option, Some, None, drop, refl, ap, sym, subst, ◌∙◌, arith, rules}
use Rattle.sk_grammar.specs.ExpressionSpelling.{Expression, in_front, tree_in, joined, sign_at}
use Rattle.sk_grammar.specs.Signs.{infix_of, infix_level}
use Rattle.sk_grammar.specs.declared.infix.Infix.{Infix}
use Rattle.sk_refusals.specs.declared.refusal.Refusal.TheVariants.{Syntax}
use Rattle.sk_tokens.specs.declared.token.Sign.{Sign}
use Rattle.sk_tokens.specs.declared.token.Sign.TheVariants as sign
use Rattle.sk_tree.specs.declared.tree.Expr.{Expr}
use Rattle.sk_tree.specs.declared.tree.Expr.TheVariants as tree
use Rattle.sk_reading.specs.declared.next.Next.{Next}
use Rattle.sk_reading.specs.declared.next.Next.TheVariants as next
use Rattle.sk_reading.specs.declared.reach.Reach.TheVariants.{Whole}
use Rattle.sk_reading.specs.Reading.{Place, Read, Parser, and_then, refuse, front, advance, sees, expect, count_node, opened}
use Rattle.sk_reading.specs.ReadingExpressions.{begins_expression, opened_by_expression, more, at_reach, infix_at, operators, chosen, choice_from, choice, below}
use Rattle.sk_reading_sound_laws.proofs.Steps.{lines_of, bound, along, some-is, sign-takes, sees-sign, expect-takes, count-counts, opens}
use Rattle.sk_reading_sound_laws.proofs.expressions.Operands.{Spelled, Sound, SoundBelow, operand-sound}

-- ---- operators

at_reach-is : (reach : ℕ) (o : Option Infix) (j : Infix) → at_reach reach o ≡ Some j → (o ≡ Some j) × (infix_level j + reach ≡ 10)
at_reach-is reach None j h = absurd (cc)
at_reach-is reach (Some i) j h = go (infix_level i + reach == 10) refl h
  where
    go : (b : Bool) → (infix_level i + reach == 10) ≡ b → cond b (Some i) None ≡ Some j → (Some i ≡ Some j) × (infix_level j + reach ≡ 10)
    go true is h =
        let level : infix_level i + reach ≡ 10 = search (rules, is) in
        (h, subst (λ k. infix_level k + reach ≡ 10) (some-is h) level)
    go false is h = absurd (cc)

pub infix_at-is : (reach : ℕ) (nx : Next) (j : Infix) → infix_at reach nx ≡ Some j → (sg : Sign) × (nx ≡ next.Sign sg) × (infix_of sg ≡ Some j) × (infix_level j + reach ≡ 10)
infix_at-is reach (next.Sign s) j h = let (is, level) = at_reach-is reach (infix_of s) j h in (s, refl, is, level)
infix_at-is reach (next.Keyword k) j h = absurd (cc)
infix_at-is reach next.Name j h = absurd (cc)
infix_at-is reach next.Number j h = absurd (cc)
infix_at-is reach next.Text j h = absurd (cc)
infix_at-is reach next.End j h = absurd (cc)

more-sound : (left reach : ℕ) (part : Parser Expr) → Sound left reach part → (turns : ℕ) (first : Expr) (p q : Place) → Spelled left (suc reach) p first q
    → (x : Expr × Place) → more left (below left) part reach turns first q ≡ Read x → Spelled left (suc reach) p x.0 x.1
unfolding more advance
more-sound left reach part sound zero first p q s x h = along (Spelled left (suc reach) p) h s
more-sound left reach part sound (suc turns) first p q s x h = go (infix_at reach (front q)) refl h (λ e r t. more-sound left reach part sound turns e p r t x)
  where
    go : (o : Option Infix) → infix_at reach (front q) ≡ o
        → elim o [
          | None ↦ Read (first, q)
          | Some j ↦ and_then (count_node q) (λ _ r. and_then (part (advance r)) (λ second r. more left (below left) part reach turns (joined j first second) r))
        ] ≡ Read x
        → ((e : Expr) (r : Place) → Spelled left (suc reach) p e r → more left (below left) part reach turns e r ≡ Read x → Spelled left (suc reach) p x.0 x.1)
        → Spelled left (suc reach) p x.0 x.1
    go None is h later = along (Spelled left (suc reach) p) h s
    go (Some j) is h later =
        let (sg, front-is, infix-is, level) = infix_at-is reach (front q) j is in
        let (line, takes) = sign-takes q sg front-is in
        let (c, count-is, h) = bound (count_node q) _ x h in
        let counts = count-counts q c count-is in
        let (b, part-is, h) = bound (part (advance c.1)) _ x h in
        let t = sound (advance c.1) b part-is in
        later (joined j first b.0) b.1 (record {
          spelling = Expression.Join line sg j s.spelling t.spelling;
          lawful = (infix-is, omega (arith, s.level, level), omega (arith, t.level, level), s.lawful, t.lawful);
          level = omega (arith, level);
          shallow = (s.shallow, t.shallow);
          tokens = s.tokens ∙ ap (in_front s.spelling) (takes.tokens ∙ ap (λ r. sign_at sg line ∷ r) (sym (ap (drop 1) counts.rest) ∙ t.tokens));
          is_tree = ap (λ e. joined j e (tree_in t.spelling)) s.is_tree ∙ ap (joined j first) t.is_tree;
          nodes = omega (arith, t.nodes, counts.nodes, s.nodes);
          few = t.few;
          instances = t.instances ∙ counts.instances ∙ s.instances;
        }) h

pub operators-sound : (left : ℕ) → SoundBelow left → (reach : ℕ) → Sound left reach (operators left (below left) reach)
unfolding operators
operators-sound left inside zero p x h = operand-sound left inside p x h
operators-sound left inside (suc reach) p x h =
    let (a, first-is, h) = bound (operators left (below left) reach p) _ x h in
    let s = operators-sound left inside reach p a first-is in
    more-sound left reach (operators left (below left) reach) (operators-sound left inside reach) (length a.1.rest) a.0 p a.1
    (record {
      spelling = s.spelling;
      lawful = s.lawful;
      level = omega (arith, s.level);
      shallow = s.shallow;
      tokens = s.tokens;
      is_tree = s.is_tree;
      nodes = s.nodes;
      few = s.few;
      instances = s.instances;
    }) x h

-- ---- choices

-- one more is opened, and nothing is taken
opens-expression : (left : ℕ) (p : Place) (x : Unit {0} × Place) → opened_by_expression left p ≡ Read x → (inside : ℕ) × (left ≡ suc inside) × (x.1 ≡ p)
unfolding opened_by_expression
opens-expression left p x h = go (begins_expression (front p)) h
  where
    go : (b : Bool) → cond b (opened left p) (refuse Syntax p) ≡ Read x → (inside : ℕ) × (left ≡ suc inside) × (x.1 ≡ p)
    go true h = opens left p x h
    go false h = absurd (cc)

-- from a value on, some whole expression is read, with what waits behind it
choice_from-sound : (left : ℕ) → SoundBelow left → (turns : ℕ) (tests : List Expr) (value : Expr) (p q : Place) → Spelled left 10 p value q
    → (x : Expr × Place) → choice_from left (below left) turns tests value q ≡ Read x
    → (y : Expr × Place) × Spelled left 11 p y.0 y.1 × (chosen left (below left) tests y.0 y.1 ≡ Read x)
unfolding choice_from chosen advance
choice_from-sound left inside zero tests value p q s x h = absurd (cc)
choice_from-sound left inside (suc turns) tests value p q s x h =
    go (sees sign.Question q) refl h (λ e r w t k. choice_from-sound left inside turns (value ∷ tests) e r w t x k)
  where
    after-test : (left : ℕ) → SoundBelow left → (r : Place) (line : ℕ) (y : Expr × Place) → Spelled left 10 p value q → q.rest ≡ sign_at sign.Question line ∷ r.rest
        → r.nodes ≡ q.nodes + 1 → r.instances ≡ q.instances → Spelled left 11 r y.0 y.1 → chosen left (below left) (value ∷ tests) y.0 y.1 ≡ Read x
        → (z : Expr × Place) × Spelled left 11 p z.0 z.1 × (chosen left (below left) tests z.0 z.1 ≡ Read x)
    after-test zero inside r line y s rest nodes instances one h =
        let (u, colon-is, h) = bound (expect sign.Colon y.1) _ x h in
        let (o, open-is, h) = bound (opened_by_expression zero u.1) _ x h in
        let (below, is, same) = opens-expression zero u.1 o open-is in absurd (cc)
    after-test (suc left) inside r line y s rest nodes instances one h =
        let (u, colon-is, h) = bound (expect sign.Colon y.1) _ x h in
        let (line', colon) = expect-takes y.1 sign.Colon u colon-is in
        let (o, open-is, h) = bound (opened_by_expression (suc left) u.1) _ x h in
        let (deeper, is, same) = opens-expression (suc left) u.1 o open-is in
        let (b, other-is, h) = bound (below (suc left) Whole o.1) _ x h in
        let other = inside.0 o.1 b other-is in (
          (tree.Choose value y.0 b.0, b.1),
          record {
            spelling = Expression.Choose (lines_of (line ∷ line' ∷ [])) s.spelling one.spelling other.spelling;
            lawful = (omega (arith, s.level), s.lawful, one.lawful, other.lawful);
            level = omega arith;
            shallow = (s.shallow, one.shallow, other.shallow);
            tokens = s.tokens ∙ ap (in_front s.spelling) (rest ∙ ap (λ l. sign_at sign.Question line ∷ l) (one.tokens
                ∙ ap (in_front one.spelling) (colon.tokens ∙ ap (λ l. sign_at sign.Colon line' ∷ l) (sym (ap (λ (z : Place). z.rest) same) ∙ other.tokens))));
            is_tree = ap (λ e. tree.Choose e (tree_in one.spelling) (tree_in other.spelling)) s.is_tree
                ∙ ap (λ e. tree.Choose value e (tree_in other.spelling)) one.is_tree ∙ ap (tree.Choose value y.0) other.is_tree;
            nodes = omega (arith, other.nodes, ap (λ (z : Place). z.nodes) same, colon.nodes, one.nodes, nodes, s.nodes);
            few = other.few;
            instances = other.instances ∙ ap (λ (z : Place). z.instances) same ∙ colon.instances ∙ one.instances ∙ instances ∙ s.instances;
          },
          h,
        )

    go : (b : Bool) → sees sign.Question q ≡ b
        → cond b (and_then (count_node q) (λ _ r. and_then (operators left (below left) 10 (advance r)) (λ second r. choice_from left (below left) turns (value ∷ tests) second r)))
        (chosen left (below left) tests value q) ≡ Read x
        → ((e : Expr) (r : Place) (w : Place) → Spelled left 10 r e w → choice_from left (below left) turns (value ∷ tests) e w ≡ Read x
        → (y : Expr × Place) × Spelled left 11 r y.0 y.1 × (chosen left (below left) (value ∷ tests) y.0 y.1 ≡ Read x))
        → (y : Expr × Place) × Spelled left 11 p y.0 y.1 × (chosen left (below left) tests y.0 y.1 ≡ Read x)
    go false is h later = (
      (value, q),
      record {
        spelling = s.spelling;
        lawful = s.lawful;
        level = omega arith;
        shallow = s.shallow;
        tokens = s.tokens;
        is_tree = s.is_tree;
        nodes = s.nodes;
        few = s.few;
        instances = s.instances;
      },
      h,
    )
    go true is h later =
        let (line, takes) = sign-takes q sign.Question (sees-sign q sign.Question is) in
        let (c, count-is, h) = bound (count_node q) _ x h in
        let counts = count-counts q c count-is in
        let (b, second-is, h) = bound (operators left (below left) 10 (advance c.1)) _ x h in
        let (y, one, h) = later b.0 (advance c.1) b.1 (operators-sound left inside 10 (advance c.1) b second-is) h in
        after-test left inside (advance c.1) line y s (takes.tokens ∙ ap (λ l. sign_at sign.Question line ∷ l) (sym (ap (drop 1) counts.rest))) counts.nodes counts.instances one h

pub choice-sound : (left : ℕ) → SoundBelow left → Sound left 11 (choice left (below left))
unfolding choice chosen
choice-sound left inside p x h =
    let (a, first-is, h) = bound (operators left (below left) 10 p) _ x h in
    let (y, s, h) = choice_from-sound left inside (length p.rest) [] a.0 p a.1 (operators-sound left inside 10 p a first-is) x h in
    along (Spelled left 11 p) h s

pub below-sound : (left : ℕ) → SoundBelow left
unfolding below
below-sound zero = tt
below-sound (suc left) = (choice-sound left (below-sound left), operand-sound left (below-sound left))
