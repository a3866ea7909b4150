-- What is read as an operand has a lawful spelling that keeps the limits, as far as what is read inside it has.
use Rattle.std.proofs.Common.{◌≡◌, ℕ, zero, suc, ◌+◌, ◌≤◌, Bool, true, false, cond, List, [], ◌∷◌, ◌++◌, length, Option, Some, None, IsTrue, drop, refl, ap, sym, subst, ◌∙◌, arith}
use Rattle.sk_grammar.specs.ExpressionSpelling.{Expression, Arguments, in_front, arguments_in_front, tree_in, trees_in, level_in, IsLawful, AreLawful, sign_at, word, typed}
use Rattle.sk_grammar.specs.Limits.{IsShallow, AreShallow, nodes_in, nodes_of, Opened, Flat}
use Rattle.sk_names.specs.Words.{is_name}
use Rattle.sk_grammar.specs.Signs.{prefix_of}
use Rattle.sk_tokens.specs.declared.token.Sign.{Sign}
use Rattle.sk_tokens.specs.declared.token.Sign.TheVariants as sign
use Rattle.sk_tree.specs.declared.tree.Expr.{Expr}
use Rattle.sk_tree.specs.declared.tree.Expr.TheVariants as tree
use Rattle.sk_tree.specs.declared.tree.Un.{Un}
use Rattle.sk_reading.specs.declared.next.Next.{Next}
use Rattle.sk_reading.specs.declared.next.Next.TheVariants as next
use Rattle.sk_reading.specs.declared.reach.Reach.TheVariants.{Whole, Operand}
use Rattle.sk_reading.specs.Reading.{Place, Read, Parser, and_then, front, advance, sees, after, expect, name, number, ty, count_node, opened}
use Rattle.sk_reading.specs.ReadingExpressions.{operand, operand_by, literal, named, named_by, member, called, indexed, bracketed, begins_conversion, conversion, parenthesized, prefixed, prefixed_by, below, arguments, arguments_from}
use Rattle.sk_reading_sound_laws.proofs.Commas.{loop-sound}
use Rattle.sk_reading_sound_laws.proofs.Steps.{lines_of, bound, along, Takes, sign-takes, sees-sign, expect-takes, name-takes, number-takes, ty-takes, count-counts, opens}

pub record Spelled (left reach : ℕ) (p : Place) (e : Expr) (q : Place) : Type 0 where
  pub spelling : Expression
  pub lawful : IsLawful spelling
  pub level : 11 ≤ level_in spelling + reach
  pub shallow : IsShallow spelling left
  pub tokens : p.rest ≡ in_front spelling q.rest
  pub is_tree : tree_in spelling ≡ e
  pub nodes : q.nodes ≡ p.nodes + nodes_in spelling
  pub few : q.nodes ≤ 1024
  pub instances : q.instances ≡ p.instances

pub record SpelledArguments (left : ℕ) (p : Place) (es : List Expr) (q : Place) : Type 0 where
  pub spelling : Arguments
  pub lawful : AreLawful spelling
  pub shallow : AreShallow spelling left
  pub tokens : p.rest ≡ arguments_in_front spelling q.rest
  pub is_tree : trees_in spelling ≡ es
  pub nodes : q.nodes ≡ p.nodes + nodes_of spelling
  pub few : q.nodes ≤ 1024
  pub instances : q.instances ≡ p.instances

abbrev pub Sound : (left reach : ℕ) → Parser Expr → Type 0
Sound left reach read = (p : Place) (x : Expr × Place) → read p ≡ Read x → Spelled left reach p x.0 x.1

-- a reader of what is inside
abbrev pub SoundBelow : ℕ → Type 0
SoundBelow zero = Unit {0}
SoundBelow (suc left) = Sound left 11 (below (suc left) Whole) × Sound left 0 (below (suc left) Operand)

literal-sound : (left : ℕ) (p : Place) (x : Expr × Place) → literal left (below left) p ≡ Read x → Spelled left 0 p x.0 x.1
unfolding literal
literal-sound left p x h =
    let (c, count-is, h) = bound (count_node p) _ x h in
    let counts = count-counts p c count-is in
    let (n, number-is, h) = bound (number c.1) _ x h in
    let (line, takes) = number-takes c.1 n number-is in
    along (Spelled left 0 p) h (record {
      spelling = Expression.Number line n.0.0 n.0.1;
      lawful = tt;
      level = omega arith;
      shallow = tt;
      tokens = sym counts.rest ∙ takes.tokens;
      is_tree = refl;
      nodes = takes.nodes ∙ counts.nodes;
      few = omega (arith, counts.few, takes.nodes);
      instances = takes.instances ∙ counts.instances;
    })

parenthesized-sound : (left : ℕ) → SoundBelow left → (p : Place) → front p ≡ next.Sign sign.OpenParen → (x : Expr × Place)
    → parenthesized left (below left) p ≡ Read x → Spelled left 0 p x.0 x.1
unfolding parenthesized opened advance
parenthesized-sound zero inside p first x h = absurd (cc)
parenthesized-sound (suc left) inside p first x h =
    let (line, opening) = sign-takes p sign.OpenParen first in
    let (w, whole-is, h) = bound (below (suc left) Whole (advance p)) _ x h in
    let s = inside.0 (advance p) w whole-is in
    let (u, expect-is, h) = bound (expect sign.CloseParen w.1) _ x h in
    let (line', closing) = expect-takes w.1 sign.CloseParen u expect-is in
    along (Spelled (suc left) 0 p) h (record {
      spelling = Expression.Paren (lines_of (line ∷ line' ∷ [])) s.spelling;
      lawful = s.lawful;
      level = omega arith;
      shallow = s.shallow;
      tokens = opening.tokens ∙ ap (λ r. sign_at sign.OpenParen line ∷ r) (s.tokens ∙ ap (in_front s.spelling) closing.tokens);
      is_tree = s.is_tree;
      nodes = closing.nodes ∙ s.nodes;
      few = omega (arith, closing.nodes, s.few);
      instances = closing.instances ∙ s.instances;
    })

conversion-sound : (left : ℕ) → SoundBelow left → (p : Place) (x : Expr × Place) → conversion left (below left) p ≡ Read x → Spelled left 0 p x.0 x.1
unfolding conversion opened
conversion-sound zero inside p x h = absurd (cc)
conversion-sound (suc left) inside p x h =
    let (c, count-is, h) = bound (count_node p) _ x h in
    let counts = count-counts p c count-is in
    let (o, open-is, h) = bound (expect sign.OpenParen c.1) _ x h in
    let (line, opening) = expect-takes c.1 sign.OpenParen o open-is in
    let (t, ty-is, h) = bound (ty o.1) _ x h in
    let (line', typing) = ty-takes o.1 t ty-is in
    let (u, close-is, h) = bound (expect sign.CloseParen t.1) _ x h in
    let (line'', closing) = expect-takes t.1 sign.CloseParen u close-is in
    let (w, operand-is, h) = bound (below (suc left) Operand u.1) _ x h in
    let s = inside.1 u.1 w operand-is in
    along (Spelled (suc left) 0 p) h (record {
      spelling = Expression.Convert (lines_of (line ∷ line' ∷ line'' ∷ [])) t.0 s.spelling;
      lawful = (omega (arith, s.level), s.lawful);
      level = omega arith;
      shallow = s.shallow;
      tokens = sym counts.rest ∙ opening.tokens ∙ ap (λ r. sign_at sign.OpenParen line ∷ r) (typing.tokens
          ∙ ap (λ r. typed t.0 line' ∷ r) (closing.tokens ∙ ap (λ r. sign_at sign.CloseParen line'' ∷ r) s.tokens));
      is_tree = ap (tree.Cast t.0) s.is_tree;
      nodes = omega (arith, s.nodes, closing.nodes, typing.nodes, opening.nodes, counts.nodes);
      few = s.few;
      instances = s.instances ∙ closing.instances ∙ typing.instances ∙ opening.instances ∙ counts.instances;
    })

prefixed-sound : (left : ℕ) → SoundBelow left → (p : Place) (sg : Sign) (op : Un) → front p ≡ next.Sign sg → prefix_of sg ≡ Some op → (x : Expr × Place)
    → prefixed left (below left) op p ≡ Read x → Spelled left 0 p x.0 x.1
unfolding prefixed opened advance
prefixed-sound zero inside p sg op first is x h = absurd (cc)
prefixed-sound (suc left) inside p sg op first is x h =
    let (line, opening) = sign-takes p sg first in
    let (c, count-is, h) = bound (count_node p) _ x h in
    let counts = count-counts p c count-is in
    let (w, operand-is, h) = bound (below (suc left) Operand (advance c.1)) _ x h in
    let s = inside.1 (advance c.1) w operand-is in
    along (Spelled (suc left) 0 p) h (record {
      spelling = Expression.Prefix line sg op s.spelling;
      lawful = (is, omega (arith, s.level), s.lawful);
      level = omega arith;
      shallow = s.shallow;
      tokens = opening.tokens ∙ ap (λ r. sign_at sg line ∷ r) (sym (ap (drop 1) counts.rest) ∙ s.tokens);
      is_tree = ap (tree.Unary op) s.is_tree;
      nodes = omega (arith, s.nodes, counts.nodes);
      few = s.few;
      instances = s.instances ∙ counts.instances;
    })

bracketed-sound : (left : ℕ) → SoundBelow left → (p : Place) → front p ≡ next.Sign sign.OpenParen → (x : Expr × Place)
    → bracketed left (below left) p ≡ Read x → Spelled left 0 p x.0 x.1
unfolding bracketed
bracketed-sound left inside p first x h = go (begins_conversion p) h
  where
    go : (b : Bool) → cond b (conversion left (below left) p) (parenthesized left (below left) p) ≡ Read x → Spelled left 0 p x.0 x.1
    go true h = conversion-sound left inside p x h
    go false h = parenthesized-sound left inside p first x h

-- ---- parts that begin with a name, which has been counted and taken

-- the name at a place, and where it leaves off
record Begun (line : ℕ) (w : List ℕ) (p q : Place) : Type 0 where
  free : IsTrue (is_name w)
  tokens : p.rest ≡ word w line ∷ q.rest
  nodes : q.nodes ≡ p.nodes + 1
  few : q.nodes ≤ 1024
  instances : q.instances ≡ p.instances

arguments_from-sound : (left : ℕ) (read : Parser Expr) → Sound left 11 read → (turns : ℕ) (found : List Expr) (p : Place) (x : List Expr × Place) → arguments_from read turns found p ≡ Read x
    → (es : List Expr) × (x.0 ≡ found ++ es) × SpelledArguments left p es x.1
unfolding arguments_from after
arguments_from-sound left read sound =
    loop-sound read (λ e. e) (arguments_from read) (SpelledArguments left) (λ found p. refl, λ turns found p. refl) last before
  where
    last : (p : Place) (a : Expr × Place) → read p ≡ Read a → SpelledArguments left p (a.0 ∷ []) a.1
    last p a is =
        let s = sound p a is in
        record {
          spelling = Arguments.Last s.spelling;
          lawful = s.lawful;
          shallow = s.shallow;
          tokens = s.tokens;
          is_tree = ap (λ e. e ∷ []) s.is_tree;
          nodes = s.nodes;
          few = s.few;
          instances = s.instances;
        }

    before : (p : Place) (a : Expr × Place) → read p ≡ Read a → (line : ℕ) → Takes (sign_at sign.Comma line) a.1 (advance a.1)
        → (es : List Expr) (q : Place) → SpelledArguments left (advance a.1) es q → SpelledArguments left p (a.0 ∷ es) q
    before p a is line comma es q others =
        let s = sound p a is in
        record {
          spelling = Arguments.More s.spelling line others.spelling;
          lawful = (s.lawful, others.lawful);
          shallow = (s.shallow, others.shallow);
          tokens = s.tokens ∙ ap (in_front s.spelling) (comma.tokens ∙ ap (λ r. sign_at sign.Comma line ∷ r) others.tokens);
          is_tree = ap (λ e. e ∷ trees_in others.spelling) s.is_tree ∙ ap (λ l. a.0 ∷ l) others.is_tree;
          nodes = omega (arith, s.nodes, others.nodes, comma.nodes);
          few = others.few;
          instances = others.instances ∙ comma.instances ∙ s.instances;
        }

called-sound : (left : ℕ) → SoundBelow left → (p q : Place) (line : ℕ) (w : List ℕ) → Begun line w p q → front q ≡ next.Sign sign.OpenParen
    → (x : Expr × Place) → called left (below left) w q ≡ Read x → Spelled left 0 p x.0 x.1
unfolding called opened advance after arguments
called-sound zero inside p q line w begun first x h = absurd (cc)
called-sound (suc left) inside p q line w begun first x h = go (sees sign.CloseParen (advance q)) refl h
  where
    go : (b : Bool) → sees sign.CloseParen (advance q) ≡ b
        → cond {A = Parser Expr} b (λ r. Read (tree.Apply w [], r))
        (λ r. and_then (arguments false (below (suc left) Whole) r) (λ found r. and_then (expect sign.CloseParen r) (λ _ r. Read (tree.Apply w found, r))))
        (cond b (advance (advance q)) (advance q)) ≡ Read x
        → Spelled (suc left) 0 p x.0 x.1
    go true is h =
        let (line', opening) = sign-takes q sign.OpenParen first in
        let (line'', closing) = sign-takes (advance q) sign.CloseParen (sees-sign (advance q) sign.CloseParen is) in
        along (Spelled (suc left) 0 p) h (record {
          spelling = Expression.Alone (lines_of (line ∷ line' ∷ line'' ∷ [])) w;
          lawful = begun.free;
          level = omega arith;
          shallow = tt;
          tokens = begun.tokens ∙ ap (λ r. word w line ∷ r) (opening.tokens ∙ ap (λ r. sign_at sign.OpenParen line' ∷ r) closing.tokens);
          is_tree = refl;
          nodes = begun.nodes;
          few = begun.few;
          instances = begun.instances;
        })
    go false is h =
        let (line', opening) = sign-takes q sign.OpenParen first in
        let (a, arguments-are, h) = bound (arguments false (below (suc left) Whole) (advance q)) _ x h in
        let (es, all, s) = arguments_from-sound left (below (suc left) Whole) inside.0 (length (advance q).rest) [] (advance q) a arguments-are in
        let (u, close-is, h) = bound (expect sign.CloseParen a.1) _ x h in
        let (line'', closing) = expect-takes a.1 sign.CloseParen u close-is in
        along (Spelled (suc left) 0 p) h (record {
          spelling = Expression.Apply (lines_of (line ∷ line' ∷ line'' ∷ [])) w s.spelling;
          lawful = (begun.free, s.lawful);
          level = omega arith;
          shallow = s.shallow;
          tokens = begun.tokens ∙ ap (λ r. word w line ∷ r) (opening.tokens ∙ ap (λ r. sign_at sign.OpenParen line' ∷ r)
              (s.tokens ∙ ap (arguments_in_front s.spelling) closing.tokens));
          is_tree = ap (tree.Apply w) (s.is_tree ∙ sym all);
          nodes = omega (arith, closing.nodes, s.nodes, begun.nodes);
          few = omega (arith, closing.nodes, s.few);
          instances = closing.instances ∙ s.instances ∙ begun.instances;
        })

indexed-sound : (left : ℕ) → SoundBelow left → (p q : Place) (line : ℕ) (w : List ℕ) → Begun line w p q → front q ≡ next.Sign sign.OpenBracket
    → (x : Expr × Place) → indexed left (below left) w q ≡ Read x → Spelled left 0 p x.0 x.1
unfolding indexed opened advance
indexed-sound zero inside p q line w begun first x h = absurd (cc)
indexed-sound (suc left) inside p q line w begun first x h =
    let (line', opening) = sign-takes q sign.OpenBracket first in
    let (a, place-is, h) = bound (below (suc left) Whole (advance q)) _ x h in
    let s = inside.0 (advance q) a place-is in
    let (u, close-is, h) = bound (expect sign.CloseBracket a.1) _ x h in
    let (line'', closing) = expect-takes a.1 sign.CloseBracket u close-is in
    along (Spelled (suc left) 0 p) h (record {
      spelling = Expression.Index (lines_of (line ∷ line' ∷ line'' ∷ [])) w s.spelling;
      lawful = (begun.free, s.lawful);
      level = omega arith;
      shallow = s.shallow;
      tokens = begun.tokens ∙ ap (λ r. word w line ∷ r) (opening.tokens ∙ ap (λ r. sign_at sign.OpenBracket line' ∷ r)
          (s.tokens ∙ ap (in_front s.spelling) closing.tokens));
      is_tree = ap (λ e. tree.Apply w (e ∷ [])) s.is_tree;
      nodes = omega (arith, closing.nodes, s.nodes, begun.nodes);
      few = omega (arith, closing.nodes, s.few);
      instances = closing.instances ∙ s.instances ∙ begun.instances;
    })

member-sound : (left : ℕ) (p q : Place) (line : ℕ) (w : List ℕ) → Begun line w p q → front q ≡ next.Sign sign.Dot
    → (x : Expr × Place) → member left (below left) w q ≡ Read x → Spelled left 0 p x.0 x.1
unfolding member advance
member-sound left p q line w begun first x h =
    let (line', dot) = sign-takes q sign.Dot first in
    let (a, name-is, h) = bound (name (advance q)) _ x h in
    let (line'', free, takes) = name-takes (advance q) a name-is in
    let to = begun.tokens ∙ ap (λ r. word w line ∷ r) (dot.tokens ∙ ap (λ r. sign_at sign.Dot line' ∷ r) takes.tokens) in
    go a line' line'' free (omega (arith, takes.nodes, begun.nodes)) (omega (arith, takes.nodes, begun.few)) (takes.instances ∙ begun.instances) to (sees sign.OpenParen a.1) refl h
  where
    go : (a : List ℕ × Place) (line' line'' : ℕ) → IsTrue (is_name a.0) → a.1.nodes ≡ p.nodes + 1 → a.1.nodes ≤ 1024 → a.1.instances ≡ p.instances
        → p.rest ≡ word w line ∷ sign_at sign.Dot line' ∷ word a.0 line'' ∷ a.1.rest
        → (b : Bool) → sees sign.OpenParen a.1 ≡ b
        → cond {A = Parser Expr} b (λ r. and_then (opened left r) (λ _ r. and_then (expect sign.CloseParen (advance r)) (λ _ r. Read (tree.Method w a.0, r)))) (λ r. Read (tree.Field w a.0, r)) a.1 ≡ Read x
        → Spelled left 0 p x.0 x.1
    go a line' line'' free nodes few instances tokens false is h = along (Spelled left 0 p) h (record {
      spelling = Expression.Field (lines_of (line ∷ line' ∷ line'' ∷ [])) w a.0;
      lawful = (begun.free, free);
      level = omega arith;
      shallow = tt;
      tokens = tokens;
      is_tree = refl;
      nodes = nodes;
      few = few;
      instances = instances;
    })
    go a line' line'' free nodes few instances tokens true is h =
        let (o, open-is, h) = bound (opened left a.1) _ x h in
        let (inside, left-is, same) = opens left a.1 o open-is in
        let (u, close-is, h) = bound (expect sign.CloseParen (advance o.1)) _ x h in
        let (line4, closing) = expect-takes (advance o.1) sign.CloseParen u close-is in
        let (line3, opening) = sign-takes a.1 sign.OpenParen (sees-sign a.1 sign.OpenParen is) in
        along (Spelled left 0 p) h (record {
          spelling = Expression.Method (lines_of (line ∷ line' ∷ line'' ∷ line3 ∷ line4 ∷ [])) w a.0;
          lawful = (begun.free, free);
          level = omega arith;
          shallow = subst (Opened Flat) (sym left-is) tt;
          tokens = tokens ∙ ap (λ r. word w line ∷ sign_at sign.Dot line' ∷ word a.0 line'' ∷ r) (opening.tokens ∙ ap (λ r. sign_at sign.OpenParen line3 ∷ r)
              (sym (ap (λ (z : Place). drop 1 z.rest) same) ∙ closing.tokens));
          is_tree = refl;
          nodes = closing.nodes ∙ ap (λ (z : Place). z.nodes) same ∙ nodes;
          few = omega (arith, closing.nodes, ap (λ (z : Place). z.nodes) same, few);
          instances = closing.instances ∙ ap (λ (z : Place). z.instances) same ∙ instances;
        })

named-sound : (left : ℕ) → SoundBelow left → (p : Place) (x : Expr × Place) → named left (below left) p ≡ Read x → Spelled left 0 p x.0 x.1
unfolding named
named-sound left inside p x h =
    let (c, count-is, h) = bound (count_node p) _ x h in
    let counts = count-counts p c count-is in
    let (a, name-is, h) = bound (name c.1) _ x h in
    let (line, free, takes) = name-takes c.1 a name-is in
    go a line (record {
      free = free;
      tokens = sym counts.rest ∙ takes.tokens;
      nodes = takes.nodes ∙ counts.nodes;
      few = omega (arith, takes.nodes, counts.few);
      instances = takes.instances ∙ counts.instances;
    }) (front a.1) refl h
  where
    plain : (a : List ℕ × Place) (line : ℕ) → Begun line a.0 p a.1 → Read (tree.Name a.0, a.1) ≡ Read x → Spelled left 0 p x.0 x.1
    plain a line begun h = along (Spelled left 0 p) h (record {
      spelling = Expression.Name line a.0;
      lawful = begun.free;
      level = omega arith;
      shallow = tt;
      tokens = begun.tokens;
      is_tree = refl;
      nodes = begun.nodes;
      few = begun.few;
      instances = begun.instances;
    })

    go : (a : List ℕ × Place) (line : ℕ) → Begun line a.0 p a.1 → (nx : Next) → front a.1 ≡ nx → named_by left (below left) a.0 nx a.1 ≡ Read x → Spelled left 0 p x.0 x.1
    go a line begun (next.Sign sign.OpenParen) is h = called-sound left inside p a.1 line a.0 begun is x h
    go a line begun (next.Sign sign.OpenBracket) is h = indexed-sound left inside p a.1 line a.0 begun is x h
    go a line begun (next.Sign sign.Dot) is h = member-sound left p a.1 line a.0 begun is x h
    go a line begun (next.Sign s) is h = plain a line begun h
    go a line begun other is h = plain a line begun h

pub operand-sound : (left : ℕ) → SoundBelow left → Sound left 0 (operand left (below left))
unfolding operand
operand-sound left inside p x h = go (front p) refl h
  where
    by-prefix : (sg : Sign) (o : Option Un) → prefix_of sg ≡ o → front p ≡ next.Sign sg → prefixed_by left (below left) o p ≡ Read x → Spelled left 0 p x.0 x.1
    by-prefix sg (Some op) is first h = prefixed-sound left inside p sg op first is x h
    by-prefix sg None is first h = absurd (cc)

    go : (nx : Next) → front p ≡ nx → operand_by left (below left) nx p ≡ Read x → Spelled left 0 p x.0 x.1
    go next.Number is h = literal-sound left p x h
    go next.Name is h = named-sound left inside p x h
    go (next.Sign sign.OpenParen) is h = bracketed-sound left inside p is x h
    go (next.Sign s) is h = by-prefix s (prefix_of s) refl is h
    go (next.Keyword k) is h = absurd (cc)
    go next.Text is h = absurd (cc)
    go next.End is h = absurd (cc)
