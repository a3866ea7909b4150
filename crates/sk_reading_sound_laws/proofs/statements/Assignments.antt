-- What is read as a value, a target, an assignment or a declaration has a lawful spelling that keeps the limits.
use Rattle.std.proofs.Common.{◌≡◌, ℕ, zero, suc, ◌+◌, ◌≤◌, ◌⊎◌, inl, inr, List, [], ◌∷◌, ◌++◌, length, Option, Some, None, IsTrue, refl, ap, sym, subst, ◌∙◌, arith}
use Rattle.sk_base.specs.declared.number.Op.{Op}
use Rattle.sk_base.specs.declared.number.Op.TheVariants as op
use Rattle.sk_grammar.specs.ExpressionSpelling.{Expression, Arguments, in_front, arguments_in_front, tree_in, trees_in, level_in, IsLawful, AreLawful, sign_at, word, typed}
use Rattle.sk_grammar.specs.Limits.{IsSmall, AreSmall, TargetFits, AssignmentFits, SimpleFits}
use Rattle.sk_grammar.specs.Signs.{Assigns, Plainly, Joining, assigns_of, step_of}
use Rattle.sk_grammar.specs.StatementSpelling as form
use Rattle.sk_names.specs.Words.{is_name}
use Rattle.sk_tokens.specs.declared.token.Sign.{Sign}
use Rattle.sk_tokens.specs.declared.token.Sign.TheVariants as sign
use Rattle.sk_tree.specs.declared.tree.Expr.{Expr}
use Rattle.sk_tree.specs.declared.tree.Expr.TheVariants as tree
use Rattle.sk_tree.specs.declared.tree.What.{What}
use Rattle.sk_tree.specs.declared.tree.What.TheVariants as what
use Rattle.sk_reading.specs.declared.next.Next.{Next}
use Rattle.sk_reading.specs.declared.next.Next.TheVariants as next
use Rattle.sk_reading.specs.declared.reach.Reach.TheVariants.{Whole, Sum}
use Rattle.sk_reading.specs.declared.keyword.Keyword.TheVariants as key
use Rattle.sk_reading.specs.declared.update.Update.{Update}
use Rattle.sk_reading.specs.declared.update.Update.TheVariants.{Value, Joined, Step}
use Rattle.sk_reading.specs.declared.target.Target.{Target}
use Rattle.sk_reading.specs.declared.target.Target.TheVariants.{Variable, Element, Bracketed}
use Rattle.sk_reading.specs.Reading.{Place, Read, front, advance, after, expect, name, ty, opened}
use Rattle.sk_reading.specs.ReadingExpressions.{below, arguments, arguments_from, expression}
use Rattle.sk_reading.specs.ReadingAssignments as reading
use Rattle.sk_reading_sound_laws.proofs.Commas.{loop-sound}
use Rattle.sk_reading_sound_laws.proofs.expressions.Operators.{operators-sound, choice-sound, below-sound}
use Rattle.sk_reading_sound_laws.proofs.expressions.Operands.{Spelled}
use Rattle.sk_reading_sound_laws.proofs.Steps.{lines_of, bound, along, some-is, Takes, sign-takes, expect-takes, name-takes, ty-takes}
use Rattle.sk_reading.proofs.Targets.{target_value, assigned-same, old-same}

-- ---- expressions of their own

pub record IsValue (left least : ℕ) (p : Place) (e : Expr) (q : Place) : Type 0 where
  pub spelling : Expression
  pub lawful : IsLawful spelling
  pub level : least ≤ level_in spelling
  pub small : IsSmall spelling left
  pub tokens : p.rest ≡ in_front spelling q.rest
  pub is_tree : tree_in spelling ≡ e
  pub instances : q.instances ≡ p.instances

fresh-value : (left reach least : ℕ) (p : Place) (x : Expr × Place) → least + reach ≡ 11 → Spelled left reach (record p { nodes = 0 }) x.0 x.1 → IsValue left least p x.0 x.1
fresh-value left reach least p x sum s = record {
  spelling = s.spelling;
  lawful = s.lawful;
  level = omega (arith, s.level);
  small = (s.shallow, omega (arith, s.nodes, s.few));
  tokens = s.tokens;
  is_tree = s.is_tree;
  instances = s.instances;
}

pub value-sound : (left : ℕ) (p : Place) (x : Expr × Place) → reading.value left Whole p ≡ Read x → IsValue left 0 p x.0 x.1
unfolding reading.value expression
value-sound left p x h = fresh-value left 11 0 p x refl (choice-sound left (below-sound left) (record p { nodes = 0 }) x h)

pub sum-sound : (left : ℕ) (p : Place) (x : Expr × Place) → reading.value left Sum p ≡ Read x → IsValue left 9 p x.0 x.1
unfolding reading.value expression
sum-sound left p x h = fresh-value left 2 9 p x refl (operators-sound left (below-sound left) 2 (record p { nodes = 0 }) x h)

pub inside-sound : (left : ℕ) (p : Place) (x : Expr × Place) → reading.value_inside (suc left) p ≡ Read x → IsValue left 0 p x.0 x.1
unfolding reading.value_inside
inside-sound left p x h = fresh-value left 11 0 p x refl ((below-sound (suc left)).0 (record p { nodes = 0 }) x h)

pub record AreValues (left : ℕ) (p : Place) (es : List Expr) (q : Place) : Type 0 where
  pub spelling : Arguments
  pub lawful : AreLawful spelling
  pub small : AreSmall spelling left
  pub tokens : p.rest ≡ arguments_in_front spelling q.rest
  pub is_tree : trees_in spelling ≡ es
  pub instances : q.instances ≡ p.instances

owns-sound : (left turns : ℕ) (found : List Expr) (p : Place) (x : List Expr × Place)
    → arguments_from (λ q. below (suc left) Whole (record q { nodes = 0 })) turns found p ≡ Read x
    → (es : List Expr) × (x.0 ≡ found ++ es) × AreValues left p es x.1
unfolding arguments_from after
owns-sound left =
    loop-sound (λ q. below (suc left) Whole (record q { nodes = 0 })) (λ e. e) (arguments_from (λ q. below (suc left) Whole (record q { nodes = 0 })))
    (AreValues left) (λ found p. refl, λ turns found p. refl) last before
  where
    own : (p : Place) (a : Expr × Place) → below (suc left) Whole (record p { nodes = 0 }) ≡ Read a → IsValue left 0 p a.0 a.1
    own p a is = fresh-value left 11 0 p a refl ((below-sound (suc left)).0 (record p { nodes = 0 }) a is)

    last : (p : Place) (a : Expr × Place) → below (suc left) Whole (record p { nodes = 0 }) ≡ Read a → AreValues left p (a.0 ∷ []) a.1
    last p a is =
        let s = own p a is in
        record {
          spelling = Arguments.Last s.spelling;
          lawful = s.lawful;
          small = s.small;
          tokens = s.tokens;
          is_tree = ap (λ e. e ∷ []) s.is_tree;
          instances = s.instances;
        }

    before : (p : Place) (a : Expr × Place) → below (suc left) Whole (record p { nodes = 0 }) ≡ Read a → (line : ℕ) → Takes (sign_at sign.Comma line) a.1 (advance a.1)
        → (es : List Expr) (q : Place) → AreValues left (advance a.1) es q → AreValues left p (a.0 ∷ es) q
    before p a is line comma es q others =
        let s = own p a is in
        record {
          spelling = Arguments.More s.spelling line others.spelling;
          lawful = (s.lawful, others.lawful);
          small = (s.small, others.small);
          tokens = s.tokens ∙ ap (in_front s.spelling) (comma.tokens ∙ ap (λ r. sign_at sign.Comma line ∷ r) others.tokens);
          is_tree = ap (λ e. e ∷ trees_in others.spelling) s.is_tree ∙ ap (λ l. a.0 ∷ l) others.is_tree;
          instances = others.instances ∙ comma.instances ∙ s.instances;
        }

pub places-sound : (left : ℕ) (p : Place) (x : List Expr × Place) → reading.places (suc left) p ≡ Read x → AreValues left p x.0 x.1
unfolding reading.places arguments
places-sound left p x h =
    let (es, all, s) = owns-sound left (length p.rest) [] p x h in
    subst (λ l. AreValues left p l x.1) (sym all) s

-- ---- targets

pub record IsTarget (left : ℕ) (p : Place) (t : Target) (q : Place) : Type 0 where
  pub spelling : form.Target
  pub lawful : form.IsLawfulTarget spelling
  pub fits : TargetFits spelling left
  pub tokens : p.rest ≡ form.target_in_front spelling q.rest
  pub is_value : target_value spelling ≡ t
  pub instances : q.instances ≡ p.instances

element-sound : (left : ℕ) (p q : Place) (line : ℕ) (w : List ℕ) → IsTrue (is_name w) → Takes (word w line) p q → front q ≡ next.Sign sign.OpenParen
    → (x : Target × Place) → reading.element left w q ≡ Read x → IsTarget left p x.0 x.1
unfolding reading.element opened advance
element-sound zero p q line w free takes first x h = absurd (cc)
element-sound (suc left) p q line w free takes first x h =
    let (line', opening) = sign-takes q sign.OpenParen first in
    let (a, places-are, h) = bound (reading.places (suc left) (advance q)) _ x h in
    let s = places-sound left (advance q) a places-are in
    let (u, close-is, h) = bound (expect sign.CloseParen a.1) _ x h in
    let (line'', closing) = expect-takes a.1 sign.CloseParen u close-is in
    along (IsTarget (suc left) p) h (record {
      spelling = form.Target.Element (lines_of (line ∷ line' ∷ line'' ∷ [])) w s.spelling;
      lawful = (free, s.lawful);
      fits = s.small;
      tokens = takes.tokens ∙ ap (λ r. word w line ∷ r) (opening.tokens ∙ ap (λ r. sign_at sign.OpenParen line' ∷ r) (s.tokens ∙ ap (arguments_in_front s.spelling) closing.tokens));
      is_value = ap (Element w) s.is_tree;
      instances = closing.instances ∙ s.instances ∙ takes.instances;
    })

bracketed-sound : (left : ℕ) (p q : Place) (line : ℕ) (w : List ℕ) → IsTrue (is_name w) → Takes (word w line) p q → front q ≡ next.Sign sign.OpenBracket
    → (x : Target × Place) → reading.bracketed left w q ≡ Read x → IsTarget left p x.0 x.1
unfolding reading.bracketed opened advance
bracketed-sound zero p q line w free takes first x h = absurd (cc)
bracketed-sound (suc left) p q line w free takes first x h =
    let (line', opening) = sign-takes q sign.OpenBracket first in
    let (a, place-is, h) = bound (reading.value_inside (suc left) (advance q)) _ x h in
    let s = inside-sound left (advance q) a place-is in
    let (u, close-is, h) = bound (expect sign.CloseBracket a.1) _ x h in
    let (line'', closing) = expect-takes a.1 sign.CloseBracket u close-is in
    along (IsTarget (suc left) p) h (record {
      spelling = form.Target.Bracketed (lines_of (line ∷ line' ∷ line'' ∷ [])) w s.spelling;
      lawful = (free, s.lawful);
      fits = s.small;
      tokens = takes.tokens ∙ ap (λ r. word w line ∷ r) (opening.tokens ∙ ap (λ r. sign_at sign.OpenBracket line' ∷ r) (s.tokens ∙ ap (in_front s.spelling) closing.tokens));
      is_value = ap (Bracketed w) s.is_tree;
      instances = closing.instances ∙ s.instances ∙ takes.instances;
    })

pub target-sound : (left : ℕ) (p : Place) (x : Target × Place) → reading.target left p ≡ Read x → IsTarget left p x.0 x.1
unfolding reading.target
target-sound left p x h =
    let (a, name-is, h) = bound (name p) _ x h in
    let (line, free, takes) = name-takes p a name-is in
    go a line free takes (front a.1) refl h
  where
    plain : (a : List ℕ × Place) (line : ℕ) → IsTrue (is_name a.0) → Takes (word a.0 line) p a.1 → Read (Variable a.0, a.1) ≡ Read x → IsTarget left p x.0 x.1
    plain a line free takes h = along (IsTarget left p) h (record {
      spelling = form.Target.Variable line a.0;
      lawful = free;
      fits = tt;
      tokens = takes.tokens;
      is_value = refl;
      instances = takes.instances;
    })

    go : (a : List ℕ × Place) (line : ℕ) → IsTrue (is_name a.0) → Takes (word a.0 line) p a.1 → (nx : Next) → front a.1 ≡ nx → reading.target_by left a.0 nx a.1 ≡ Read x → IsTarget left p x.0 x.1
    go a line free takes (next.Sign sign.OpenParen) is h = element-sound left p a.1 line a.0 free takes is x h
    go a line free takes (next.Sign sign.OpenBracket) is h = bracketed-sound left p a.1 line a.0 free takes is x h
    go a line free takes (next.Sign s) is h = plain a line free takes h
    go a line free takes other is h = plain a line free takes h

-- ---- assignments

pub record IsAssignment (left : ℕ) (p : Place) (does : What) (q : Place) : Type 0 where
  pub spelling : form.Assignment
  pub lawful : form.IsLawfulAssignment spelling
  pub fits : AssignmentFits spelling left
  pub tokens : p.rest ≡ form.assignment_in_front spelling q.rest
  pub is_tree : form.assignment_tree spelling ≡ does
  pub instances : q.instances ≡ p.instances

-- what an update's sign stands for
update-how : (s : Sign) (u : Update) → reading.update_of s ≡ Some u
    → ((how : Assigns) × (assigns_of s ≡ Some how) × (u ≡ elim how [ Plainly ↦ Value | Joining operator ↦ Joined operator ])) ⊎ ((operator : Op) × (step_of s ≡ Some operator) × (u ≡ Step operator))
update-how sign.Eq u h = inl (Plainly, refl, sym (some-is h))
update-how sign.PlusEq u h = inl (Joining op.Add, refl, sym (some-is h))
update-how sign.MinusEq u h = inl (Joining op.Sub, refl, sym (some-is h))
update-how sign.StarEq u h = inl (Joining op.Mul, refl, sym (some-is h))
update-how sign.SlashEq u h = inl (Joining op.Div, refl, sym (some-is h))
update-how sign.PercentEq u h = inl (Joining op.Rem, refl, sym (some-is h))
update-how sign.AndEq u h = inl (Joining op.And, refl, sym (some-is h))
update-how sign.OrEq u h = inl (Joining op.Or, refl, sym (some-is h))
update-how sign.CaretEq u h = inl (Joining op.Xor, refl, sym (some-is h))
update-how sign.ShlEq u h = inl (Joining op.Shl, refl, sym (some-is h))
update-how sign.ShrEq u h = inl (Joining op.Shr, refl, sym (some-is h))
update-how sign.PlusPlus u h = inr (op.Add, refl, sym (some-is h))
update-how sign.MinusMinus u h = inr (op.Sub, refl, sym (some-is h))
update-how other u h = absurd (cc)

update-front : (nx : Next) (u : Update) → reading.update_next nx ≡ Some u → (s : Sign) × (nx ≡ next.Sign s) × (reading.update_of s ≡ Some u)
update-front (next.Sign s) u h = (s, refl, h)
update-front (next.Keyword k) u h = absurd (cc)
update-front next.Name u h = absurd (cc)
update-front next.Number u h = absurd (cc)
update-front next.Text u h = absurd (cc)
update-front next.End u h = absurd (cc)

assigns-sound : (left : ℕ) (p q : Place) (t : Target) → IsTarget left p t q → (sg : Sign) → front q ≡ next.Sign sg → (how : Assigns) → assigns_of sg ≡ Some how
    → (x : What × Place) → (a : Expr × Place) → reading.value left Whole (advance q) ≡ Read a → Read (reading.assigned t (form.new_value how (reading.old_value t) a.0), a.1) ≡ Read x
    → IsAssignment left p x.0 x.1
unfolding advance
assigns-sound left p q t s sg first how is x a value-is h =
    let (line, takes) = sign-takes q sg first in
    let v = value-sound left (advance q) a value-is in
    along (IsAssignment left p) h (record {
      spelling = form.Assignment.Assign s.spelling line sg how v.spelling;
      lawful = (s.lawful, is, v.lawful);
      fits = (s.fits, v.small);
      tokens = s.tokens ∙ ap (form.target_in_front s.spelling) (takes.tokens ∙ ap (λ r. sign_at sg line ∷ r) v.tokens);
      is_tree = sym (assigned-same s.spelling (form.new_value how (form.old_value s.spelling) (tree_in v.spelling)))
          ∙ ap (λ o. reading.assigned (target_value s.spelling) (form.new_value how o (tree_in v.spelling))) (sym (old-same s.spelling))
          ∙ ap (λ (t : Target). reading.assigned t (form.new_value how (reading.old_value t) (tree_in v.spelling))) s.is_value
          ∙ ap (λ e. reading.assigned t (form.new_value how (reading.old_value t) e)) v.is_tree;
      instances = v.instances ∙ s.instances;
    })

steps-sound : (left : ℕ) (p q : Place) (t : Target) → IsTarget left p t q → (sg : Sign) → front q ≡ next.Sign sg → (operator : Op) → step_of sg ≡ Some operator
    → (x : What × Place) → Read (reading.stepped left t operator, advance q) ≡ Read x → IsAssignment left p x.0 x.1
unfolding advance
steps-sound left p q t s sg first operator is x h =
    let (line, takes) = sign-takes q sg first in
    along (IsAssignment left p) h (record {
      spelling = form.Assignment.StepAfter s.spelling line sg operator;
      lawful = (s.lawful, is);
      fits = s.fits;
      tokens = s.tokens ∙ ap (form.target_in_front s.spelling) takes.tokens;
      is_tree = sym (assigned-same s.spelling (tree.Binary operator (form.old_value s.spelling) form.one))
          ∙ ap (λ o. reading.assigned (target_value s.spelling) (tree.Binary operator o form.one)) (sym (old-same s.spelling))
          ∙ ap (λ (t : Target). reading.assigned t (tree.Binary operator (reading.old_value t) form.one)) s.is_value;
      instances = s.instances;
    })

pub update-sound : (left : ℕ) (p q : Place) (t : Target) → IsTarget left p t q → (x : What × Place) → reading.update left t q ≡ Read x → IsAssignment left p x.0 x.1
unfolding reading.update reading.joined_value
update-sound left p q t s x h = go (reading.update_next (front q)) refl h
  where
    by-how : (sg : Sign) → front q ≡ next.Sign sg → (how : Assigns) → assigns_of sg ≡ Some how → (u : Update) → u ≡ elim how [ Plainly ↦ Value | Joining operator ↦ Joined operator ]
        → reading.update_by left t (Some u) q ≡ Read x → IsAssignment left p x.0 x.1
    by-how sg first Plainly is u same h =
        let h' = ap (λ v. reading.update_by left t (Some v) q) (sym same) ∙ h in
        let (a, value-is, h') = bound (reading.value left Whole (advance q)) _ x h' in
        assigns-sound left p q t s sg first Plainly is x a value-is h'
    by-how sg first (Joining operator) is u same h =
        let h' = ap (λ v. reading.update_by left t (Some v) q) (sym same) ∙ h in
        let (a, value-is, h') = bound (reading.value left Whole (advance q)) _ x h' in
        assigns-sound left p q t s sg first (Joining operator) is x a value-is h'

    go : (o : Option Update) → reading.update_next (front q) ≡ o → reading.update_by left t o q ≡ Read x → IsAssignment left p x.0 x.1
    go None is h = absurd (cc)
    go (Some u) is h =
        let (sg, first, update-is) = update-front (front q) u is in
        elim (update-how sg u update-is) [
          | inl assigns ↦ by-how sg first assigns.0 assigns.1 u assigns.2 h
          | inr steps ↦ steps-sound left p q t s sg first steps.0 steps.1 x (ap (λ v. reading.update_by left t (Some v) q) (sym steps.2) ∙ h)
        ]

pub assignment-sound : (left : ℕ) (p : Place) (x : What × Place) → reading.assignment left p ≡ Read x → IsAssignment left p x.0 x.1
unfolding reading.assignment advance
assignment-sound left p x h = go (front p) refl h
  where
    by-step : (sg : Sign) → front p ≡ next.Sign sg → (o : Option Op) → step_of sg ≡ o → reading.step_by left o p ≡ Read x → IsAssignment left p x.0 x.1
    by-step sg first None is h = absurd (cc)
    by-step sg first (Some operator) is h =
        let (line, takes) = sign-takes p sg first in
        let (a, target-is, h) = bound (reading.target left (advance p)) _ x h in
        let s = target-sound left (advance p) a target-is in
        along (IsAssignment left p) h (record {
          spelling = form.Assignment.StepBefore line sg operator s.spelling;
          lawful = (is, s.lawful);
          fits = s.fits;
          tokens = takes.tokens ∙ ap (λ r. sign_at sg line ∷ r) s.tokens;
          is_tree = sym (assigned-same s.spelling (tree.Binary operator (form.old_value s.spelling) form.one))
              ∙ ap (λ o. reading.assigned (target_value s.spelling) (tree.Binary operator o form.one)) (sym (old-same s.spelling))
              ∙ ap (λ (t : Target). reading.assigned t (tree.Binary operator (reading.old_value t) form.one)) s.is_value;
          instances = s.instances;
        })

    go : (nx : Next) → front p ≡ nx → reading.assignment_by left nx p ≡ Read x → IsAssignment left p x.0 x.1
    go next.Name is h =
        let (a, target-is, h) = bound (reading.target left p) _ x h in
        update-sound left p a.1 a.0 (target-sound left p a target-is) x h
    go (next.Sign s) is h = by-step s is (step_of s) refl h
    go (next.Keyword k) is h = absurd (cc)
    go next.Number is h = absurd (cc)
    go next.Text is h = absurd (cc)
    go next.End is h = absurd (cc)

pub record IsSimple (left : ℕ) (p : Place) (does : What) (q : Place) : Type 0 where
  pub spelling : form.Simple
  pub lawful : form.IsLawfulSimple spelling
  pub fits : SimpleFits spelling left
  pub tokens : p.rest ≡ form.simple_in_front spelling q.rest
  pub is_tree : form.simple_tree spelling ≡ does
  pub instances : q.instances ≡ p.instances

pub declaration-sound : (left : ℕ) (p : Place) (x : What × Place) → reading.declaration left p ≡ Read x → IsSimple left p x.0 x.1
unfolding reading.declaration
declaration-sound left p x h =
    let (t, ty-is, h) = bound (ty p) _ x h in
    let (l0, typing) = ty-takes p t ty-is in
    let (w, name-is, h) = bound (name t.1) _ x h in
    let (l1, free, naming) = name-takes t.1 w name-is in
    let (e, eq-is, h) = bound (expect sign.Eq w.1) _ x h in
    let (l2, equals) = expect-takes w.1 sign.Eq e eq-is in
    let (a, value-is, h) = bound (reading.value left Whole e.1) _ x h in
    let v = value-sound left e.1 a value-is in
    along (IsSimple left p) h (record {
      spelling = form.Simple.Declare (lines_of (l0 ∷ l1 ∷ l2 ∷ [])) t.0 w.0 v.spelling;
      lawful = (free, v.lawful);
      fits = v.small;
      tokens = typing.tokens ∙ ap (λ r. typed t.0 l0 ∷ r) (naming.tokens ∙ ap (λ r. word w.0 l1 ∷ r) (equals.tokens ∙ ap (λ r. sign_at sign.Eq l2 ∷ r) v.tokens));
      is_tree = ap (what.Declare t.0 w.0) v.is_tree;
      instances = v.instances ∙ equals.instances ∙ naming.instances ∙ typing.instances;
    })

pub assigning : (left : ℕ) (p : Place) (x : What × Place) → IsAssignment left p x.0 x.1 → IsSimple left p x.0 x.1
assigning left p x s = record {
  spelling = form.Simple.Assigning s.spelling;
  lawful = s.lawful;
  fits = s.fits;
  tokens = s.tokens;
  is_tree = s.is_tree;
  instances = s.instances;
}

pub simple-sound : (left : ℕ) (p : Place) (x : What × Place) → reading.simple left p ≡ Read x → IsSimple left p x.0 x.1
unfolding reading.simple
simple-sound left p x h = go (front p) h
  where
    go : (nx : Next) → reading.simple_by left nx p ≡ Read x → IsSimple left p x.0 x.1
    go (next.Keyword key.Int) h = declaration-sound left p x h
    go (next.Keyword key.Long) h = declaration-sound left p x h
    go (next.Keyword other) h = assigning left p x (assignment-sound left p x h)
    go other h = assigning left p x (assignment-sound left p x h)
