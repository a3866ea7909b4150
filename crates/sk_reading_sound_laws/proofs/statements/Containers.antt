-- What is read as a container's declaration has a lawful spelling that keeps the limits.
use Rattle.std.proofs.Common.{◌≡◌, ℕ, zero, suc, List, [], ◌∷◌, codes, refl, ap, sym, subst, ◌∙◌, arith}
use Rattle.sk_base.specs.declared.number.Ty.{Ty}
use Rattle.sk_grammar.specs.ExpressionSpelling.{arguments_in_front, sign_at, word, typed, string}
use Rattle.sk_grammar.specs.Limits.{Opened, Flat}
use Rattle.sk_grammar.specs.Signs.{container_words}
use Rattle.sk_grammar.specs.StatementSpelling.{Written, at_line}
use Rattle.sk_tokens.specs.declared.token.Sign.TheVariants as sign
use Rattle.sk_tree.specs.declared.tree.What.{What}
use Rattle.sk_tree.specs.declared.tree.What.TheVariants as what
use Rattle.sk_reading.specs.declared.next.Next.{Next}
use Rattle.sk_reading.specs.declared.next.Next.TheVariants as next
use Rattle.sk_reading.specs.declared.keyword.Keyword.TheVariants as key
use Rattle.sk_reading.specs.Reading.{Place, Read, front, advance, expect, expect_keyword, text, opened, opened_by, line_of}
use Rattle.sk_reading.specs.ReadingAssignments as assignments
use Rattle.sk_reading.specs.ReadingForms as reading
use Rattle.sk_reading_sound_laws.proofs.Steps.{lines_of, bound, along, sign-takes, expect-takes, text-takes, keyword-takes, expect_keyword-takes, opened_by-takes, TakesTyped, typed-takes}
use Rattle.sk_reading_sound_laws.proofs.statements.Assignments.{places-sound}
use Rattle.sk_reading_sound_laws.proofs.statements.Started.{Started}

-- a container's declaration up to its name
record IsNamed (p : Place) (k : ℕ) (t : Ty) (w : List ℕ) (q : Place) : Type 0 where
  l0 : ℕ
  l1 : ℕ
  inner : Place
  typed_name : TakesTyped container_words inner k t w q
  tokens : p.rest ≡ word (codes "skepu") l0 ∷ sign_at sign.Path l1 ∷ word typed_name.kw typed_name.l2 ∷ sign_at sign.Lt typed_name.l3 ∷ typed t typed_name.l4 ∷ sign_at sign.Gt typed_name.l5 ∷ word w typed_name.l6 ∷ q.rest
  instances : q.instances ≡ p.instances

filled-sound : (left : ℕ) (p : Place) (k : ℕ) (t : Ty) (w : List ℕ) (q : Place) → IsNamed p k t w q → front q ≡ next.Sign sign.OpenParen
    → (x : What × Place) → reading.filled left k t w q ≡ Read x → Started left p x.0 x.1
unfolding reading.filled opened advance
filled-sound zero p k t w q c first x h = absurd (cc)
filled-sound (suc left) p k t w q c first x h =
    let d = c.typed_name in
    let (l7, opening) = sign-takes q sign.OpenParen first in
    let (a, places-are, h) = bound (assignments.places (suc left) (advance q)) _ x h in
    let s = places-sound left (advance q) a places-are in
    let (u, close-is, h) = bound (expect sign.CloseParen a.1) _ x h in
    let (l8, closing) = expect-takes a.1 sign.CloseParen u close-is in
    along (Started (suc left) p) h (record {
      written = λ line. Written.Make (lines_of (c.l0 ∷ c.l1 ∷ d.l2 ∷ d.l3 ∷ d.l4 ∷ d.l5 ∷ d.l6 ∷ l7 ∷ l8 ∷ line ∷ [])) d.kw k t w s.spelling;
      lawful = λ line. (d.meant, d.free, s.lawful);
      fits = λ line. s.small;
      tokens = λ line r is. c.tokens ∙ ap (λ z. word (codes "skepu") c.l0 ∷ sign_at sign.Path c.l1 ∷ word d.kw d.l2 ∷ sign_at sign.Lt d.l3 ∷ typed t d.l4 ∷ sign_at sign.Gt d.l5 ∷ word w d.l6 ∷ z)
          (opening.tokens ∙ ap (λ z. sign_at sign.OpenParen l7 ∷ z) (s.tokens ∙ ap (arguments_in_front s.spelling) (closing.tokens ∙ ap (λ z. sign_at sign.CloseParen l8 ∷ z) is)));
      is_tree = λ line. ap (λ es. at_line c.l0 (what.Make k t w es)) s.is_tree ∙ ap (λ l. at_line l (what.Make k t w a.0)) (sym (ap line_of c.tokens));
      instances = λ line. omega (arith, closing.instances, s.instances, c.instances);
      few = λ few. omega (arith, closing.instances, s.instances, c.instances, few);
    })

input-sound : (left : ℕ) (p : Place) (k : ℕ) (t : Ty) (w : List ℕ) (q : Place) → IsNamed p k t w q → front q ≡ next.Sign sign.Eq
    → (x : What × Place) → reading.input left k t w q ≡ Read x → Started left p x.0 x.1
unfolding reading.input advance
input-sound left p k t w q c first x h =
    let d = c.typed_name in
    let (l7, eq) = sign-takes q sign.Eq first in
    let (u8, in-is, h) = bound (expect_keyword key.SkepuInput (advance q)) _ x h in
    let (l8, input) = expect_keyword-takes (advance q) key.SkepuInput u8 in-is in
    let (u9, open-is, h) = bound (opened_by sign.OpenParen left u8.1) _ x h in
    let (inside, left-is, l9, opening) = opened_by-takes sign.OpenParen left u8.1 u9 open-is in
    let (n, text-is, h) = bound (text u9.1) _ x h in
    let (l10, texting) = text-takes u9.1 n text-is in
    let (u11, close-is, h) = bound (expect sign.CloseParen n.1) _ x h in
    let (l11, closing) = expect-takes n.1 sign.CloseParen u11 close-is in
    along (Started left p) h (record {
      written = λ line. Written.Take (lines_of (c.l0 ∷ c.l1 ∷ d.l2 ∷ d.l3 ∷ d.l4 ∷ d.l5 ∷ d.l6 ∷ l7 ∷ l8 ∷ l9 ∷ l10 ∷ l11 ∷ line ∷ [])) d.kw k t w n.0;
      lawful = λ line. (d.meant, d.free);
      fits = λ line. subst (Opened Flat) (sym left-is) tt;
      tokens = λ line r is. c.tokens ∙ ap (λ z. word (codes "skepu") c.l0 ∷ sign_at sign.Path c.l1 ∷ word d.kw d.l2 ∷ sign_at sign.Lt d.l3 ∷ typed t d.l4 ∷ sign_at sign.Gt d.l5 ∷ word w d.l6 ∷ z)
          (eq.tokens ∙ ap (λ z. sign_at sign.Eq l7 ∷ z) (input.tokens ∙ ap (λ z. word (codes "skepu_input") l8 ∷ z) (opening.tokens
          ∙ ap (λ z. sign_at sign.OpenParen l9 ∷ z) (texting.tokens ∙ ap (λ z. string n.0 l10 ∷ z) (closing.tokens ∙ ap (λ z. sign_at sign.CloseParen l11 ∷ z) is)))));
      is_tree = λ line. ap (λ l. at_line l (what.Take k t w n.0)) (sym (ap line_of c.tokens));
      instances = λ line. omega (arith, closing.instances, texting.instances, opening.instances, input.instances, c.instances);
      few = λ few. omega (arith, closing.instances, texting.instances, opening.instances, input.instances, c.instances, few);
    })

pub container : (left : ℕ) (p : Place) → front p ≡ next.Keyword key.Skepu → (x : What × Place) → reading.make left p ≡ Read x → Started left p x.0 x.1
unfolding reading.make advance
container left p first x h =
    let (l0, skepu) = keyword-takes p key.Skepu first in
    let (u1, path-is, h) = bound (expect sign.Path (advance p)) _ x h in
    let (l1, path) = expect-takes (advance p) sign.Path u1 path-is in
    let (k, t, w, q, c, h) = typed-takes container_words (λ k t w r. reading.make_by left k t w (front r) r) u1.1 x h in
    go k t w q (record {
      l0 = l0;
      l1 = l1;
      inner = u1.1;
      typed_name = c;
      tokens = skepu.tokens ∙ ap (λ r. word (codes "skepu") l0 ∷ r) (path.tokens ∙ ap (λ r. sign_at sign.Path l1 ∷ r) c.tokens);
      instances = c.instances ∙ path.instances;
    }) (front q) refl h
  where
    go : (k : ℕ) (t : Ty) (w : List ℕ) (q : Place) → IsNamed p k t w q → (nx : Next) → front q ≡ nx → reading.make_by left k t w nx q ≡ Read x → Started left p x.0 x.1
    go k t w q c (next.Sign sign.OpenParen) is h = filled-sound left p k t w q c is x h
    go k t w q c (next.Sign sign.Eq) is h = input-sound left p k t w q c is x h
    go k t w q c other is h = absurd (cc)
