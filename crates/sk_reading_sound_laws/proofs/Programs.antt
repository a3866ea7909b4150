-- What is read as a program has a lawful spelling that keeps the limits.
use Rattle.std.proofs.Common.{◌≡◌, ℕ, zero, suc, ◌+◌, ◌<◌, ◌≤◌, Bool, true, false, cond, nat_lt, List, [], ◌∷◌, ◌++◌, length, map, Option, Some, None, codes, refl, ap, sym, subst, ◌∙◌, arith, rules, append_assoc, append-nil, length-append}
use Rattle.sk_base.specs.declared.number.Ty.{Ty}
use Rattle.sk_grammar.specs.ExpressionSpelling.{sign_at, word, typed, with_commas, each}
use Rattle.sk_grammar.specs.Grammar.{Parameter, Definition, parameter_in_front, parameter_tree, IsLawfulParameter, definition_in_front, definition_tree, IsLawfulDefinition, Spelling, tokens_in, IsLawfulSpelling}
use Rattle.sk_grammar.specs.Limits.{DefinitionFits, ReadsWithin, block_instances, instances_of}
use Rattle.sk_grammar.specs.Signs as signs
use Rattle.sk_grammar.specs.Signs.{meant_by, index_words}
use Rattle.sk_grammar.specs.StatementSpelling.{block_in_front, block_tree}
use Rattle.sk_refusals.specs.declared.refusal.Limited.{Limited}
use Rattle.sk_refusals.specs.declared.refusal.Limited.TheVariants.{Functions, Parameters}
use Rattle.sk_refusals.specs.declared.refusal.Refusal.TheVariants.{Syntax, Many}
use Rattle.sk_tokens.specs.declared.token.Sign.TheVariants as sign
use Rattle.sk_tokens.specs.declared.token.Token.{Token}
use Rattle.sk_tree.specs.declared.tree.Function.{Function}
use Rattle.sk_tree.specs.declared.tree.Param.{Param}
use Rattle.sk_tree.specs.declared.tree.Program.{Program}
use Rattle.sk_reading.specs.declared.next.Next.{Next}
use Rattle.sk_reading.specs.declared.next.Next.TheVariants as next
use Rattle.sk_reading.specs.declared.view.View.{View}
use Rattle.sk_reading.specs.declared.keyword.Keyword.TheVariants as key
use Rattle.sk_tokens.specs.declared.token.TokenKind.{TokenKind}
use Rattle.sk_tokens.specs.declared.token.TokenKind.TheVariants as kind
use Rattle.sk_tree.specs.declared.tree.Statement.{Statement}
use Rattle.sk_reading.specs.declared.keyword.Keyword.{Keyword}
use Rattle.sk_reading.specs.Reading.{front_of, word_next, kind_next, keyword_of, Place, Outcome, Read, Refused, value_of, and_then, refuse, front, advance, sees, after, expect, expect_keyword, name, word_in, ty, start_of, line_of, front_line}
use Rattle.sk_reading.specs.ReadingExpressions.{is_type}
use Rattle.sk_reading.specs.ReadingStatements.{block, part_below}
use Rattle.sk_reading.specs.ReadingPrograms as reading
use Rattle.sk_reading_sound_laws.proofs.Steps.{lines_of, bound, along, some-is, read-is, Takes, sign-takes, sees-sign, expect-takes, name-takes, word_in-takes, ty-takes, keyword-takes, expect_keyword-takes, same-most, TakesTyped, typed-takes}
use Rattle.sk_reading.proofs.Entries.{mapped}
use Rattle.sk_reading_sound_laws.proofs.statements.Blocks.{block-sound, parts-sound}

pub record IsParameter (p : Place) (made : Param) (q : Place) : Type 0 where
  pub spelling : Parameter
  pub lawful : IsLawfulParameter spelling
  pub tokens : p.rest ≡ parameter_in_front spelling q.rest
  pub is_tree : parameter_tree spelling ≡ made
  pub instances : q.instances ≡ p.instances

scalar-sound : (p : Place) (x : Param × Place) → reading.scalar p ≡ Read x → IsParameter p x.0 x.1
unfolding reading.scalar
scalar-sound p x h =
    let (t, ty-is, h) = bound (ty p) _ x h in
    let (l0, typing) = ty-takes p t ty-is in
    let (w, name-is, h) = bound (name t.1) _ x h in
    let (l1, free, naming) = name-takes t.1 w name-is in
    along (IsParameter p) h (record {
      spelling = Parameter.ScalarParameter (lines_of (l0 ∷ l1 ∷ [])) t.0 w.0;
      lawful = free;
      tokens = typing.tokens ∙ ap (λ z. typed t.0 l0 ∷ z) naming.tokens;
      is_tree = refl;
      instances = naming.instances ∙ typing.instances;
    })

record IsViewed (p : Place) (made : Param) (q : Place) : Type 0 where
  view : View
  t : Ty
  w : List ℕ
  typed_name : TakesTyped reading.view_words p view t w q
  is_view : meant_by signs.view_words typed_name.kw ≡ Some (reading.seen_as view)
  is_tree : made ≡ record { kind = reading.seen_as view t; name = w }

viewed-sound : (p : Place) (x : Param × Place) → reading.viewed p ≡ Read x → IsViewed p x.0 x.1
unfolding reading.viewed
viewed-sound p x h =
    let (view, t, w, q, c, h) = typed-takes {B = Param} reading.view_words (λ k t w r. Read (record { kind = reading.seen_as k t; name = w }, r)) p x h in
    along (IsViewed p) h (record {
      view = view;
      t = t;
      w = w;
      typed_name = c;
      is_view = mapped reading.seen_as reading.view_words c.kw view c.meant;
      is_tree = refl;
    })

qualified-sound : (p : Place) → front p ≡ next.Keyword key.Skepu → (x : Param × Place) → reading.qualified p ≡ Read x → IsParameter p x.0 x.1
unfolding reading.qualified reading.indexed advance
qualified-sound p first x h =
    let (l0, skepu) = keyword-takes p key.Skepu first in
    let (u, path-is, h) = bound (expect sign.Path (advance p)) _ x h in
    let (l1, path) = expect-takes (advance p) sign.Path u path-is in
    go u.1 l0 l1 (skepu.tokens ∙ ap (λ z. word (codes "skepu") l0 ∷ z) path.tokens) path.instances (reading.begins_index u.1) h
  where
    go : (q : Place) (l0 l1 : ℕ) → p.rest ≡ word (codes "skepu") l0 ∷ sign_at sign.Path l1 ∷ q.rest → q.instances ≡ p.instances → (b : Bool)
        → cond b (reading.indexed q) (reading.viewed q) ≡ Read x → IsParameter p x.0 x.1
    go q l0 l1 to instances true h =
        let (k, kind-is, h) = bound (word_in index_words q) _ x h in
        let (l2, kw, meant, kind) = word_in-takes index_words q k kind-is in
        let (w, name-is, h) = bound (name k.1) _ x h in
        let (l3, free, naming) = name-takes k.1 w name-is in
        along (IsParameter p) h (record {
          spelling = Parameter.IndexParameter (lines_of (l0 ∷ l1 ∷ l2 ∷ l3 ∷ [])) kw k.0 w.0;
          lawful = (meant, free);
          tokens = to ∙ ap (λ z. word (codes "skepu") l0 ∷ sign_at sign.Path l1 ∷ z) (kind.tokens ∙ ap (λ z. word kw l2 ∷ z) naming.tokens);
          is_tree = refl;
          instances = naming.instances ∙ kind.instances ∙ instances;
        })
    go q l0 l1 to instances false h =
        let v = viewed-sound q x h in
        let d = v.typed_name in
        record {
          spelling = Parameter.ViewParameter (lines_of (l0 ∷ l1 ∷ d.l2 ∷ d.l3 ∷ d.l4 ∷ d.l5 ∷ d.l6 ∷ [])) d.kw (reading.seen_as v.view) v.t v.w;
          lawful = (v.is_view, d.free);
          tokens = to ∙ ap (λ z. word (codes "skepu") l0 ∷ sign_at sign.Path l1 ∷ z) d.tokens;
          is_tree = sym v.is_tree;
          instances = d.instances ∙ instances;
        }

constant-sound : (p : Place) → front p ≡ next.Keyword key.Const → (x : Param × Place) → reading.constant p ≡ Read x → IsParameter p x.0 x.1
unfolding reading.constant advance
constant-sound p first x h =
    let (l, const) = keyword-takes p key.Const first in
    let (s, skepu-is, h) = bound (expect_keyword key.Skepu (advance p)) _ x h in
    let (l0, skepu) = expect_keyword-takes (advance p) key.Skepu s skepu-is in
    let (u, path-is, h) = bound (expect sign.Path s.1) _ x h in
    let (l1, path) = expect-takes s.1 sign.Path u path-is in
    let v = viewed-sound u.1 x h in
    let d = v.typed_name in
    record {
      spelling = Parameter.ConstParameter l (lines_of (l0 ∷ l1 ∷ d.l2 ∷ d.l3 ∷ d.l4 ∷ d.l5 ∷ d.l6 ∷ [])) d.kw (reading.seen_as v.view) v.t v.w;
      lawful = (v.is_view, d.free);
      tokens = const.tokens ∙ ap (λ z. word (codes "const") l ∷ z) (skepu.tokens ∙ ap (λ z. word (codes "skepu") l0 ∷ z) (path.tokens ∙ ap (λ z. sign_at sign.Path l1 ∷ z) d.tokens));
      is_tree = sym v.is_tree;
      instances = d.instances ∙ path.instances ∙ skepu.instances;
    }

parameter-sound : (p : Place) (x : Param × Place) → reading.parameter p ≡ Read x → IsParameter p x.0 x.1
unfolding reading.parameter
parameter-sound p x h = go (front p) refl h
  where
    go : (nx : Next) → front p ≡ nx → reading.parameter_by nx p ≡ Read x → IsParameter p x.0 x.1
    go (next.Keyword key.Skepu) is h = qualified-sound p is x h
    go (next.Keyword key.Const) is h = constant-sound p is x h
    go (next.Keyword k) is h = scalar-sound p x h
    go other is h = scalar-sound p x h

-- parameters with commas between
AreParameters : (found : List Param) (p : Place) (x : List Param × Place) → Type 0
AreParameters found p x =
    (l : List (Parameter × ℕ)) × (0 < length l) × (x.0 ≡ found ++ map (λ written. parameter_tree written.0) l) × (length found + length l ≤ 64)
    × ((r : List Token) → x.1.rest ≡ r → p.rest ≡ with_commas parameter_in_front l r) × (x.1.instances ≡ p.instances) × each (λ written. IsLawfulParameter written.0) l

with-comma : (found : List Param) (p : Place) (x : List Param × Place) (a : Param × Place) → IsParameter p a.0 a.1 → (line : ℕ) → Takes (sign_at sign.Comma line) a.1 (advance a.1)
    → AreParameters (found ++ a.0 ∷ []) (advance a.1) x → AreParameters found p x
unfolding AreParameters
with-comma found p x a s line comma ([], some, all, few, tokens, instances, lawful) = absurd (omega arith)
with-comma found p x a s line comma (b ∷ l, some, all, few, tokens, instances, lawful) = (
  (s.spelling, line) ∷ b ∷ l,
  omega arith,
  all ∙ append_assoc found (a.0 ∷ []) (map (λ written. parameter_tree written.0) (b ∷ l)) ∙ ap (λ e. found ++ e ∷ map (λ written. parameter_tree written.0) (b ∷ l)) (sym s.is_tree),
  omega (arith, few, length-append found (a.0 ∷ [])),
  (λ r is. s.tokens ∙ ap (parameter_in_front s.spelling) (comma.tokens ∙ ap (λ z. sign_at sign.Comma line ∷ z) (tokens r is))),
  instances ∙ comma.instances ∙ s.instances,
  (s.lawful, lawful),
)

-- one more has room, and nothing is taken
one_more-room : (what : Limited) (found most : ℕ) (p : Place) (x : Unit {0} × Place) → reading.one_more what found most p ≡ Read x → (x.1 ≡ p) × (found < most)
unfolding reading.one_more
one_more-room what found most p x h = go (nat_lt found most) refl h
  where
    go : (b : Bool) → nat_lt found most ≡ b → cond b (Read (tt, p)) (refuse (Many what) p) ≡ Read x → (x.1 ≡ p) × (found < most)
    go true is h = (sym (ap (λ y. y.1) (read-is h)), search (rules, is))
    go false is h = absurd (cc)

parameter-room : (found : ℕ) (p : Place) (x : Unit {0} × Place) → reading.count_parameter found p ≡ Read x → (x.1 ≡ p) × (found < 64)
unfolding reading.count_parameter
parameter-room found p x h = go (reading.begins_parameter (front p)) h
  where
    go : (b : Bool) → cond b (reading.one_more Parameters found 64 p) (refuse Syntax p) ≡ Read x → (x.1 ≡ p) × (found < 64)
    go true h = one_more-room Parameters found 64 p x h
    go false h = absurd (cc)

parameters_from-sound : (turns : ℕ) (found : List Param) (p : Place) (x : List Param × Place) → reading.parameters_from turns found p ≡ Read x → AreParameters found p x
unfolding reading.parameters_from after AreParameters
parameters_from-sound zero found p x h = absurd (cc)
parameters_from-sound (suc turns) found p x h =
    let (c, count-is, h) = bound (reading.count_parameter (length found) p) _ x h in
    let (same, below) = parameter-room (length found) p c count-is in
    let (a, parameter-is, h) = bound (reading.parameter c.1) _ x h in
    go below a (subst (λ q. IsParameter q a.0 a.1) same (parameter-sound c.1 a parameter-is)) (sees sign.Comma a.1) refl h
    (λ f q y. parameters_from-sound turns f q y)
  where
    go : length found < 64 → (a : Param × Place) → IsParameter p a.0 a.1 → (b : Bool) → sees sign.Comma a.1 ≡ b
        → cond b (reading.parameters_from turns (found ++ a.0 ∷ [])) (λ r. Read (found ++ a.0 ∷ [], r)) (cond b (advance a.1) a.1) ≡ Read x
        → ((f : List Param) (q : Place) (y : List Param × Place) → reading.parameters_from turns f q ≡ Read y → AreParameters f q y) → AreParameters found p x
    go below a s true is h later =
        let (line, comma) = sign-takes a.1 sign.Comma (sees-sign a.1 sign.Comma is) in
        with-comma found p x a s line comma (later (found ++ a.0 ∷ []) (advance a.1) x h)
    go below a s false is h later =
        let same = read-is h in (
          (s.spelling, 0) ∷ [],
          omega arith,
          sym (ap (λ y. y.0) same) ∙ ap (λ e. found ++ e ∷ []) (sym s.is_tree),
          omega (arith, below),
          (λ r end. s.tokens ∙ ap (parameter_in_front s.spelling) (ap (λ (y : List Param × Place). y.1.rest) same ∙ end)),
          sym (ap (λ (y : List Param × Place). y.1.instances) same) ∙ s.instances,
          (s.lawful, tt),
        )

pub record IsDefinition (p : Place) (made : Function) (q : Place) : Type 0 where
  pub spelling : Definition
  pub lawful : IsLawfulDefinition spelling
  pub fits : DefinitionFits spelling
  pub tokens : p.rest ≡ definition_in_front spelling q.rest
  pub is_tree : definition_tree spelling ≡ made
  pub instances : q.instances ≡ p.instances + block_instances spelling.body
  pub few : p.instances ≤ 1024 → q.instances ≤ 1024

parameters-sound : (p : Place) (x : List Param × Place) → reading.parameters p ≡ Read x
    → (l : List (Parameter × ℕ)) × (map (λ written. parameter_tree written.0) l ≡ x.0) × (length l ≤ 64) × ((r : List Token) → x.1.rest ≡ r → p.rest ≡ with_commas parameter_in_front l r)
    × (x.1.instances ≡ p.instances) × each (λ written. IsLawfulParameter written.0) l
unfolding reading.parameters AreParameters
parameters-sound p x h = go (sees sign.CloseParen p) h
  where
    go : (b : Bool) → cond b (Read ([], p)) (reading.parameters_from (length p.rest) [] p) ≡ Read x
        → (l : List (Parameter × ℕ)) × (map (λ written. parameter_tree written.0) l ≡ x.0) × (length l ≤ 64) × ((r : List Token) → x.1.rest ≡ r → p.rest ≡ with_commas parameter_in_front l r)
        × (x.1.instances ≡ p.instances) × each (λ written. IsLawfulParameter written.0) l
    go true h =
        let same = read-is h in
        ([], ap (λ y. y.0) same, omega arith, (λ r is. ap (λ (y : List Param × Place). y.1.rest) same ∙ is), sym (ap (λ (y : List Param × Place). y.1.instances) same), tt)
    go false h =
        let (l, some, all, few, tokens, instances, lawful) = parameters_from-sound (length p.rest) [] p x h in
        (l, sym all, omega (arith, few), tokens, instances, lawful)

function-sound : (p : Place) (x : Function × Place) → reading.function p ≡ Read x → IsDefinition p x.0 x.1
unfolding reading.function front_line
function-sound p x h =
    let (t, ty-is, h) = bound (ty p) _ x h in
    let (l0, typing) = ty-takes p t ty-is in
    let (w, name-is, h) = bound (name t.1) _ x h in
    let (l1, free, naming) = name-takes t.1 w name-is in
    let (u, open-is, h) = bound (expect sign.OpenParen w.1) _ x h in
    let (l2, opening) = expect-takes w.1 sign.OpenParen u open-is in
    let (a, parameters-are, h) = bound (reading.parameters u.1) _ x h in
    let (l, all, few, listed, of-parameters, lawful) = parameters-sound u.1 a parameters-are in
    let (c, close-is, h) = bound (expect sign.CloseParen a.1) _ x h in
    let (l3, closing) = expect-takes a.1 sign.CloseParen c close-is in
    let (b, block-is, h) = bound (block 64 (part_below 64) c.1) _ x h in
    let s = block-sound 64 (parts-sound 64) c.1 b block-is in
    let before : c.1.instances ≡ p.instances = closing.instances ∙ of-parameters ∙ opening.instances ∙ naming.instances ∙ typing.instances in
    along (IsDefinition p) h (record {
      spelling = record { at = lines_of (l0 ∷ l1 ∷ l2 ∷ l3 ∷ []); ret = t.0; name = w.0; params = l; body = s.spelling };
      lawful = (free, lawful, s.lawful);
      fits = (few, s.fits);
      tokens = typing.tokens ∙ ap (λ z. typed t.0 l0 ∷ z) (naming.tokens ∙ ap (λ z. word w.0 l1 ∷ z) (opening.tokens ∙ ap (λ z. sign_at sign.OpenParen l2 ∷ z)
          (listed (sign_at sign.CloseParen l3 ∷ block_in_front s.spelling b.1.rest) (closing.tokens ∙ ap (λ z. sign_at sign.CloseParen l3 ∷ z) s.tokens))));
      is_tree = ap (λ n. made n t.0 w.0 (map (λ written. parameter_tree written.0) l) (block_tree s.spelling)) (sym (ap line_of typing.tokens))
          ∙ ap (λ ps. made (line_of p.rest) t.0 w.0 ps (block_tree s.spelling)) all ∙ ap (λ body. made (line_of p.rest) t.0 w.0 a.0 body) s.is_tree;
      instances = s.instances ∙ ap (λ n. n + block_instances s.spelling) before;
      few = λ few. s.few (same-most c.1.instances p.instances before few);
    })
  where
    made : (line : ℕ) (t : Ty) (w : List ℕ) → List Param → List Statement → Function
    made line t w ps body = record { line = line; ret = t; name = w; params = ps; body = body }

word-not_end : (o : Option Keyword) → reading.is_end (word_next o) ≡ true → ⊥
word-not_end None h = cc
word-not_end (Some k) h = cc

token-not_end : (what : TokenKind) → reading.is_end (kind_next what) ≡ true → ⊥
token-not_end (kind.Word w) h = word-not_end (keyword_of w) h
token-not_end (kind.Number t v) h = cc
token-not_end (kind.Text w) h = cc
token-not_end (kind.Sign s) h = cc

end-tokens : (tokens : List Token) → reading.is_end (front_of tokens) ≡ true → tokens ≡ []
end-tokens [] h = refl
end-tokens (token ∷ rest) h = absurd (token-not_end token.what h)

end-is : (p : Place) → reading.at_end p ≡ true → p.rest ≡ []
unfolding reading.at_end front
end-is p h = end-tokens p.rest h

-- functions up to the end, behind those that were found
AreFunctions : (found : List Function) (p : Place) (x : List Function × Place) → Type 0
AreFunctions found p x =
    (l : Spelling) × (x.0 ≡ found ++ map definition_tree l) × (p.rest ≡ tokens_in l) × IsLawfulSpelling l × each DefinitionFits l × (length found + length l ≤ 1024) × (p.instances + instances_of l ≤ 1024)

ended : (found : List Function) (p : Place) (x : List Function × Place) → p.instances ≤ 1024 → length found ≤ 1024 → (b : Bool) → reading.at_end p ≡ b → cond b (Read (found, p)) (refuse Syntax p) ≡ Read x → AreFunctions found p x
unfolding AreFunctions
ended found p x few most false is h = absurd (cc)
ended found p x few most true is h =
    ([], sym (ap (λ y. y.0) (read-is h)) ∙ sym (append-nil found), end-is p is, tt, tt, omega arith, omega arith)

one-more : (found : List Function) (p : Place) (x : List Function × Place) (a : Function × Place) → IsDefinition p a.0 a.1 → AreFunctions (found ++ a.0 ∷ []) a.1 x → AreFunctions found p x
unfolding AreFunctions
one-more found p x a s (l, all, tokens, lawful, fits, few, instances) = (
  s.spelling ∷ l,
  all ∙ append_assoc found (a.0 ∷ []) (map definition_tree l) ∙ ap (λ f. found ++ f ∷ map definition_tree l) (sym s.is_tree),
  s.tokens ∙ ap (definition_in_front s.spelling) tokens,
  (s.lawful, lawful),
  (s.fits, fits),
  omega (arith, few, length-append found (a.0 ∷ [])),
  omega (arith, instances, s.instances),
)

function-room : (found : ℕ) (p : Place) (x : Unit {0} × Place) → reading.count_function found p ≡ Read x → (x.1 ≡ p) × (found < 1024)
unfolding reading.count_function
function-room found p x h = go (is_type (front p)) h
  where
    go : (b : Bool) → cond b (reading.one_more Functions found 1024 p) (refuse Syntax p) ≡ Read x → (x.1 ≡ p) × (found < 1024)
    go true h = one_more-room Functions found 1024 p x h
    go false h = absurd (cc)

functions_from-sound : (turns : ℕ) (found : List Function) (p : Place) (x : List Function × Place) → reading.functions_from turns found p ≡ Read x → p.instances ≤ 1024 → length found ≤ 1024 → AreFunctions found p x
unfolding reading.functions_from
functions_from-sound zero found p x h few most = ended found p x few most (reading.at_end p) refl h
functions_from-sound (suc turns) found p x h few most = go (reading.at_end p) refl h (λ f q k c m. functions_from-sound turns f q x k c m)
  where
    go : (b : Bool) → reading.at_end p ≡ b
        → cond b (Read (found, p)) (and_then (reading.count_function (length found) p) (λ _ q. and_then (reading.function q) (λ f q. reading.functions_from turns (found ++ f ∷ []) q))) ≡ Read x
        → ((f : List Function) (q : Place) → reading.functions_from turns f q ≡ Read x → q.instances ≤ 1024 → length f ≤ 1024 → AreFunctions f q x) → AreFunctions found p x
    go true is h later = ended found p x few most true is h
    go false is h later =
        let (c, count-is, h) = bound (reading.count_function (length found) p) _ x h in
        let (same, below) = function-room (length found) p c count-is in
        let (a, function-is, h) = bound (reading.function c.1) _ x h in
        let s = subst (λ q. IsDefinition q a.0 a.1) same (function-sound c.1 a function-is) in
        one-more found p x a s (later (found ++ a.0 ∷ []) a.1 h (s.few few) (omega (arith, below, length-append found (a.0 ∷ []))))

pub program_sound : (tokens : List Token) (functions : List Function) → value_of (reading.functions tokens) ≡ Some functions → ReadsWithin tokens (record { functions = functions })
unfolding reading.functions AreFunctions
program_sound tokens functions h = go (reading.functions_from (length tokens) [] (start_of tokens)) refl h
  where
    go : (o : Outcome (List Function)) → reading.functions_from (length tokens) [] (start_of tokens) ≡ o → value_of o ≡ Some functions → ReadsWithin tokens (record { functions = functions })
    go (Refused refusal left) is h = absurd (cc)
    go (Read x) is h =
        let (l, all, to, lawful, fits, few, instances) = functions_from-sound (length tokens) [] (start_of tokens) x is (omega arith) (omega arith) in
        record {
          spelling = l;
          lawful = lawful;
          tokens_are = sym to;
          program_is = ap (λ (f : List Function). let p : Program = record { functions = f } in p) (sym all ∙ some-is h);
          keeps = record { functions = omega (arith, few); instances = omega (arith, instances); each_fits = fits };
        }
