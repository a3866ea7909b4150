-- What a step that was taken tells of the tokens.
use Rattle.std.proofs.Common.{◌≡◌, ℕ, zero, suc, ◌+◌, ◌<◌, ◌≤◌, drop, Bool, true, false, cond, ◌||◌, not, nat_lt, List, [], ◌∷◌, map, ℤ, Option, Some, None, option_and_then, IsTrue, codes, refl, ap, sym, subst, ◌∙◌, arith, rules}
use Rattle.std.specs.List.{list_any}
use denote.Enum.Bare.{same_true}
use Rattle.sk_base.specs.declared.number.Ty.{Ty}
use Rattle.sk_grammar.specs.ExpressionSpelling as spelling
use Rattle.sk_names.specs.Bytes.{same_bytes}
use Rattle.sk_grammar.specs.Signs.{meant_by, type_word}
use Rattle.sk_names.specs.Words.{is_name}
use Rattle.sk_refusals.specs.declared.refusal.Refusal.TheVariants.{Syntax, Many}
use Rattle.sk_refusals.specs.declared.refusal.Limited.TheVariants.{Nodes}
use Rattle.sk_tokens.specs.contracts.token.Sign as signs
use Rattle.sk_tokens.specs.declared.token.Sign.{Sign}
use Rattle.sk_tokens.specs.declared.token.Sign.TheVariants as sign
use Rattle.sk_tokens.specs.declared.token.Token.{Token}
use Rattle.sk_tokens.specs.declared.token.TokenKind.{TokenKind}
use Rattle.sk_tokens.specs.declared.token.TokenKind.TheVariants as kind
use Rattle.sk_reading.specs.contracts.keyword.Keyword as keywords
use Rattle.sk_reading.specs.declared.next.Next.{Next}
use Rattle.sk_reading.specs.declared.next.Next.TheVariants as next
use Rattle.sk_reading.specs.declared.keyword.Keyword.{Keyword}
use Rattle.sk_reading.specs.declared.keyword.Keyword.TheVariants as key
use Rattle.sk_reading.specs.Reading.{Place, Outcome, Read, Refused, Parser, and_then, refuse, keyword_words, keyword_of, word_next, kind_next, front_of, front, advance, same_sign, same_keyword, is_sign, is_keyword, sees, sees_keyword, expect, expect_keyword, front_word, word_of, if_name, taken, name_of, name, word_in, number, number_of, text, text_of, ty, type_of, count_node, opened, opened_by}
use Rattle.sk_reading.proofs.Entries.{word-of}

-- ---- outcomes

pub bound : {A B : Type 0} (o : Outcome A) (f : A → Parser B) (y : B × Place) → and_then o f ≡ Read y → (x : A × Place) × (o ≡ Read x) × (f x.0 x.1 ≡ Read y)
bound (Refused refusal left) f y h = absurd (cc)
bound (Read x) f y h = (x, refl, h)

abbrev or_else : {A : Type 0} → A → Option A → A
or_else a None = a
or_else a (Some b) = b

pub some-is : {A : Type 0} {x y : A} → Some x ≡ Some y → x ≡ y
some-is {A} {x} h = ap (or_else x) h

abbrev read_or : {A : Type 0} → A × Place → Outcome A → A × Place
read_or x (Read y) = y
read_or x (Refused refusal left) = x

pub read-is : {A : Type 0} {x y : A × Place} → Read x ≡ Read y → x ≡ y
read-is {A} {x} h = ap (read_or x) h

-- what holds of one outcome holds of the same by another name
pub along : {A : Type 0} {x y : A × Place} (P : A → Place → Type 0) → Read x ≡ Read y → P x.0 x.1 → P y.0 y.1
along {A} P h s = subst (λ (z : A × Place). P z.0 z.1) (read-is h) s

-- ---- tokens

-- the lines of a list, by their places
abbrev pub lines_of : List ℕ → spelling.TokenLines
lines_of [] k = 0
lines_of (line ∷ lines) zero = line
lines_of (line ∷ lines) (suc k) = lines_of lines k

pub record Takes (token : Token) (p q : Place) : Type 0 where
  pub tokens : p.rest ≡ token ∷ q.rest
  pub nodes : q.nodes ≡ p.nodes
  pub instances : q.instances ≡ p.instances

-- the token has this kind
pub token-is : (token : Token) (what : TokenKind) → token.what ≡ what → token ≡ record { what = what; line = token.line }
token-is token what is = ap (λ (w : TokenKind). let t : Token = record { what = w; line = token.line } in t) is

no_word : {A : Type 0} (o : Option Keyword) (s : Sign) → word_next o ≡ next.Sign s → A
no_word None s h = absurd (cc)
no_word (Some k) s h = absurd (cc)

kind-sign : (what : TokenKind) (s : Sign) → kind_next what ≡ next.Sign s → what ≡ kind.Sign s
kind-sign (kind.Word w) s h = no_word (keyword_of w) s h
kind-sign (kind.Number t v) s h = absurd (cc)
kind-sign (kind.Text w) s h = absurd (cc)
kind-sign (kind.Sign other) s h = cc

front-sign : (tokens : List Token) (s : Sign) → front_of tokens ≡ next.Sign s → (line : ℕ) × (rest : List Token) × (tokens ≡ spelling.sign_at s line ∷ rest)
front-sign [] s h = absurd (cc)
front-sign (token ∷ rest) s h = (token.line, rest, ap (λ t. t ∷ rest) (token-is token (kind.Sign s) (kind-sign token.what s h)))

pub takes-front : (t : Token) (rest : List Token) (p : Place) → p.rest ≡ t ∷ rest → Takes t p (advance p)
unfolding advance
takes-front t rest p is = record {
  tokens = is ∙ ap (λ r. t ∷ r) (sym (ap (drop 1) is));
  nodes = refl;
  instances = refl;
}

pub sign-takes : (p : Place) (s : Sign) → front p ≡ next.Sign s → (line : ℕ) × Takes (spelling.sign_at s line) p (advance p)
unfolding front
sign-takes p s h = let (line, rest, is) = front-sign p.rest s h in (line, takes-front (spelling.sign_at s line) rest p is)

same-sign : (a b : Sign) → same_sign a b ≡ true → a ≡ b
unfolding same_sign
same-sign a b h = same_true signs.the_type (search rules) a b h

pub sees-sign : (p : Place) (s : Sign) → sees s p ≡ true → front p ≡ next.Sign s
unfolding sees
sees-sign p s h = go (front p) h
  where
    go : (nx : Next) → is_sign s nx ≡ true → nx ≡ next.Sign s
    go (next.Sign other) h = ap next.Sign (same-sign other s h)
    go (next.Keyword k) h = absurd (cc)
    go next.Name h = absurd (cc)
    go next.Number h = absurd (cc)
    go next.Text h = absurd (cc)
    go next.End h = absurd (cc)

pub expect-takes : (p : Place) (s : Sign) (x : Unit {0} × Place) → expect s p ≡ Read x → (line : ℕ) × Takes (spelling.sign_at s line) p x.1
unfolding expect
expect-takes p s x h = go (sees s p) refl h
  where
    go : (b : Bool) → sees s p ≡ b → cond b (Read (tt, advance p)) (refuse Syntax p) ≡ Read x → (line : ℕ) × Takes (spelling.sign_at s line) p x.1
    go true is h = let (line, takes) = sign-takes p s (sees-sign p s is) in (line, along (λ _. Takes (spelling.sign_at s line) p) h takes)
    go false is h = absurd (cc)

-- ---- words

or-false : (a b : Bool) → a ≡ false → b ≡ false → (a || b) ≡ false
or-false a b h k = rw h k

none-meant : {A : Type 0} (entries : List (List ℕ × A)) (w : List ℕ) → meant_by entries w ≡ None → list_any (λ other. same_bytes other w) (map (λ entry. entry.0) entries) ≡ false
none-meant [] w h = refl
none-meant {A} (entry ∷ entries) w h = go (same_bytes entry.0 w) refl h (none-meant entries w)
  where
    go : (b : Bool) → same_bytes entry.0 w ≡ b → cond b (Some entry.1) (meant_by entries w) ≡ None
        → (meant_by entries w ≡ None → list_any (λ other. same_bytes other w) (map (λ entry. entry.0) entries) ≡ false)
        → list_any (λ other. same_bytes other w) (map (λ entry. entry.0) (entry ∷ entries)) ≡ false
    go true is h later = absurd (cc)
    go false is h later = or-false (same_bytes entry.0 w) (list_any (λ other. same_bytes other w) (map (λ entry. entry.0) entries)) is (later h)

pub free-name : (w : List ℕ) → keyword_of w ≡ None → IsTrue (is_name w)
unfolding keyword_of is_name
free-name w h = ap not (none-meant keyword_words w h)

pub taken-is : {A : Type 0} (p : Place) (o : Option A) (x : A × Place) → taken p o ≡ Read x → (o ≡ Some x.0) × (x.1 ≡ advance p)
taken-is p None x h = absurd (cc)
taken-is p (Some a) x h = (ap Some (ap (λ y. y.0) (read-is h)), sym (ap (λ y. y.1) (read-is h)))

word-front : (tokens : List Token) (w : List ℕ) → word_of tokens ≡ Some w → (line : ℕ) × (rest : List Token) × (tokens ≡ spelling.word w line ∷ rest)
word-front [] w h = absurd (cc)
word-front (token ∷ rest) w h = (token.line, rest, ap (λ t. t ∷ rest) (token-is token (kind.Word w) (go token.what h)))
  where
    go : (what : TokenKind) → elim what [ kind.Word bytes ↦ Some bytes | _ ↦ None ] ≡ Some w → what ≡ kind.Word w
    go (kind.Word v) h = ap kind.Word (some-is h)
    go (kind.Number t v) h = absurd (cc)
    go (kind.Text v) h = absurd (cc)
    go (kind.Sign s) h = absurd (cc)

pub word-takes : (p : Place) (w : List ℕ) → front_word p ≡ Some w → (line : ℕ) × Takes (spelling.word w line) p (advance p)
unfolding front_word
word-takes p w h = let (line, rest, is) = word-front p.rest w h in (line, takes-front (spelling.word w line) rest p is)

and-then-some : {A B : Type 0} (f : A → Option B) (o : Option A) (y : B) → option_and_then f o ≡ Some y → (x : A) × (o ≡ Some x) × (f x ≡ Some y)
and-then-some f None y h = absurd (cc)
and-then-some f (Some x) y h = (x, refl, h)

pub name-takes : (p : Place) (x : List ℕ × Place) → name p ≡ Read x → (line : ℕ) × IsTrue (is_name x.0) × Takes (spelling.word x.0 line) p x.1
unfolding name name_of
name-takes p x h =
    let (is, at) = taken-is p (option_and_then name_of (front_word p)) x h in
    let (w, front-is, name-is) = and-then-some name_of (front_word p) x.0 is in
    go w front-is (keyword_of w) refl name-is at
  where
    go : (w : List ℕ) → front_word p ≡ Some w → (o : Option Keyword) → keyword_of w ≡ o → if_name w o ≡ Some x.0 → x.1 ≡ advance p
        → (line : ℕ) × IsTrue (is_name x.0) × Takes (spelling.word x.0 line) p x.1
    go w front-is (Some k) free h at = absurd (cc)
    go w front-is None free h at =
        let (line, takes) = word-takes p w front-is in
        let same = some-is h in
        (line, subst (λ v. IsTrue (is_name v)) same (free-name w free), subst (λ v. Takes (spelling.word v line) p x.1) same (subst (Takes (spelling.word w line) p) (sym at) takes))

pub word_in-takes : {A : Type 0} (entries : List (List ℕ × A)) (p : Place) (x : A × Place) → word_in entries p ≡ Read x
    → (line : ℕ) × (w : List ℕ) × (meant_by entries w ≡ Some x.0) × Takes (spelling.word w line) p x.1
unfolding word_in
word_in-takes entries p x h =
    let (is, at) = taken-is p (option_and_then (meant_by entries) (front_word p)) x h in
    let (w, front-is, meant) = and-then-some (meant_by entries) (front_word p) x.0 is in
    let (line, takes) = word-takes p w front-is in
    (line, w, meant, subst (Takes (spelling.word w line) p) (sym at) takes)

number-front : (tokens : List Token) (n : Ty × ℤ) → number_of tokens ≡ Some n → (line : ℕ) × (rest : List Token) × (tokens ≡ spelling.number n.0 n.1 line ∷ rest)
number-front [] n h = absurd (cc)
number-front (token ∷ rest) n h = (token.line, rest, ap (λ t. t ∷ rest) (token-is token (kind.Number n.0 n.1) (go token.what h)))
  where
    go : (what : TokenKind) → elim what [ kind.Number t v ↦ Some (t, v) | _ ↦ None ] ≡ Some n → what ≡ kind.Number n.0 n.1
    go (kind.Number t v) h = ap (λ m. kind.Number m.0 m.1) (some-is h)
    go (kind.Word v) h = absurd (cc)
    go (kind.Text v) h = absurd (cc)
    go (kind.Sign s) h = absurd (cc)

pub number-takes : (p : Place) (x : (Ty × ℤ) × Place) → number p ≡ Read x → (line : ℕ) × Takes (spelling.number x.0.0 x.0.1 line) p x.1
unfolding number
number-takes p x h =
    let (is, at) = taken-is p (number_of p.rest) x h in
    let (line, rest, tokens) = number-front p.rest x.0 is in
    (line, subst (Takes (spelling.number x.0.0 x.0.1 line) p) (sym at) (takes-front (spelling.number x.0.0 x.0.1 line) rest p tokens))

text-front : (tokens : List Token) (w : List ℕ) → text_of tokens ≡ Some w → (line : ℕ) × (rest : List Token) × (tokens ≡ spelling.string w line ∷ rest)
text-front [] w h = absurd (cc)
text-front (token ∷ rest) w h = (token.line, rest, ap (λ t. t ∷ rest) (token-is token (kind.Text w) (go token.what h)))
  where
    go : (what : TokenKind) → elim what [ kind.Text bytes ↦ Some bytes | _ ↦ None ] ≡ Some w → what ≡ kind.Text w
    go (kind.Text v) h = ap kind.Text (some-is h)
    go (kind.Number t v) h = absurd (cc)
    go (kind.Word v) h = absurd (cc)
    go (kind.Sign s) h = absurd (cc)

pub text-takes : (p : Place) (x : List ℕ × Place) → text p ≡ Read x → (line : ℕ) × Takes (spelling.string x.0 line) p x.1
unfolding text
text-takes p x h =
    let (is, at) = taken-is p (text_of p.rest) x h in
    let (line, rest, tokens) = text-front p.rest x.0 is in
    (line, subst (Takes (spelling.string x.0 line) p) (sym at) (takes-front (spelling.string x.0 line) rest p tokens))

-- ---- keywords

abbrev pub key_word : Keyword → List ℕ
key_word key.Int = codes "int"
key_word key.Long = codes "long"
key_word key.Auto = codes "auto"
key_word key.Const = codes "const"
key_word key.If = codes "if"
key_word key.Else = codes "else"
key_word key.For = codes "for"
key_word key.Return = codes "return"
key_word key.Skepu = codes "skepu"
key_word key.Std = codes "std"
key_word key.SkepuInput = codes "skepu_input"

keyword-word : (w : List ℕ) (k : Keyword) → keyword_of w ≡ Some k → w ≡ key_word k
unfolding keyword_of
keyword-word w k h = word-of key_word keyword_words w k (refl, (refl, (refl, (refl, (refl, (refl, (refl, (refl, (refl, (refl, (refl, tt))))))))))) h

kind-keyword : (what : TokenKind) (k : Keyword) → kind_next what ≡ next.Keyword k → what ≡ kind.Word (key_word k)
kind-keyword (kind.Word w) k h = go (keyword_of w) refl h
  where
    go : (o : Option Keyword) → keyword_of w ≡ o → word_next o ≡ next.Keyword k → kind.Word w ≡ kind.Word (key_word k)
    go None is h = absurd (cc)
    go (Some other) is h = let same : other ≡ k = cc in ap kind.Word (keyword-word w other is ∙ ap key_word same)
kind-keyword (kind.Number t v) k h = absurd (cc)
kind-keyword (kind.Text w) k h = absurd (cc)
kind-keyword (kind.Sign other) k h = absurd (cc)

front-keyword : (tokens : List Token) (k : Keyword) → front_of tokens ≡ next.Keyword k → (line : ℕ) × (rest : List Token) × (tokens ≡ spelling.word (key_word k) line ∷ rest)
front-keyword [] k h = absurd (cc)
front-keyword (token ∷ rest) k h = (token.line, rest, ap (λ t. t ∷ rest) (token-is token (kind.Word (key_word k)) (kind-keyword token.what k h)))

pub keyword-takes : (p : Place) (k : Keyword) → front p ≡ next.Keyword k → (line : ℕ) × Takes (spelling.word (key_word k) line) p (advance p)
unfolding front
keyword-takes p k h = let (line, rest, is) = front-keyword p.rest k h in (line, takes-front (spelling.word (key_word k) line) rest p is)

same-keyword : (a b : Keyword) → same_keyword a b ≡ true → a ≡ b
unfolding same_keyword
same-keyword a b h = same_true keywords.the_type (search rules) a b h

pub sees-keyword : (p : Place) (k : Keyword) → sees_keyword k p ≡ true → front p ≡ next.Keyword k
unfolding sees_keyword
sees-keyword p k h = go (front p) h
  where
    go : (nx : Next) → is_keyword k nx ≡ true → nx ≡ next.Keyword k
    go (next.Keyword other) h = ap next.Keyword (same-keyword other k h)
    go (next.Sign s) h = absurd (cc)
    go next.Name h = absurd (cc)
    go next.Number h = absurd (cc)
    go next.Text h = absurd (cc)
    go next.End h = absurd (cc)

pub expect_keyword-takes : (p : Place) (k : Keyword) (x : Unit {0} × Place) → expect_keyword k p ≡ Read x → (line : ℕ) × Takes (spelling.word (key_word k) line) p x.1
unfolding expect_keyword
expect_keyword-takes p k x h = go (sees_keyword k p) refl h
  where
    go : (b : Bool) → sees_keyword k p ≡ b → cond b (Read (tt, advance p)) (refuse Syntax p) ≡ Read x → (line : ℕ) × Takes (spelling.word (key_word k) line) p x.1
    go true is h = let (line, takes) = keyword-takes p k (sees-keyword p k is) in (line, along (λ _. Takes (spelling.word (key_word k) line) p) h takes)
    go false is h = absurd (cc)

type-front : (nx : Next) (t : Ty) → type_of nx ≡ Some t → (k : Keyword) × (nx ≡ next.Keyword k) × (key_word k ≡ type_word t)
type-front (next.Keyword key.Int) t h = (key.Int, refl, ap type_word (some-is h))
type-front (next.Keyword key.Long) t h = (key.Long, refl, ap type_word (some-is h))
type-front (next.Keyword other) t h = absurd (cc)
type-front (next.Sign s) t h = absurd (cc)
type-front next.Name t h = absurd (cc)
type-front next.Number t h = absurd (cc)
type-front next.Text t h = absurd (cc)
type-front next.End t h = absurd (cc)

pub ty-takes : (p : Place) (x : Ty × Place) → ty p ≡ Read x → (line : ℕ) × Takes (spelling.typed x.0 line) p x.1
unfolding ty
ty-takes p x h =
    let (is, at) = taken-is p (type_of (front p)) x h in
    let (k, front-is, same) = type-front (front p) x.0 is in
    let (line, takes) = keyword-takes p k front-is in
    (line, subst (λ w. Takes (spelling.word w line) p x.1) same (subst (Takes (spelling.word (key_word k) line) p) (sym at) takes))

-- ---- counts

pub record Counts (p q : Place) : Type 0 where
  pub rest : q.rest ≡ p.rest
  pub nodes : q.nodes ≡ p.nodes + 1
  pub few : q.nodes ≤ 1024
  pub instances : q.instances ≡ p.instances

pub count-counts : (p : Place) (x : Unit {0} × Place) → count_node p ≡ Read x → Counts p x.1
unfolding count_node
count-counts p x h = go (nat_lt p.nodes 1024) refl h
  where
    go : (b : Bool) → nat_lt p.nodes 1024 ≡ b → cond b (Read (tt, record p { nodes = p.nodes + 1 })) (refuse (Many Nodes) p) ≡ Read x → Counts p x.1
    go true is h =
        let below : p.nodes < 1024 = search (rules, is) in
        along (λ _. Counts p) h (record { rest = refl; nodes = refl; few = omega arith; instances = refl })
    go false is h = absurd (cc)

pub opens : (left : ℕ) (p : Place) (x : Unit {0} × Place) → opened left p ≡ Read x → (inside : ℕ) × (left ≡ suc inside) × (x.1 ≡ p)
unfolding opened
opens zero p x h = absurd (cc)
opens (suc left) p x h = (left, refl, sym (ap (λ y. y.1) (read-is h)))

pub opened_by-takes : (s : Sign) (left : ℕ) (p : Place) (x : Unit {0} × Place) → opened_by s left p ≡ Read x
    → (inside : ℕ) × (left ≡ suc inside) × (line : ℕ) × Takes (spelling.sign_at s line) p x.1
unfolding opened_by opened
opened_by-takes s left p x h = go (sees s p) refl left h
  where
    go : (b : Bool) → sees s p ≡ b → (left : ℕ) → cond b (and_then (opened left p) (λ _ q. Read (tt, advance q))) (refuse Syntax p) ≡ Read x
        → (inside : ℕ) × (left ≡ suc inside) × (line : ℕ) × Takes (spelling.sign_at s line) p x.1
    go true is zero h = absurd (cc)
    go true is (suc left) h =
        let (line, takes) = sign-takes p s (sees-sign p s is) in (left, refl, line, along (λ _. Takes (spelling.sign_at s line) p) h takes)
    go false is left h = absurd (cc)

pub same-most : (a b : ℕ) → a ≡ b → b ≤ 1024 → a ≤ 1024
same-most a b h few = omega arith

-- ---- a word, a type in angle brackets, and a name

pub record TakesTyped {A : Type 0} (entries : List (List ℕ × A)) (p : Place) (a : A) (t : Ty) (w : List ℕ) (q : Place) : Type 0 where
  pub kw : List ℕ
  pub l2 : ℕ
  pub l3 : ℕ
  pub l4 : ℕ
  pub l5 : ℕ
  pub l6 : ℕ
  pub meant : meant_by entries kw ≡ Some a
  pub free : IsTrue (is_name w)
  pub tokens : p.rest ≡ spelling.word kw l2 ∷ spelling.sign_at sign.Lt l3 ∷ spelling.typed t l4 ∷ spelling.sign_at sign.Gt l5 ∷ spelling.word w l6 ∷ q.rest
  pub instances : q.instances ≡ p.instances

pub typed-takes : {A B : Type 0} (entries : List (List ℕ × A)) (behind : A → Ty → List ℕ → Parser B) (p : Place) (y : B × Place)
    → and_then (word_in entries p) (λ a r. and_then (expect sign.Lt r) (λ _ r. and_then (ty r) (λ t r. and_then (expect sign.Gt r) (λ _ r. and_then (name r) (behind a t))))) ≡ Read y
    → (a : A) × (t : Ty) × (w : List ℕ) × (q : Place) × TakesTyped entries p a t w q × (behind a t w q ≡ Read y)
typed-takes entries behind p y h =
    let (k, kind-is, h) = bound (word_in entries p) _ y h in
    let (l2, kw, meant, kind) = word_in-takes entries p k kind-is in
    let (u3, lt-is, h) = bound (expect sign.Lt k.1) _ y h in
    let (l3, lt) = expect-takes k.1 sign.Lt u3 lt-is in
    let (t, ty-is, h) = bound (ty u3.1) _ y h in
    let (l4, typing) = ty-takes u3.1 t ty-is in
    let (u5, gt-is, h) = bound (expect sign.Gt t.1) _ y h in
    let (l5, gt) = expect-takes t.1 sign.Gt u5 gt-is in
    let (w, name-is, h) = bound (name u5.1) _ y h in
    let (l6, free, naming) = name-takes u5.1 w name-is in (
      k.0,
      t.0,
      w.0,
      w.1,
      record {
        kw = kw;
        l2 = l2;
        l3 = l3;
        l4 = l4;
        l5 = l5;
        l6 = l6;
        meant = meant;
        free = free;
        tokens = kind.tokens ∙ ap (λ r. spelling.word kw l2 ∷ r) (lt.tokens ∙ ap (λ r. spelling.sign_at sign.Lt l3 ∷ r) (typing.tokens ∙ ap (λ r. spelling.typed t.0 l4 ∷ r)
            (gt.tokens ∙ ap (λ r. spelling.sign_at sign.Gt l5 ∷ r) naming.tokens)));
        instances = naming.instances ∙ gt.instances ∙ typing.instances ∙ lt.instances ∙ kind.instances;
      },
      h,
    )
