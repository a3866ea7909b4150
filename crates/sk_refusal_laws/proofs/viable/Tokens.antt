-- What the steps lead to that take a token, open one more part or count a node.
use Rattle.std.proofs.Common.{◌≡◌, ◌≢◌, inl, inr, ℕ, zero, suc, ◌+◌, ◌<◌, Bool, true, false, cond, nat_lt, List, [], ◌∷◌, ◌++◌, length, ℤ, pos, Option, Some, None, codes, option_and_then, refl, ap, sym, subst, ◌∙◌, arith}
use Rattle.sk_base.specs.declared.number.Ty.{Ty}
use Rattle.sk_base.specs.declared.number.Ty.TheVariants.{Int, Long}
use Rattle.sk_grammar.specs.ExpressionSpelling as spelling
use Rattle.sk_grammar.specs.ExpressionSpelling.{IsName, sign_at, word, typed, string}
use Rattle.sk_grammar.specs.Signs.{meant_by}
use Rattle.sk_names.specs.Words.{is_name}
use Rattle.sk_refusals.specs.declared.refusal.Limited.TheVariants.{Nodes, Instances}
use Rattle.sk_refusals.specs.declared.refusal.Refusal.{Refusal}
use Rattle.sk_refusals.specs.declared.refusal.Refusal.TheVariants.{Syntax, Deep, Many}
use Rattle.sk_tokens.specs.declared.token.Sign.{Sign}
use Rattle.sk_tokens.specs.declared.token.Sign.TheVariants as sign
use Rattle.sk_tokens.specs.declared.token.Token.{Token}
use Rattle.sk_tokens.specs.declared.token.TokenKind.{TokenKind}
use Rattle.sk_tokens.specs.declared.token.TokenKind.TheVariants as kind
use Rattle.sk_reading.specs.declared.keyword.Keyword.{Keyword}
use Rattle.sk_reading.specs.declared.keyword.Keyword.TheVariants as key
use Rattle.sk_reading.specs.declared.next.Next.{Next}
use Rattle.sk_reading.specs.declared.next.Next.TheVariants as next
use Rattle.sk_reading.specs.Reading.{Place, Outcome, Read, Refused, Parser, and_then, ◌>>◌, refuse, take, taken, front, front_of, next_of, word_next, kind_next, front_word, advance, keyword_of, sees, sees_keyword, after, expect, expect_keyword, name, name_of, word_in, number, number_of, text, text_of, ty, type_of, opened, opened_by, count_node, count_instance}
use Rattle.sk_reading.specs.ReadingExpressions.{is_type}
use Rattle.sk_reading_sound_laws.proofs.Steps.{sign-takes, sees-sign, keyword-takes, expect-takes, expect_keyword-takes, name-takes, word_in-takes, number-takes, text-takes, ty-takes, key_word, free-name, token-is}
use Rattle.sk_refusal_laws.proofs.viable.Leads.{Lang, Chain, SignOf, KeywordOf, NameOf, NumberOf, TextOf, TypeOf, WordOf, LeadsTo, Whole, Part, Leads, Default, leads-then, leads-map, one-token, shape-before, leads-lacking, Fresh}

-- ---- a token that is lacking

lacks : {A : Type 0} (p : Place) (a : A) (b : Bool) (refusal : Refusal) (left : ℕ) → cond b (Read (a, advance p)) (refuse Syntax p) ≡ Refused refusal left → (refusal ≡ Syntax) × (left ≡ length p.rest)
lacks p a true refusal left is = absurd (cc)
lacks p a false refusal left is = (cc, cc)

pub taken-lacks : {A : Type 0} (p : Place) (o : Option A) (refusal : Refusal) (left : ℕ) → taken p o ≡ Refused refusal left → (refusal ≡ Syntax) × (left ≡ length p.rest)
taken-lacks p (Some a) refusal left is = absurd (cc)
taken-lacks p None refusal left is = (cc, cc)

expect-lacks : (s : Sign) (p : Place) (refusal : Refusal) (left : ℕ) → expect s p ≡ Refused refusal left → (refusal ≡ Syntax) × (left ≡ length p.rest)
unfolding expect
expect-lacks s p refusal left is = lacks p (tt {0}) (sees s p) refusal left is

pub leads-expect : (s : Sign) (p : Place) → Leads (SignOf s) p (expect s p)
unfolding expect
leads-expect s p = one-token p (expect s p) (sign_at s 0) refl (λ r. (0, refl))
    (λ x is. let (line, takes) = expect-takes p s x is in (sign_at s line, takes.tokens, λ r. (line, refl))) (expect-lacks s p)

pub leads-keyword : (k : Keyword) → is_type (next_of (word (key_word k) 0)) ≡ false → (p : Place) → Leads (KeywordOf k) p (expect_keyword k p)
unfolding expect_keyword
leads-keyword k no_type p = one-token p (expect_keyword k p) (word (key_word k) 0) no_type (λ r. (0, refl))
    (λ x is. let (line, takes) = expect_keyword-takes p k x is in (word (key_word k) line, takes.tokens, λ r. (line, refl))) (λ refusal left is. lacks p (tt {0}) (sees_keyword k p) refusal left is)

pub is-a : IsName (codes "a")
unfolding is_name
is-a = refl

pub leads-name : (p : Place) → Leads NameOf p (name p)
unfolding name keyword_of is_name
leads-name p = one-token p (name p) (word (codes "a") 0) refl (λ r. (0, codes "a", refl, refl))
    (λ x is. let (line, free, takes) = name-takes p x is in (word x.0 line, takes.tokens, λ r. (line, x.0, free, refl))) (λ refusal left is. taken-lacks p (option_and_then name_of (front_word p)) refusal left is)

pub leads-number : (p : Place) → Leads NumberOf p (number p)
unfolding number
leads-number p = one-token p (number p) (spelling.number Int (pos 1) 0) refl (λ r. (0, Int, pos 1, refl))
    (λ x is. let (line, takes) = number-takes p x is in (spelling.number x.0.0 x.0.1 line, takes.tokens, λ r. (line, x.0.0, x.0.1, refl))) (λ refusal left is. taken-lacks p (number_of p.rest) refusal left is)

pub leads-text : (p : Place) → Leads TextOf p (text p)
unfolding text
leads-text p = one-token p (text p) (string [] 0) refl (λ r. (0, [], refl))
    (λ x is. let (line, takes) = text-takes p x is in (string x.0 line, takes.tokens, λ r. (line, x.0, refl))) (λ refusal left is. taken-lacks p (text_of p.rest) refusal left is)

-- by a word that is among the entries
pub leads-word_in : {A : Type 0} (entries : List (List ℕ × A)) (w : List ℕ) (a : A) → meant_by entries w ≡ Some a → is_type (next_of (word w 0)) ≡ false → (p : Place) → Leads (WordOf entries) p (word_in entries p)
unfolding word_in
leads-word_in entries w a meant no_type p = one-token p (word_in entries p) (word w 0) no_type (λ r. (0, w, a, meant, refl))
    (λ x is. let (line, other, meant, takes) = word_in-takes entries p x is in (word other line, takes.tokens, λ r. (line, other, x.0, meant, refl)))
    (λ refusal left is. taken-lacks p (option_and_then (meant_by entries) (front_word p)) refusal left is)

-- ---- tokens that are known to come next

pub leads-sign : (s : Sign) (p : Place) → front p ≡ next.Sign s → Leads (SignOf s) p (take p)
leads-sign s p is = let (line, takes) = sign-takes p s is in Whole tt (advance p) (sign_at s line ∷ []) refl tt takes.tokens (λ r. (line, refl))

pub leads-taken : (k : Keyword) (p : Place) → front p ≡ next.Keyword k → Leads (KeywordOf k) p (take p)
leads-taken k p is = let (line, takes) = keyword-takes p k is in Whole tt (advance p) (word (key_word k) line ∷ []) refl tt takes.tokens (λ r. (line, refl))

pub leads-ty : (p : Place) → is_type (front p) ≡ true → Leads TypeOf p (ty p)
unfolding ty
leads-ty p is = go (ty p) refl
  where
    go : (o : Outcome Ty) → ty p ≡ o → Leads TypeOf p (ty p)
    go (Read x) read = let (line, takes) = ty-takes p x read in Whole x.0 x.1 (typed x.0 line ∷ []) read tt takes.tokens (λ r. (line, x.0, refl))
    go (Refused refusal left) stops = absurd (none (front p) is stops)
      where
        none : (nx : Next) → is_type nx ≡ true → taken p (type_of nx) ≡ Refused refusal left → ⊥
        none (next.Keyword key.Int) h stops = cc
        none (next.Keyword key.Long) h stops = cc
        none (next.Keyword k) h stops = cc
        none other h stops = cc

-- a token of the first, and what follows has to come
typed-next : {B : Type 0} {other : Lang} (g : Ty → Parser B) (line : ℕ) (p : Place) → ((t : Ty) (q : Place) → Leads other q (g t q)) → Default other
    → (q : Place) → p.rest ≡ sign_at sign.Lt line ∷ q.rest → Leads (Chain (SignOf sign.Lt) (Chain TypeOf other)) p (and_then (ty q) g)
unfolding ty keyword_of
typed-next {other = other} g line p next d q tokens = go (ty q) refl
  where
    whole : (t : Ty) (s : Place) (l : ℕ) → q.rest ≡ typed t l ∷ s.rest → ty q ≡ Read (t, s) → Leads other s (g t s) → Leads (Chain (SignOf sign.Lt) (Chain TypeOf other)) p (and_then (ty q) g)
    whole t s l rests is (Whole value z w is2 holds tokens2 goes) =
        Whole value z (sign_at sign.Lt line ∷ typed t l ∷ w) (ap (λ k. and_then k g) is ∙ is2) holds (tokens ∙ ap (λ r. sign_at sign.Lt line ∷ r) (rests ∙ ap (λ r. typed t l ∷ r) tokens2))
        (λ r. record { between = typed t l ∷ (w ++ r); first = (line, refl); second = record { between = w ++ r; first = (l, t, refl); second = goes r } })
    whole t s l rests is (Part refusal left front fix rest is2 tokens2 goes shape) =
        Part refusal left (sign_at sign.Lt line ∷ typed t l ∷ front) fix rest (ap (λ k. and_then k g) is ∙ is2) (tokens ∙ ap (λ r. sign_at sign.Lt line ∷ r) (rests ∙ ap (λ r. typed t l ∷ r) tokens2))
        (λ r. record { between = typed t l ∷ (front ++ (fix ++ r)); first = (line, refl); second = record { between = front ++ (fix ++ r); first = (l, t, refl); second = goes r } })
        (shape-before refusal left (sign_at sign.Lt line ∷ typed t l ∷ []) front fix rest shape)

    go : (o : Outcome Ty) → ty q ≡ o → Leads (Chain (SignOf sign.Lt) (Chain TypeOf other)) p (and_then (ty q) g)
    go (Read x) read = let (l, takes) = ty-takes q x read in whole x.0 x.1 l takes.tokens read (next x.0 x.1)
    go (Refused refusal left) stops =
        let (syntax, all) = taken-lacks q (type_of (front q)) refusal left stops in
        Part Syntax left (sign_at sign.Lt line ∷ []) (typed Int 0 ∷ d.fix) q.rest (ap (λ k. and_then k g) stops ∙ ap (λ k. Refused k left) syntax) tokens
        (λ r. record { between = typed Int 0 ∷ (d.fix ++ r); first = (line, refl); second = record { between = d.fix ++ r; first = (0, Int, refl); second = d.goes r } })
        (sym all, inr (record { before = []; token = sign_at sign.Lt line; is = refl; no_open = λ same. cc }))

pub leads-angle : {B : Type 0} {other : Lang} (g : Ty → Parser B) (p : Place) → ((t : Ty) (q : Place) → Leads other q (g t q)) → Default other
    → Leads (Chain (SignOf sign.Lt) (Chain TypeOf other)) p (and_then (expect sign.Lt p) (λ _ q. and_then (ty q) g))
leads-angle {other = other} g p next d = go (expect sign.Lt p) refl
  where
    go : (o : Outcome (Unit {0})) → expect sign.Lt p ≡ o → Leads (Chain (SignOf sign.Lt) (Chain TypeOf other)) p (and_then (expect sign.Lt p) (λ _ q. and_then (ty q) g))
    go (Read x) read =
        let (line, takes) = expect-takes p sign.Lt x read in
        subst (λ k. Leads (Chain (SignOf sign.Lt) (Chain TypeOf other)) p (and_then k (λ _ q. and_then (ty q) g))) (sym read) (typed-next g line p next d x.1 takes.tokens)
    go (Refused refusal left) stops =
        let (syntax, all) = expect-lacks sign.Lt p refusal left stops in
        Part Syntax left [] (sign_at sign.Lt 0 ∷ typed Int 0 ∷ d.fix) p.rest (ap (λ k. and_then k (λ _ q. and_then (ty q) g)) stops ∙ ap (λ k. Refused k left) syntax) refl
        (λ r. record { between = typed Int 0 ∷ (d.fix ++ r); first = (0, refl); second = record { between = d.fix ++ r; first = (0, Int, refl); second = d.goes r } })
        (sym all, inl (record { token = sign_at sign.Lt 0; more = typed Int 0 ∷ d.fix; is = refl; no_type = refl }))

-- ---- what is opened, and what is counted

pub leads-opens : {B : Type 0} {Q : B → Type 0} {other : Lang} (s : Sign) (left : ℕ) (p : Place) (h : Parser B) → front p ≡ next.Sign s → ((q : Place) → 0 < left → LeadsTo Q other q (h q)) → Default other
    → LeadsTo Q (Chain (SignOf s) other) p (and_then (opened left p) (λ _. take >> h))
unfolding opened
leads-opens s zero p h is next d =
    let (line, takes) = sign-takes p s is in
    Part Deep (length p.rest) (sign_at s line ∷ []) d.fix (advance p).rest refl takes.tokens (λ r. record { between = d.fix ++ r; first = (line, refl); second = d.goes r }) (sym (ap length takes.tokens))
leads-opens s (suc left) p h is next d = leads-then (λ _. h) (leads-sign s p is) (λ _ q _. next q (omega arith)) d

pub leads-opens_by : {B : Type 0} {Q : B → Type 0} {other : Lang} (s : Sign) (left : ℕ) (p : Place) (h : Parser B) → ((q : Place) → 0 < left → LeadsTo Q other q (h q)) → Default other
    → LeadsTo Q (Chain (SignOf s) other) p (and_then (opened_by s left p) (λ _. h))
unfolding opened_by opened
leads-opens_by {Q = Q} {other = other} s left p h next d = go left refl (sees s p) refl
  where
    go : (n : ℕ) → left ≡ n → (b : Bool) → sees s p ≡ b → LeadsTo Q (Chain (SignOf s) other) p (and_then (cond b (and_then (opened n p) (λ _. take)) (refuse Syntax p)) (λ _. h))
    go zero same true is = let (line, takes) = sign-takes p s (sees-sign p s is) in
        Part Deep (length p.rest) (sign_at s line ∷ []) d.fix (advance p).rest refl takes.tokens (λ r. record { between = d.fix ++ r; first = (line, refl); second = d.goes r }) (sym (ap length takes.tokens))
    go (suc n) same true is = leads-then (λ _. h) (leads-sign s p (sees-sign p s is)) (λ _ q _. next q (omega arith)) d
    go n same false is =
        Part Syntax (length p.rest) [] (sign_at s 0 ∷ d.fix) p.rest refl refl (λ r. record { between = d.fix ++ r; first = (0, refl); second = d.goes r })
        (refl, inl (record { token = sign_at s 0; more = d.fix; is = refl; no_type = refl }))

-- one token more can be read here and completed, and it is no opening parenthesis
pub record OneMore (D : Lang) (p : Place) : Type 0 where
  pub token : Token
  pub rest : List Token
  pub fix : List Token
  pub tokens : p.rest ≡ token ∷ rest
  pub goes : (r : List Token) → D (token ∷ (fix ++ r)) r
  pub no_open : next_of token ≢ next.Sign sign.OpenParen

pub leads-counted : {B : Type 0} {D : Lang} (p : Place) (f : Parser B) → OneMore D p → ((q : Place) → q.rest ≡ p.rest → Leads D q (f q)) → Leads D p (and_then (count_node p) (λ _. f))
unfolding count_node
leads-counted {B} {D} p f one next = go (nat_lt p.nodes 1024)
  where
    moved : Leads D (record p { nodes = p.nodes + 1 }) (f (record p { nodes = p.nodes + 1 })) → Leads D p (f (record p { nodes = p.nodes + 1 }))
    moved (Whole value q w is holds tokens goes) = Whole value q w is holds tokens goes
    moved (Part refusal left front fix rest is tokens goes shape) = Part refusal left front fix rest is tokens goes shape

    go : (b : Bool) → Leads D p (and_then (cond b (Read (tt {0}, record p { nodes = p.nodes + 1 })) (refuse (Many Nodes) p)) (λ _. f))
    go true = moved (next (record p { nodes = p.nodes + 1 }) refl)
    go false =
        Part (Many Nodes) (length p.rest) (one.token ∷ []) one.fix one.rest refl one.tokens one.goes
        (inl (sym (ap length one.tokens), record { before = []; token = one.token; is = refl; no_open = one.no_open }))

-- a token is known to come first
pub leads-prefix : {A : Type 0} {Q : A → Type 0} {other D : Lang} {o : Outcome A} (t : Token) (p q : Place) → p.rest ≡ t ∷ q.rest → ((tokens rest : List Token) → other tokens rest → D (t ∷ tokens) rest)
    → LeadsTo Q other q o → LeadsTo Q D p o
leads-prefix t p q tokens f (Whole value s w is holds tokens2 goes) = Whole value s (t ∷ w) is holds (tokens ∙ ap (λ l. t ∷ l) tokens2) (λ r. f (w ++ r) r (goes r))
leads-prefix t p q tokens f (Part refusal left front fix rest is tokens2 goes shape) =
    Part refusal left (t ∷ front) fix rest is (tokens ∙ ap (λ l. t ∷ l) tokens2) (λ r. f (front ++ (fix ++ r)) r (goes r)) (shape-before refusal left (t ∷ []) front fix rest shape)

pub record NameHere (p : Place) : Type 0 where
  pub line : ℕ
  pub w : List ℕ
  pub free : IsName w
  pub rest : List Token
  pub tokens : p.rest ≡ word w line ∷ rest
  pub no_open : next_of (word w line) ≢ next.Sign sign.OpenParen

pub name-here : (p : Place) → front p ≡ next.Name → NameHere p
unfolding front
name-here p is = go p.rest is refl
  where
    word-name : (token : Token) (rest : List Token) (w : List ℕ) (k : Option Keyword) → token.what ≡ kind.Word w → keyword_of w ≡ k → word_next k ≡ next.Name → p.rest ≡ token ∷ rest → NameHere p
    word-name token rest w None what free is tokens = record {
      line = token.line;
      w = w;
      free = free-name w free;
      rest = rest;
      tokens = tokens ∙ ap (λ t. t ∷ rest) (token-is token (kind.Word w) what);
      no_open = λ same. let named : word_next (keyword_of w) ≡ next.Name = ap word_next free in cc;
    }
    word-name token rest w (Some k) what free is tokens = absurd (cc)

    by_kind : (token : Token) (rest : List Token) (what : TokenKind) → token.what ≡ what → kind_next what ≡ next.Name → p.rest ≡ token ∷ rest → NameHere p
    by_kind token rest (kind.Word w) what is tokens = word-name token rest w (keyword_of w) what refl is tokens
    by_kind token rest (kind.Number t v) what is tokens = absurd (cc)
    by_kind token rest (kind.Text t) what is tokens = absurd (cc)
    by_kind token rest (kind.Sign s) what is tokens = absurd (cc)

    go : (l : List Token) → front_of l ≡ next.Name → p.rest ≡ l → NameHere p
    go [] is tokens = absurd (cc)
    go (token ∷ rest) is tokens = by_kind token rest token.what refl is tokens

pub record TypeHere (p : Place) : Type 0 where
  pub line : ℕ
  pub t : Ty
  pub rest : List Token
  pub tokens : p.rest ≡ typed t line ∷ rest

pub type-here : (p : Place) → is_type (front p) ≡ true → TypeHere p
type-here p is = go (front p) refl is
  where
    go : (nx : Next) → front p ≡ nx → is_type nx ≡ true → TypeHere p
    go (next.Keyword key.Int) same is = let (line, takes) = keyword-takes p key.Int same in record { line = line; t = Int; rest = (advance p).rest; tokens = takes.tokens }
    go (next.Keyword key.Long) same is = let (line, takes) = keyword-takes p key.Long same in record { line = line; t = Long; rest = (advance p).rest; tokens = takes.tokens }
    go (next.Keyword k) same is = absurd (cc)
    go other same is = absurd (cc)

pub record NumberHere (p : Place) : Type 0 where
  pub line : ℕ
  pub t : Ty
  pub v : ℤ
  pub rest : List Token
  pub tokens : p.rest ≡ spelling.number t v line ∷ rest

pub number-here : (p : Place) → front p ≡ next.Number → NumberHere p
unfolding front
number-here p is = go p.rest is refl
  where
    no-number : {A : Type 0} (k : Option Keyword) → word_next k ≡ next.Number → A
    no-number None is = absurd (cc)
    no-number (Some k) is = absurd (cc)

    by_kind : (token : Token) (rest : List Token) (what : TokenKind) → token.what ≡ what → kind_next what ≡ next.Number → p.rest ≡ token ∷ rest → NumberHere p
    by_kind token rest (kind.Word w) what is tokens = no-number (keyword_of w) is
    by_kind token rest (kind.Number t v) what is tokens = record { line = token.line; t = t; v = v; rest = rest; tokens = tokens ∙ ap (λ k. k ∷ rest) (token-is token (kind.Number t v) what) }
    by_kind token rest (kind.Text t) what is tokens = absurd (cc)
    by_kind token rest (kind.Sign s) what is tokens = absurd (cc)

    go : (l : List Token) → front_of l ≡ next.Number → p.rest ≡ l → NumberHere p
    go [] is tokens = absurd (cc)
    go (token ∷ rest) is tokens = by_kind token rest token.what refl is tokens

-- the same comes next
pub front-of : (p q : Place) → q.rest ≡ p.rest → front q ≡ front p
unfolding front
front-of p q same = ap front_of same

-- ---- items with commas between

-- what may follow an item of a list
abbrev pub FollowsIn : (item list : Lang) → Lang
FollowsIn item list tokens rest = (all : List Token) → item all tokens → list all rest

module _ {W A : Type 0} (item : List A → Parser W) (made : W → A) (from : (turns : ℕ) → List A → Parser (List A)) (one list : Lang) where
  abbrev pub IsLoop : Type 0
  IsLoop =
      ((found : List A) (p : Place) → from zero found p ≡ refuse Syntax p)
      × ((turns : ℕ) (found : List A) (p : Place) → from (suc turns) found p
      ≡ and_then (item found p) (λ x q. cond (sees sign.Comma q) (from turns (found ++ made x ∷ [])) (λ r. Read (found ++ made x ∷ [], r)) (after sign.Comma q)))

  pub leads-list : IsLoop → ((tokens rest : List Token) → one tokens rest → list tokens rest)
      → ((tokens between rest : List Token) (line : ℕ) → one tokens (sign_at sign.Comma line ∷ between) → list between rest → list tokens rest)
      → (d : Default list) → Fresh d.fix → ((found : List A) (p : Place) → Leads one p (item found p)) → (turns : ℕ) (found : List A) (p : Place) → Leads list p (from turns found p)
  unfolding after
  leads-list loop last more d fresh items zero found p = subst (λ o. Leads list p o) (sym (loop.0 found p)) (leads-lacking d p fresh)
  leads-list loop last more d fresh items (suc turns) found p =
      subst (λ o. Leads list p o) (sym (loop.1 turns found p))
      (leads-map (λ tokens rest c. c.second tokens c.first) (leads-then _ (items found p) (λ x q _. follows x q (sees sign.Comma q) refl (leads-list loop last more d fresh items turns (found ++ made x ∷ []) (advance q)))
      (record { fix = []; goes = λ r all first. last all r first })))
    where
      follows : (x : W) (q : Place) (b : Bool) → sees sign.Comma q ≡ b → Leads list (advance q) (from turns (found ++ made x ∷ []) (advance q))
          → Leads (FollowsIn one list) q (cond b (from turns (found ++ made x ∷ [])) (λ r. Read (found ++ made x ∷ [], r)) (cond b (advance q) q))
      follows x q true is later =
          let (line, takes) = sign-takes q sign.Comma (sees-sign q sign.Comma is) in
          leads-prefix (sign_at sign.Comma line) q (advance q) takes.tokens (λ tokens rest found all first. more all tokens rest line first found) later
      follows x q false is later = Whole (found ++ made x ∷ []) q [] refl tt refl (λ r all first. last all r first)

-- nothing was taken between
pub leads-moved : {A : Type 0} {Q : A → Type 0} {D : Lang} {o : Outcome A} (p q : Place) → q.rest ≡ p.rest → LeadsTo Q D q o → LeadsTo Q D p o
leads-moved p q same (Whole value z w is holds tokens goes) = Whole value z w is holds (sym same ∙ tokens) goes
leads-moved p q same (Part refusal left front fix rest is tokens goes shape) = Part refusal left front fix rest is (sym same ∙ tokens) goes shape

abbrev pub a-name : Default NameOf
a-name = record { fix = word (codes "a") 0 ∷ []; goes = λ r. (0, codes "a", is-a, refl) }

pub name-fresh : (more : List Token) → Fresh (word (codes "a") 0 ∷ more)
unfolding keyword_of
name-fresh more = record { token = word (codes "a") 0; more = more; is = refl; no_type = refl }

pub leads-counted_instance : {B : Type 0} {D : Lang} (p : Place) (f : Parser B) → OneMore D p → ((q : Place) → q.rest ≡ p.rest → Leads D q (f q)) → Leads D p (and_then (count_instance p) (λ _. f))
unfolding count_instance
leads-counted_instance {B} {D} p f one next = go (nat_lt p.instances 1024)
  where
    go : (b : Bool) → Leads D p (and_then (cond b (Read (tt {0}, record p { instances = p.instances + 1 })) (refuse (Many Instances) p)) (λ _. f))
    go true = leads-moved p (record p { instances = p.instances + 1 }) refl (next (record p { instances = p.instances + 1 }) refl)
    go false =
        Part (Many Instances) (length p.rest) (one.token ∷ []) one.fix one.rest refl one.tokens one.goes
        (inl (sym (ap length one.tokens), record { before = []; token = one.token; is = refl; no_open = one.no_open }))
