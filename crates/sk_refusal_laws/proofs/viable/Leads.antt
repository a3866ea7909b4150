-- What a reader leads to: it reads a whole part, or stops inside of one; then the tokens up to there can be completed.
use Rattle.std.proofs.Common.{◌≡◌, ◌≢◌, ◌⊎◌, inl, inr, ℕ, suc, false, List, [], ◌∷◌, ◌++◌, length, ℤ, Some, refl, ap, sym, subst, ◌∙◌, append_assoc}
use Rattle.sk_base.specs.declared.number.Ty.{Ty}
use Rattle.sk_grammar.specs.ExpressionSpelling as spelling
use Rattle.sk_grammar.specs.ExpressionSpelling.{IsName, sign_at, word, typed, string}
use Rattle.sk_grammar.specs.Signs.{meant_by}
use Rattle.sk_refusals.specs.declared.refusal.Refusal.{Refusal}
use Rattle.sk_refusals.specs.declared.refusal.Refusal.TheVariants.{Syntax, Deep, Many}
use Rattle.sk_tokens.specs.declared.token.Sign.{Sign}
use Rattle.sk_tokens.specs.declared.token.Sign.TheVariants as sign
use Rattle.sk_tokens.specs.declared.token.Token.{Token}
use Rattle.sk_reading.specs.declared.keyword.Keyword.{Keyword}
use Rattle.sk_reading.specs.declared.next.Next.TheVariants as next
use Rattle.sk_reading.specs.Reading.{Place, Outcome, Read, Refused, Parser, and_then, pure, front, next_of}
use Rattle.sk_reading.specs.ReadingExpressions.{is_type}
use Rattle.sk_reading_sound_laws.proofs.Steps.{key_word}

-- ---- languages: which tokens come in front of which rest

abbrev pub Lang : Type 1
Lang = List Token → List Token → Type 0

pub record Chain (one other : Lang) (tokens rest : List Token) : Type 0 where
  pub between : List Token
  pub first : one tokens between
  pub second : other between rest

abbrev pub Nothing : Lang
Nothing tokens rest = tokens ≡ rest

abbrev pub SignOf : Sign → Lang
SignOf s tokens rest = (line : ℕ) × (tokens ≡ sign_at s line ∷ rest)

abbrev pub KeywordOf : Keyword → Lang
KeywordOf k tokens rest = (line : ℕ) × (tokens ≡ word (key_word k) line ∷ rest)

abbrev pub NameOf : Lang
NameOf tokens rest = (line : ℕ) × (w : List ℕ) × IsName w × (tokens ≡ word w line ∷ rest)

abbrev pub NumberOf : Lang
NumberOf tokens rest = (line : ℕ) × (t : Ty) × (v : ℤ) × (tokens ≡ spelling.number t v line ∷ rest)

abbrev pub TextOf : Lang
TextOf tokens rest = (line : ℕ) × (t : List ℕ) × (tokens ≡ string t line ∷ rest)

abbrev pub TypeOf : Lang
TypeOf tokens rest = (line : ℕ) × (t : Ty) × (tokens ≡ typed t line ∷ rest)

abbrev pub WordOf : {A : Type 0} → List (List ℕ × A) → Lang
WordOf {A} entries tokens rest = (line : ℕ) × (w : List ℕ) × (a : A) × (meant_by entries w ≡ Some a) × (tokens ≡ word w line ∷ rest)

-- ---- what stands at the place where a reader stops

-- it begins with no type
pub record Fresh (fix : List Token) : Type 0 where
  pub token : Token
  pub more : List Token
  pub is : fix ≡ token ∷ more
  pub no_type : is_type (next_of token) ≡ false

-- it ends with no opening parenthesis
pub record EndsPlain (front : List Token) : Type 0 where
  pub before : List Token
  pub token : Token
  pub is : front ≡ before ++ token ∷ []
  pub no_open : next_of token ≢ next.Sign sign.OpenParen

-- Behind what was read so far, `left` tokens were left where it stopped. A token that exceeds a limit was read as well; of a
-- conversion the type, too.
abbrev pub Shape : Refusal → (left : ℕ) → (front fix rest : List Token) → Type 0
Shape Syntax left front fix rest = (length rest ≡ left) × (Fresh fix ⊎ EndsPlain front)
Shape Deep left front fix rest = suc (length rest) ≡ left
Shape (Many what) left front fix rest = ((suc (length rest) ≡ left) × EndsPlain front) ⊎ (suc (suc (length rest)) ≡ left)

pub ends-plain : (w front : List Token) → EndsPlain front → EndsPlain (w ++ front)
ends-plain w front e = record { before = w ++ e.before; token = e.token; is = ap (λ l. w ++ l) e.is ∙ sym (append_assoc w e.before (e.token ∷ [])); no_open = e.no_open }

fresh-more : (fix d : List Token) → Fresh fix → Fresh (fix ++ d)
fresh-more fix d f = record { token = f.token; more = f.more ++ d; is = ap (λ l. l ++ d) f.is; no_type = f.no_type }

pub shape-before : (refusal : Refusal) (left : ℕ) (w front fix rest : List Token) → Shape refusal left front fix rest → Shape refusal left (w ++ front) fix rest
shape-before Syntax left w front fix rest (same, inl fresh) = (same, inl fresh)
shape-before Syntax left w front fix rest (same, inr plain) = (same, inr (ends-plain w front plain))
shape-before Deep left w front fix rest same = same
shape-before (Many what) left w front fix rest (inl one) = inl (one.0, ends-plain w front one.1)
shape-before (Many what) left w front fix rest (inr two) = inr two

shape-after : (refusal : Refusal) (left : ℕ) (front fix d rest : List Token) → Shape refusal left front fix rest → Shape refusal left front (fix ++ d) rest
shape-after Syntax left front fix d rest (same, inl fresh) = (same, inl (fresh-more fix d fresh))
shape-after Syntax left front fix d rest (same, inr plain) = (same, inr plain)
shape-after Deep left front fix d rest same = same
shape-after (Many what) left front fix d rest shape = shape

-- ---- what a reader leads to

pub data LeadsTo {A : Type 0} (Q : A → Type 0) (D : Lang) (p : Place) (o : Outcome A) : Type 0 where
  Whole : (value : A) (q : Place) (w : List Token) → o ≡ Read (value, q) → Q value → p.rest ≡ w ++ q.rest → ((r : List Token) → D (w ++ r) r) → LeadsTo Q D p o
  Part : (refusal : Refusal) (left : ℕ) (front fix rest : List Token) → o ≡ Refused refusal left → p.rest ≡ front ++ rest → ((r : List Token) → D (front ++ (fix ++ r)) r)
      → Shape refusal left front fix rest → LeadsTo Q D p o

abbrev pub Any : {A : Type 0} → A → Type 0
Any value = Unit {0}

abbrev pub Leads : {A : Type 0} → Lang → Place → Outcome A → Type 0
Leads {A} D p o = LeadsTo {A = A} Any D p o

-- how a part can be completed that is not begun
pub record Default (D : Lang) : Type 0 where
  pub fix : List Token
  pub goes : (r : List Token) → D (fix ++ r) r

abbrev pub default-chain : {one other : Lang} → Default one → Default other → Default (Chain one other)
default-chain {one} {other} a b = record {
  fix = a.fix ++ b.fix;
  goes = λ r. subst (λ T. Chain one other T r) (sym (append_assoc a.fix b.fix r)) (record { between = b.fix ++ r; first = a.goes (b.fix ++ r); second = b.goes r });
}

pub leads-then : {A B : Type 0} {Q : A → Type 0} {Q2 : B → Type 0} {one other : Lang} {p : Place} {o : Outcome A} (g : A → Parser B) → LeadsTo Q one p o
    → ((a : A) (q : Place) → Q a → LeadsTo Q2 other q (g a q)) → Default other → LeadsTo Q2 (Chain one other) p (and_then o g)
leads-then {Q2 = Q2} {one = one} {other = other} {p = p} {o = o} g (Whole value q w is holds tokens goes) more d = go (more value q holds)
  where
    go : LeadsTo Q2 other q (g value q) → LeadsTo Q2 (Chain one other) p (and_then o g)
    go (Whole value2 q2 w2 is2 holds2 tokens2 goes2) =
        Whole value2 q2 (w ++ w2) (ap (λ k. and_then k g) is ∙ is2) holds2 (tokens ∙ ap (λ l. w ++ l) tokens2 ∙ sym (append_assoc w w2 q2.rest))
        (λ r. subst (λ T. Chain one other T r) (sym (append_assoc w w2 r)) (record { between = w2 ++ r; first = goes (w2 ++ r); second = goes2 r }))
    go (Part refusal left front fix rest is2 tokens2 goes2 shape) =
        Part refusal left (w ++ front) fix rest (ap (λ k. and_then k g) is ∙ is2) (tokens ∙ ap (λ l. w ++ l) tokens2 ∙ sym (append_assoc w front rest))
        (λ r. subst (λ T. Chain one other T r) (sym (append_assoc w front (fix ++ r))) (record { between = front ++ (fix ++ r); first = goes (front ++ (fix ++ r)); second = goes2 r }))
        (shape-before refusal left w front fix rest shape)
leads-then {one = one} {other = other} g (Part refusal left front fix rest is tokens goes shape) more d =
    Part refusal left front (fix ++ d.fix) rest (ap (λ k. and_then k g) is) tokens
    (λ r. subst (λ T. Chain one other (front ++ T) r) (sym (append_assoc fix d.fix r)) (record { between = d.fix ++ r; first = goes (d.fix ++ r); second = d.goes r }))
    (shape-after refusal left front fix d.fix rest shape)

pub leads-map : {A : Type 0} {Q : A → Type 0} {one other : Lang} {p : Place} {o : Outcome A} → ((tokens rest : List Token) → one tokens rest → other tokens rest) → LeadsTo Q one p o → LeadsTo Q other p o
leads-map f (Whole value q w is holds tokens goes) = Whole value q w is holds tokens (λ r. f (w ++ r) r (goes r))
leads-map f (Part refusal left front fix rest is tokens goes shape) = Part refusal left front fix rest is tokens (λ r. f (front ++ (fix ++ r)) r (goes r)) shape

-- a value is made of what is read
pub leads-done : {A B : Type 0} {Q : A → Type 0} {Q2 : B → Type 0} {D : Lang} {p : Place} {o : Outcome A} (h : A → B) → ((a : A) → Q a → Q2 (h a)) → LeadsTo Q D p o
    → LeadsTo Q2 D p (and_then o (λ a. pure (h a)))
leads-done h made (Whole value q w is holds tokens goes) = Whole (h value) q w (ap (λ k. and_then k (λ a. pure (h a))) is) (made value holds) tokens goes
leads-done h made (Part refusal left front fix rest is tokens goes shape) = Part refusal left front fix rest (ap (λ k. and_then k (λ a. pure (h a))) is) tokens goes shape

-- ---- single tokens

-- a token is taken, or lacking
pub one-token : {A : Type 0} {D : Lang} (p : Place) (o : Outcome A) (lacking : Token) → is_type (next_of lacking) ≡ false → ((r : List Token) → D (lacking ∷ r) r)
    → ((x : A × Place) → o ≡ Read x → (t : Token) × (p.rest ≡ t ∷ x.1.rest) × ((r : List Token) → D (t ∷ r) r)) → ((refusal : Refusal) (left : ℕ) → o ≡ Refused refusal left → (refusal ≡ Syntax) × (left ≡ length p.rest))
    → Leads D p o
one-token {D = D} p o lacking no_type spelt reads stops = go o refl
  where
    go : (k : Outcome _) → o ≡ k → Leads D p o
    go (Read x) is = let (t, tokens, goes) = reads x is in Whole x.0 x.1 (t ∷ []) is tt tokens goes
    go (Refused refusal left) is =
        let (syntax, all) = stops refusal left is in
        Part Syntax left [] (lacking ∷ []) p.rest (subst (λ r. o ≡ Refused r left) syntax is) refl spelt (sym all, inl (record { token = lacking; more = []; is = refl; no_type = no_type }))

-- a part that has to come next is lacking
pub leads-lacking : {A : Type 0} {Q : A → Type 0} {D : Lang} (d : Default D) (p : Place) → Fresh d.fix → LeadsTo {A = A} Q D p (Refused Syntax (length p.rest))
leads-lacking d p fresh = Part Syntax (length p.rest) [] d.fix p.rest refl refl d.goes (refl, inl fresh)
