-- What the reading refuses is what the tokens have wrong.
use Rattle.std.proofs.Common.{◌≡◌, ◌⊎◌, inl, inr, ℕ, zero, suc, ◌+◌, ◌<◌, ◌≤◌, true, false, List, [], ◌∷◌, ◌++◌, length, take, drop, refl, ap, sym, subst, ◌∙◌, arith, append_assoc, length-append}
use Rattle.sk_grammar.specs.Grammar.{Spelling, tokens_in, IsLawfulSpelling}
use Rattle.sk_refusals.specs.Marks.{Mark, marks_in}
use Rattle.sk_refusals.specs.Refusals.{Continues, ExceedsIn, IsWrongAt, NoSyntax, TooMuch, IsRefusal, order_of}
use Rattle.sk_refusals.specs.declared.refusal.Limited.TheVariants.{Nodes}
use Rattle.sk_refusals.specs.declared.refusal.Refusal.{Refusal}
use Rattle.sk_refusals.specs.declared.refusal.Refusal.TheVariants.{Syntax, Deep, Many}
use Rattle.sk_tokens.specs.declared.token.Sign.TheVariants as sign
use Rattle.sk_tokens.specs.declared.token.Token.{Token}
use Rattle.sk_reading.specs.declared.next.Next.TheVariants as next
use Rattle.sk_tree.specs.declared.tree.Function.{Function}
use Rattle.sk_reading.specs.Reading.{Place, Outcome, Read, Refused, front_of, next_of, start_of}
use Rattle.sk_reading_complete_laws.proofs.Steps.{at as place_at}
use Rattle.sk_reading.specs.ReadingExpressions.{is_type}
use Rattle.sk_reading.specs.ReadingPrograms.{functions, RefusesAt}
use Rattle.sk_refusal_laws.proofs.Local.{Under, Related, Both, Neither, Apart, Past, Counts}
use Rattle.sk_refusal_laws.proofs.Programs.{programs-alike, functions-within}
use Rattle.sk_refusal_laws.proofs.Refused.{split, regrouped, IsHidden, Halted, halts, halted-exceeds, halted-fine, fine-found, fine-not_exceeded, last-found, none-begins, none-reads}
use Rattle.sk_reading_complete_laws.proofs.spelled.Judged.{Judged, Goes, Halts, First, TooDeep, OneTooMany, below-or}
use Rattle.sk_reading_complete_laws.proofs.spelled.Lengths.{definitions-length}
use Rattle.sk_reading_complete_laws.proofs.spelled.Programs.{program-judged}
use Rattle.sk_refusal_laws.proofs.viable.Leads.{EndsPlain}
use Rattle.sk_refusal_laws.proofs.viable.Programs.{Viable, program-viable}

-- ---- fronts of a list

more-taken : (tokens : List Token) (few many : ℕ) → few ≤ many → (more : List Token) × (take many tokens ≡ take few tokens ++ more)
more-taken [] zero many less = (take many [], refl)
more-taken [] (suc few) many less = (take many [], refl)
more-taken (t ∷ tokens) zero many less = (take many (t ∷ tokens), refl)
more-taken (t ∷ tokens) (suc few) zero less = absurd (omega arith)
more-taken (t ∷ tokens) (suc few) (suc many) less = let (more, is) = more-taken tokens few many (omega arith) in (more, ap (λ l. t ∷ l) is)

pub continues-less : (tokens : List Token) (few many : ℕ) → few ≤ many → (spelling : Spelling) → Continues (take many tokens) spelling → Continues (take few tokens) spelling
continues-less tokens few many less spelling continues =
    let (more, is) = more-taken tokens few many less in
    record {
      lawful = continues.lawful;
      behind = more ++ continues.behind;
      tokens_are = continues.tokens_are ∙ ap (λ l. l ++ continues.behind) is ∙ append_assoc (take few tokens) more continues.behind;
    }

abbrev last_of : Token → List Token → Token
last_of t [] = t
last_of t (next ∷ l) = last_of next l

last-is : (d : Token) (l : List Token) (t : Token) → last_of d (l ++ t ∷ []) ≡ t
last-is d [] t = refl
last-is d (next ∷ l) t = last-is next l t

last-same : (xs ys : List Token) (x y : Token) → xs ++ x ∷ [] ≡ ys ++ y ∷ [] → x ≡ y
last-same xs ys x y same = sym (last-is x xs x) ∙ ap (last_of x) same ∙ last-is x ys y

-- ---- what is completed

take-front : (front rest : List Token) → take (length front) (front ++ rest) ≡ front
take-front [] [] = refl
take-front [] (t ∷ rest) = refl
take-front (t ∷ front) rest = ap (λ l. t ∷ l) (take-front front rest)

front-taken : (tokens front rest : List Token) (most : ℕ) → tokens ≡ front ++ rest → length front ≡ most → take most tokens ≡ front
front-taken tokens front rest most is size = ap (λ n. take n tokens) (sym size) ∙ ap (take (length front)) is ∙ take-front front rest

completed : (tokens front fix rest : List Token) (most : ℕ) (spelling : Spelling) → IsLawfulSpelling spelling → front ++ fix ≡ tokens_in spelling → tokens ≡ front ++ rest → length front ≡ most
    → Continues (take most tokens) spelling
completed tokens front fix rest most spelling lawful spelt is size =
    record { lawful = lawful; behind = fix; tokens_are = sym spelt ∙ ap (λ l. l ++ fix) (sym (front-taken tokens front rest most is size)) }

-- so many tokens begin a program
record Reached (tokens : List Token) (most : ℕ) : Type 0 where
  inside : most ≤ length tokens
  spelling : Spelling
  continues : Continues (take most tokens) spelling

reached : (tokens : List Token) (refusal : Refusal) (left most : ℕ) (v : Viable refusal left (start_of tokens)) → length v.front ≡ most → Reached tokens most
reached tokens refusal left most v size = record {
  inside = omega (arith, ap length v.tokens, length-append v.front v.rest, size);
  spelling = v.spelling;
  continues = completed tokens v.front v.fix v.rest most v.spelling v.lawful v.spelt v.tokens size;
}

-- ---- a program with which the grammar's refusal could go on exceeds nothing before

nothing-exceeded : (spelling : Spelling) → IsLawfulSpelling spelling → (token : ℕ) (behind : ℕ) → length (tokens_in spelling) ≡ token + behind → Under (suc behind) (functions (tokens_in spelling))
    → (other : Refusal) (at : ℕ) → at < token → ExceedsIn other at spelling → ⊥
nothing-exceeded spelling lawful token behind size under other at before exceeds =
    let (m, j, judged) = program-judged spelling lawful in go (_, place_at [] m j) judged
  where
    go : (x : List Function × Place) → Judged (functions (tokens_in spelling)) (Read x) [] (marks_in spelling) → ⊥
    go x (Goes is passes) =
        fine-not_exceeded exceeds.mark other (fine-found [] (marks_in spelling) passes at exceeds.mark (omega (arith, size, definitions-length 1 0 spelling)) exceeds.found) exceeds.exceeds
    go x (Halts refusal mark marks is passes first) =
        let few = subst (Under (suc behind)) is under in
        fine-not_exceeded exceeds.mark other (fine-found (mark ∷ marks) (marks_in spelling) passes at exceeds.mark (omega (arith, size, few, definitions-length 1 0 spelling)) exceeds.found) exceeds.exceeds

-- past the last token before the place, a completed program is not stopped before it
ends-past : (before : List Token) (t : Token) (rest fix : List Token) → functions (before ++ t ∷ rest) ≡ Refused Syntax (length rest) → (is_type (front_of fix) ≡ false) ⊎ EndsPlain (before ++ t ∷ [])
    → Under (suc (length fix)) (functions (before ++ t ∷ fix))
ends-past before t rest fix refused plain = go (functions (before ++ t ∷ rest)) (functions (before ++ t ∷ fix)) refused (programs-alike before t rest fix)
  where
    longer : (ahead : List Token) → length rest < length (ahead ++ t ∷ rest)
    longer [] = omega arith
    longer (more ∷ ahead) = omega (arith, longer ahead)

    hides : {A : Type 0} → (is_type (front_of fix) ≡ false) ⊎ EndsPlain (before ++ t ∷ []) → is_type (front_of fix) ≡ true → next_of t ≡ next.Sign sign.OpenParen → A
    hides (inl none) types opens = absurd (cc)
    hides (inr plain) types opens = absurd (plain.no_open (ap next_of (sym (last-same before plain.before t plain.token plain.is)) ∙ opens))

    go : (o o' : Outcome (List Function)) → o ≡ Refused Syntax (length rest) → Related (record { token = t; one = rest; other = fix }) o o' → Under (suc (length fix)) o'
    go o o' refused (Both value q q' is is' alike) = absurd (cc)
    go o o' refused (Neither other ahead is is') = let count : length (ahead ++ t ∷ rest) ≡ length rest = cc in absurd (omega (arith, count, longer ahead))
    go o o' refused (Apart here (Past under)) = under
    go o o' refused (Apart here (Counts opens types is)) = hides plain types opens

-- ---- the grammar refuses it

placed : (tokens : List Token) (token : ℕ) (refusal : Refusal) → (r : RefusesAt tokens refusal token) → token + r.left ≡ length tokens
placed tokens token refusal r =
    let under : r.left < suc (length tokens) = subst (Under (suc (length tokens))) r.refuses (functions-within tokens) in
    omega (arith, r.is_token, under)

syntax-fine : (tokens : List Token) (token : ℕ) (r : RefusesAt tokens Syntax token) (v : Viable Syntax r.left (start_of tokens)) → length v.front ≡ token → (other : Refusal) (at : ℕ) → at < token
    → ExceedsIn other at v.spelling → ⊥
syntax-fine tokens zero r v size other at before exceeds = absurd (omega arith)
syntax-fine tokens (suc k) r v size other at before exceeds =
    let place = placed tokens (suc k) Syntax r in
    let s = split tokens k (omega (arith, place)) in
    let one = drop (suc k) tokens in
    let count : length tokens ≡ k + suc (length one) = ap length s.whole ∙ length-append (take k tokens) (s.token ∷ one) ∙ ap (λ n. n + suc (length one)) s.size in
    let left : r.left ≡ length one = omega (arith, place, count) in
    let refused : functions (take k tokens ++ s.token ∷ one) ≡ Refused Syntax (length one) = ap functions (sym s.whole) ∙ r.refuses ∙ ap (λ n. Refused Syntax n) left in
    let front : v.front ≡ take k tokens ++ s.token ∷ [] = sym (front-taken tokens v.front v.rest (suc k) v.tokens size) ∙ s.front in
    let spelt : take k tokens ++ s.token ∷ v.fix ≡ tokens_in v.spelling = sym (ap (λ l. l ++ v.fix) front ∙ regrouped (take k tokens) s.token v.fix) ∙ v.spelt in
    let past = ends-past (take k tokens) s.token one v.fix refused (plainly front v.shape.1) in
    nothing-exceeded v.spelling v.lawful (suc k) (length v.fix) (ap length (sym v.spelt) ∙ length-append v.front v.fix ∙ ap (λ n. n + length v.fix) size)
    (subst (λ l. Under (suc (length v.fix)) (functions l)) spelt past) other at before exceeds
  where
    plainly : {front : List Token} → v.front ≡ front → (is_type (front_of v.fix) ≡ false) ⊎ EndsPlain v.front → (is_type (front_of v.fix) ≡ false) ⊎ EndsPlain front
    plainly is (inl none) = inl none
    plainly is (inr plain) = inr (subst EndsPlain is plain)

syntax-refusal : (tokens : List Token) (token : ℕ) → RefusesAt tokens Syntax token → IsRefusal tokens Syntax token
syntax-refusal tokens token r =
    let v = program-viable tokens Syntax r.left r.refuses in
    let place = placed tokens token Syntax r in
    let size : length v.front ≡ token = omega (arith, place, v.shape.0, ap length v.tokens, length-append v.front v.rest) in
    go v.spelling (completed tokens v.front v.fix v.rest token v.spelling v.lawful v.spelt v.tokens size) (omega (arith, place)) (syntax-fine tokens token r v size)
  where
    go : (spelling : Spelling) → Continues (take token tokens) spelling → token ≤ length tokens → ((other : Refusal) (at : ℕ) → at < token → ExceedsIn other at spelling → ⊥) → IsRefusal tokens Syntax token
    go spelling continues inside fine = record {
      wrong = NoSyntax token (record { inside = inside; begins = (spelling, continues); ends = λ before begins. none-begins tokens token r before begins })
          (elim (below-or token (length tokens)) [ inl less ↦ inl less | inr last ↦ inr (λ program reads. none-reads tokens Syntax token r refl program reads) ]);
      least = λ other at wrong. least other at wrong;
    }
      where
        least : (other : Refusal) (at : ℕ) → IsWrongAt tokens other at → (token < at) ⊎ ((token ≡ at) × (order_of Syntax ≤ order_of other))
        least _ at (NoSyntax _ reaches ends) = elim (below-or at token) [
          | inl less ↦ absurd (reaches.ends (omega arith) (spelling, continues-less tokens (suc at) token (omega arith) spelling continues))
          | inr above ↦ elim (below-or token at) [ inl less ↦ inl less | inr same ↦ inr (omega arith, omega arith) ]
        ]
        least other at (TooMuch _ _ most before inside' begins all) = elim (below-or at token) [
          | inl less ↦ elim (below-or token most) [
            | inl longer ↦ absurd (none-begins tokens token r (omega arith) (begins.0, continues-less tokens (suc token) most (omega arith) begins.0 begins.1))
            | inr shorter ↦ absurd (fine other at less (all spelling (continues-less tokens most token shorter spelling continues)))
          ]
          | inr above ↦ elim (below-or token at) [ inl less ↦ inl less | inr same ↦ inr (omega arith, omega arith) ]
        ]

-- ---- a limit is exceeded

first-within : (refusal : Refusal) (mark : Mark) → First refusal mark → (refusal ≡ Deep → ⊥) → mark.depth ≤ 64
first-within _ mark (TooDeep _ over) other = absurd (other refl)
first-within _ mark (OneTooMany _ what number within is over) other = within

order-fine : (refusal other : Refusal) (token : ℕ) (spelling : Spelling) → Halted refusal token spelling → ExceedsIn other token spelling → order_of refusal ≤ order_of other
order-fine Syntax other token spelling halted exceeds = omega arith
order-fine Deep Syntax token spelling halted exceeds = absurd exceeds.exceeds
order-fine Deep Deep token spelling halted exceeds = omega arith
order-fine Deep (Many what) token spelling halted exceeds = omega arith
order-fine (Many what) Syntax token spelling halted exceeds = absurd exceeds.exceeds
order-fine (Many what) Deep token spelling halted exceeds =
    let found = last-found halted.mark halted.behind (marks_in spelling) halted.passes token halted.place in
    let same : halted.mark ≡ exceeds.mark = (let here = exceeds.found in cc) in
    let within = first-within (Many what) halted.mark halted.first (λ e. cc) in
    absurd (omega (arith, within, ap (λ (k : Mark). k.depth) same, exceeds.exceeds))
order-fine (Many what) (Many other) token spelling halted exceeds = omega arith

limit-refusal : (tokens : List Token) (token : ℕ) (refusal : Refusal) (r : RefusesAt tokens refusal token) (most : ℕ) → token < most → Reached tokens most
    → (IsHidden tokens most token refusal → ⊥) → IsRefusal tokens refusal token
limit-refusal tokens token refusal r most before reach plain = record {
  wrong = TooMuch refusal token most before reach.inside (reach.spelling, reach.continues) (λ s c. halted-exceeds refusal token s (stops s c));
  least = λ other at wrong. least other at wrong;
}
  where
    stops : (s : Spelling) → Continues (take most tokens) s → Halted refusal token s
    stops s c = halts tokens most token refusal r before reach.inside plain s c

    compared : (other : Refusal) (at : ℕ) → at ≤ token → (s : Spelling) → Continues (take most tokens) s → ExceedsIn other at s → (token < at) ⊎ ((token ≡ at) × (order_of refusal ≤ order_of other))
    compared other at behind s c exceeds = elim (below-or at token) [
      | inl less ↦ absurd (halted-fine refusal token s (stops s c) other at less exceeds)
      | inr above ↦ (let same : at ≡ token = omega arith in inr (omega arith, order-fine refusal other token s (stops s c) (subst (λ k. ExceedsIn other k s) same exceeds)))
    ]

    least : (other : Refusal) (at : ℕ) → IsWrongAt tokens other at → (token < at) ⊎ ((token ≡ at) × (order_of refusal ≤ order_of other))
    least _ at (NoSyntax _ reaches ends) = elim (below-or token at) [
      | inl less ↦ inl less
      | inr behind ↦ absurd (reaches.ends (omega (arith, reach.inside)) (reach.spelling, continues-less tokens (suc at) most (omega arith) reach.spelling reach.continues))
    ]
    least other at (TooMuch _ _ most' before' inside' begins' all) = elim (below-or token at) [
      | inl less ↦ inl less
      | inr behind ↦ elim (below-or most most') [
        | inl longer ↦ compared other at behind begins'.0 (continues-less tokens most most' (omega arith) begins'.0 begins'.1) (all begins'.0 begins'.1)
        | inr shorter ↦ compared other at behind reach.spelling reach.continues (all reach.spelling (continues-less tokens most' most shorter reach.spelling reach.continues))
      ]
    ]

-- ---- all of them

pub is-refusal : (tokens : List Token) (refusal : Refusal) (token : ℕ) → RefusesAt tokens refusal token → IsRefusal tokens refusal token
is-refusal tokens Syntax token r = syntax-refusal tokens token r
is-refusal tokens Deep token r =
    let v = program-viable tokens Deep r.left r.refuses in
    let place = placed tokens token Deep r in
    let size : length v.front ≡ suc token = omega (arith, place, v.shape, ap length v.tokens, length-append v.front v.rest) in
    limit-refusal tokens token Deep r (suc token) (omega arith) (reached tokens Deep r.left (suc token) v size) (λ hidden. let counts : Deep ≡ Many Nodes = hidden.counts in absurd (cc))
is-refusal tokens (Many what) token r = go (program-viable tokens (Many what) r.left r.refuses)
  where
    by_shape : (v : Viable (Many what) r.left (start_of tokens)) → ((suc (length v.rest) ≡ r.left) × EndsPlain v.front) ⊎ (suc (suc (length v.rest)) ≡ r.left) → IsRefusal tokens (Many what) token
    by_shape v (inl (same, plain)) =
        let size : length v.front ≡ suc token = omega (arith, placed tokens token (Many what) r, same, ap length v.tokens, length-append v.front v.rest) in
        limit-refusal tokens token (Many what) r (suc token) (omega arith) (reached tokens (Many what) r.left (suc token) v size) (λ hidden.
        let joined = sym (front-taken tokens v.front v.rest (suc token) v.tokens size ∙ plain.is) ∙ hidden.front in
        plain.no_open (ap next_of (last-same plain.before hidden.before plain.token hidden.paren joined) ∙ hidden.opens))
    by_shape v (inr same) =
        let size : length v.front ≡ suc (suc token) = omega (arith, placed tokens token (Many what) r, same, ap length v.tokens, length-append v.front v.rest) in
        limit-refusal tokens token (Many what) r (suc (suc token)) (omega arith) (reached tokens (Many what) r.left (suc (suc token)) v size) (λ hidden. omega (arith, hidden.last))

    go : Viable (Many what) r.left (start_of tokens) → IsRefusal tokens (Many what) token
    go v = by_shape v v.shape
