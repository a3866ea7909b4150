-- What is refused of a list of tokens is refused of each program that goes on so.
use Rattle.std.proofs.Common.{◌≡◌, ℕ, zero, suc, ◌+◌, ◌<◌, ◌≤◌, true, List, [], ◌∷◌, ◌++◌, length, take, drop, Some, slice_get, refl, ap, sym, subst, ◌∙◌, arith, append_assoc, length-append}
use Rattle.sk_grammar.specs.Grammar.{Spelling, tokens_in, IsLawfulSpelling, Reads}
use Rattle.sk_refusals.specs.Marks.{Mark, Marks, marks_in}
use Rattle.sk_refusals.specs.Refusals.{Continues, Begins, Exceeds, ExceedsIn}
use Rattle.sk_refusals.specs.declared.refusal.Limited.TheVariants.{Nodes}
use Rattle.sk_refusals.specs.declared.refusal.Refusal.{Refusal}
use Rattle.sk_refusals.specs.declared.refusal.Refusal.TheVariants.{Syntax, Deep, Many}
use Rattle.sk_tokens.specs.declared.token.Sign.TheVariants as sign
use Rattle.sk_tokens.specs.declared.token.Token.{Token}
use Rattle.sk_reading.specs.declared.next.Next.TheVariants as next
use Rattle.sk_tree.specs.declared.tree.Function.{Function}
use Rattle.sk_tree.specs.declared.tree.Program.{Program}
use Rattle.sk_reading.specs.Reading.{Place, Outcome, Read, Refused, front_of, next_of}
use Rattle.sk_reading_complete_laws.proofs.Steps.{at as place_at}
use Rattle.sk_reading.specs.ReadingExpressions.{is_type}
use Rattle.sk_reading.specs.ReadingPrograms.{functions, RefusesAt}
use Rattle.sk_refusal_laws.proofs.Local.{Under, Related, Both, Neither, Apart, Past, Counts}
use Rattle.sk_refusal_laws.proofs.Programs.{programs-alike, functions-within}
use Rattle.sk_reading_complete_laws.proofs.spelled.Judged.{Judged, Goes, Halts, Passes, Here, Next, Fine, CountFits, First, TooDeep, OneTooMany}
use Rattle.sk_reading_complete_laws.proofs.spelled.Lengths.{definitions-length}
use Rattle.sk_reading_complete_laws.proofs.spelled.Programs.{program-judged}

-- ---- a token of a list

pub record Split (tokens : List Token) (k : ℕ) : Type 0 where
  pub token : Token
  pub whole : tokens ≡ take k tokens ++ token ∷ drop (suc k) tokens
  pub front : take (suc k) tokens ≡ take k tokens ++ token ∷ []
  pub size : length (take k tokens) ≡ k

pub split : (tokens : List Token) (k : ℕ) → k < length tokens → Split tokens k
split [] k inside = absurd (omega arith)
split (t ∷ tokens) zero inside = record { token = t; whole = refl; front = refl; size = refl }
split (t ∷ tokens) (suc k) inside =
    let later = split tokens k (omega arith) in
    record { token = later.token; whole = ap (λ l. t ∷ l) later.whole; front = ap (λ l. t ∷ l) later.front; size = ap suc later.size }

-- ---- marks

passes-length : (rest from : Marks) → Passes rest from → length rest ≤ length from
passes-length rest _ Here = omega arith
passes-length rest _ (Next here more fine passes) = omega (arith, passes-length rest more passes)

-- the first one of what is left
pub last-found : (mark : Mark) (behind from : Marks) → Passes (mark ∷ behind) from → (index : ℕ) → index + suc (length behind) ≡ length from → slice_get from index ≡ Some mark
last-found mark behind _ Here zero is = refl
last-found mark behind _ Here (suc index) is = absurd (omega arith)
last-found mark behind _ (Next here more fine passes) zero is = absurd (omega (arith, passes-length (mark ∷ behind) more passes))
last-found mark behind _ (Next here more fine passes) (suc index) is = last-found mark behind more passes index (omega arith)

pub fine-found : (rest from : Marks) → Passes rest from → (index : ℕ) (mark : Mark) → index + length rest < length from → slice_get from index ≡ Some mark → Fine mark
fine-found rest _ Here index mark less is = absurd (omega arith)
fine-found rest _ (Next here more fine passes) zero mark less is = let same : here ≡ mark = cc in subst Fine same fine
fine-found rest _ (Next here more fine passes) (suc index) mark less is = fine-found rest more passes index mark (omega arith) is

pub fine-not_exceeded : (mark : Mark) (other : Refusal) → Fine mark → Exceeds other mark → ⊥
fine-not_exceeded mark Syntax fine exceeds = exceeds
fine-not_exceeded mark Deep fine exceeds = omega (arith, fine.depth)
fine-not_exceeded mark (Many what) fine exceeds =
    let (number, is, over) = exceeds in
    let within = subst CountFits is fine.count in
    omega (arith, within, over)

first-exceeds : (mark : Mark) (refusal : Refusal) → First refusal mark → Exceeds refusal mark
first-exceeds mark _ (TooDeep _ over) = over
first-exceeds mark _ (OneTooMany _ what number within is over) = (number, is, over)

-- ---- what is read of a program that goes on so

-- the reading of a program stops there, at the first mark that exceeds a limit
pub record Halted (refusal : Refusal) (token : ℕ) (spelling : Spelling) : Type 0 where
  pub mark : Mark
  pub behind : Marks
  pub passes : Passes (mark ∷ behind) (marks_in spelling)
  pub first : First refusal mark
  pub place : token + suc (length behind) ≡ length (marks_in spelling)

halts-spelled : (spelling : Spelling) → IsLawfulSpelling spelling → (refusal : Refusal) (token left : ℕ) → functions (tokens_in spelling) ≡ Refused refusal left → token + left ≡ length (tokens_in spelling)
    → Halted refusal token spelling
halts-spelled spelling lawful refusal token left refused place =
    let (m, j, judged) = program-judged spelling lawful in go (_, place_at [] m j) judged
  where
    go : (x : List Function × Place) → Judged (functions (tokens_in spelling)) (Read x) [] (marks_in spelling) → Halted refusal token spelling
    go x (Goes is passes) = absurd (cc)
    go x (Halts other mark behind is passes first) =
        let same : other ≡ refusal = cc in
        let count : suc (length behind) ≡ left = cc in
        record {
          mark = mark;
          behind = behind;
          passes = passes;
          first = subst (λ r. First r mark) same first;
          place = omega (arith, place, count, definitions-length 1 0 spelling);
        }

pub regrouped : (before : List Token) (t : Token) (behind : List Token) → (before ++ t ∷ []) ++ behind ≡ before ++ t ∷ behind
regrouped before t behind = append_assoc before (t ∷ []) behind

-- No more than the last shared token can hide what is wrong: one node too many at a parenthesis, where a type follows.
pub record IsHidden (tokens : List Token) (most token : ℕ) (refusal : Refusal) : Type 0 where
  pub counts : refusal ≡ Many Nodes
  pub last : suc token ≡ most
  pub types : is_type (front_of (drop most tokens)) ≡ true
  pub before : List Token
  pub paren : Token
  pub front : take most tokens ≡ before ++ paren ∷ []
  pub opens : next_of paren ≡ next.Sign sign.OpenParen

alike-refused : (before : List Token) (t : Token) (one other : List Token) (refusal : Refusal) (left : ℕ) → functions (before ++ t ∷ one) ≡ Refused refusal left → suc (length one) ≤ left
    → ((refusal ≡ Many Nodes) × (left ≡ suc (length one)) × (is_type (front_of one) ≡ true) × (next_of t ≡ next.Sign sign.OpenParen) → ⊥)
    → (left' : ℕ) × (functions (before ++ t ∷ other) ≡ Refused refusal left') × (left' + length one ≡ left + length other)
alike-refused before t one other refusal left refused inside plain = go (functions (before ++ t ∷ one)) (functions (before ++ t ∷ other)) refused (programs-alike before t one other)
  where
    go : (o o' : Outcome (List Function)) → o ≡ Refused refusal left → Related (record { token = t; one = one; other = other }) o o'
        → (left' : ℕ) × (o' ≡ Refused refusal left') × (left' + length one ≡ left + length other)
    go o o' refused (Both value q q' is is' alike) = absurd (cc)
    go o o' refused (Neither other_refusal ahead is is') =
        let same : other_refusal ≡ refusal = cc in
        let count : length (ahead ++ t ∷ one) ≡ left = cc in (
          length (ahead ++ t ∷ other),
          subst (λ r. o' ≡ Refused r (length (ahead ++ t ∷ other))) same is',
          omega (arith, count, length-append ahead (t ∷ one), length-append ahead (t ∷ other)),
        )
    go o o' refused (Apart (Past under) there) = let less = subst (Under (suc (length one))) refused under in absurd (omega (arith, less))
    go o o' refused (Apart (Counts opens types is) there) =
        let same : refusal ≡ Many Nodes = cc in
        let count : left ≡ suc (length one) = cc in
        absurd (plain (same, count, types, opens))

-- the reading of each program that goes on so stops there
pub halts : (tokens : List Token) (most token : ℕ) (refusal : Refusal) → RefusesAt tokens refusal token → token < most → most ≤ length tokens → (IsHidden tokens most token refusal → ⊥)
    → (spelling : Spelling) → Continues (take most tokens) spelling → Halted refusal token spelling
halts tokens zero token refusal refuses before within plain spelling continues = absurd (omega arith)
halts tokens (suc k) token refusal refuses before within plain spelling continues =
    let s = split tokens k (omega arith) in
    let one = drop (suc k) tokens in
    let under : refuses.left < suc (length tokens) = subst (Under (suc (length tokens))) refuses.refuses (functions-within tokens) in
    let count : length tokens ≡ k + suc (length one) = ap length s.whole ∙ length-append (take k tokens) (s.token ∷ one) ∙ ap (λ n. n + suc (length one)) s.size in
    let place : token + refuses.left ≡ length tokens = omega (arith, refuses.is_token, under) in
    let refused : functions (take k tokens ++ s.token ∷ one) ≡ Refused refusal refuses.left = ap functions (sym s.whole) ∙ refuses.refuses in
    let (left', there, sizes) = alike-refused (take k tokens) s.token one continues.behind refusal refuses.left refused (omega (arith, count, place))
    (λ hidden. plain (record { counts = hidden.0; last = omega (arith, count, place, hidden.1); types = hidden.2; before = take k tokens; paren = s.token; front = s.front; opens = hidden.3 })) in
    let same : tokens_in spelling ≡ take k tokens ++ s.token ∷ continues.behind =
    continues.tokens_are ∙ ap (λ l. l ++ continues.behind) s.front ∙ regrouped (take k tokens) s.token continues.behind in
    let size : length (tokens_in spelling) ≡ k + suc (length continues.behind) =
    ap length same ∙ length-append (take k tokens) (s.token ∷ continues.behind) ∙ ap (λ n. n + suc (length continues.behind)) s.size in
    halts-spelled spelling continues.lawful refusal token left' (ap functions same ∙ there) (omega (arith, sizes, size, count, place))

-- ---- what that means

pub halted-exceeds : (refusal : Refusal) (token : ℕ) (spelling : Spelling) → Halted refusal token spelling → ExceedsIn refusal token spelling
halted-exceeds refusal token spelling halted = record {
  mark = halted.mark;
  found = last-found halted.mark halted.behind (marks_in spelling) halted.passes token halted.place;
  exceeds = first-exceeds halted.mark refusal halted.first;
}

pub halted-fine : (refusal : Refusal) (token : ℕ) (spelling : Spelling) → Halted refusal token spelling → (other : Refusal) (at : ℕ) → at < token → ExceedsIn other at spelling → ⊥
halted-fine refusal token spelling halted other at before exceeds =
    fine-not_exceeded exceeds.mark other (fine-found (halted.mark ∷ halted.behind) (marks_in spelling) halted.passes at exceeds.mark (omega (arith, halted.place)) exceeds.found) exceeds.exceeds

pub not-syntax : (token : ℕ) (spelling : Spelling) → Halted Syntax token spelling → ⊥
not-syntax token spelling halted = (halted-exceeds Syntax token spelling halted).exceeds

pub none-begins : (tokens : List Token) (token : ℕ) → RefusesAt tokens Syntax token → token < length tokens → Begins (take (suc token) tokens) → ⊥
none-begins tokens token refuses before begins =
    not-syntax token begins.0 (halts tokens (suc token) token Syntax refuses (omega arith) (omega arith) (λ hidden. let other : Syntax ≡ Many Nodes = hidden.counts in absurd (cc)) begins.0 begins.1)

pub none-reads : (tokens : List Token) (refusal : Refusal) (token : ℕ) → RefusesAt tokens refusal token → refusal ≡ Syntax → (program : Program) → Reads tokens program → ⊥
none-reads tokens refusal token refuses is program reads =
    let under : refuses.left < suc (length tokens) = subst (Under (suc (length tokens))) refuses.refuses (functions-within tokens) in
    let size : length (tokens_in reads.spelling) ≡ length tokens = ap length reads.tokens_are in
    let halted = halts-spelled reads.spelling reads.lawful refusal token refuses.left (ap functions reads.tokens_are ∙ refuses.refuses) (omega (arith, refuses.is_token, under, size)) in
    not-syntax token reads.spelling (subst (λ r. Halted r token reads.spelling) is halted)
