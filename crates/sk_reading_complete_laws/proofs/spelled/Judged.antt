-- What reading a spelling comes to, by its marks: it goes on as far as no limit is exceeded, and is refused at the first
-- mark that exceeds one.
use Rattle.std.proofs.Common.{◌≡◌, ℕ, zero, suc, ◌+◌, ◌<◌, ◌≤◌, ◌⊎◌, inl, inr, true, false, nat_lt, List, [], ◌∷◌, length, Option, Some, None, refl, ap, sym, subst, ◌∙◌, arith, rules, add-one}
use Rattle.sk_refusals.specs.Marks.{Mark, Marks, Counted, mark, counting, node, marks, listed_marks, numbers_marks}
use Rattle.sk_refusals.specs.Refusals.{most_of}
use Rattle.sk_refusals.specs.declared.refusal.Limited.{Limited}
use Rattle.sk_refusals.specs.declared.refusal.Limited.TheVariants.{Nodes, Instances}
use Rattle.sk_refusals.specs.declared.refusal.Refusal.{Refusal}
use Rattle.sk_refusals.specs.declared.refusal.Refusal.TheVariants.{Deep, Many}
use Rattle.sk_grammar.specs.ExpressionSpelling.{sign_at}
use Rattle.sk_grammar.specs.StatementSpelling.{Numbers}
use Rattle.sk_tokens.specs.declared.token.Sign.{Sign}
use Rattle.sk_tokens.specs.declared.token.Token.{Token}
use Rattle.sk_reading.specs.Reading.{Place, Outcome, Read, Refused, Parser, and_then, same_sign, sees, front, advance, count_node, count_instance, opened, opened_by}
use Rattle.sk_reading_complete_laws.proofs.Steps.{at}

-- ---- marks within the limits

abbrev pub CountFits : Option Counted → Type 0
CountFits None = Unit {0}
CountFits (Some counted) = counted.number ≤ most_of counted.what

pub record Fine (mark : Mark) : Type 0 where
  pub depth : mark.depth ≤ 64
  pub count : CountFits mark.counted

pub plain : (depth : ℕ) → depth ≤ 64 → Fine (mark depth)
plain depth within = record { depth = within; count = tt }

-- from the one list to the other, all marks are within the limits
pub data Passes (rest : Marks) : Marks → Type 0 where
  Here : Passes rest rest
  Next : (mark : Mark) (more : Marks) → Fine mark → Passes rest more → Passes rest (mark ∷ more)

pub passes-trans : (three two one : Marks) → Passes two one → Passes three two → Passes three one
passes-trans three two one Here more = more
passes-trans three two _ (Next here behind fine first) more = Next here behind fine (passes-trans three two behind first more)

-- ---- the first limit that is exceeded

pub data First : Refusal → Mark → Type 0 where
  TooDeep : (mark : Mark) → 64 < mark.depth → First Deep mark
  OneTooMany : (mark : Mark) (what : Limited) (number : ℕ) → mark.depth ≤ 64 → mark.counted ≡ Some (record { what = what; number = number }) → most_of what < number
      → First (Many what) mark

-- the one comes to the other, which has these marks left; or is refused before
pub data Judged {A : Type 0} (o o' : Outcome A) (rest from : Marks) : Type 0 where
  Goes : o ≡ o' → Passes rest from → Judged o o' rest from
  Halts : (refusal : Refusal) (mark : Mark) (behind : Marks) → o ≡ Refused refusal (length (mark ∷ behind)) → Passes (mark ∷ behind) from → First refusal mark
      → Judged o o' rest from

pub next : {A : Type 0} {o o' : Outcome A} {rest from : Marks} {mark : Mark} → Fine mark → Judged o o' rest from → Judged o o' rest (mark ∷ from)
next {from = from} {mark = mark} fine (Goes is passes) = Goes is (Next mark from fine passes)
next {from = from} {mark = mark} fine (Halts refusal last behind is passes first) = Halts refusal last behind is (Next mark from fine passes) first

pub judged-then : {A B : Type 0} {o : Outcome A} {x : A × Place} (g : A → Parser B) {o' : Outcome B} {rest between from : Marks}
    → Judged o (Read x) between from → Judged (g x.0 x.1) o' rest between → Judged (and_then o g) o' rest from
judged-then g {rest = rest} {between = between} {from = from} (Goes is passes) (Goes is' passes') = Goes (ap (λ k. and_then k g) is ∙ is') (passes-trans rest between from passes passes')
judged-then g {between = between} {from = from} (Goes is passes) (Halts refusal last behind is' passes' first) =
    Halts refusal last behind (ap (λ k. and_then k g) is ∙ is') (passes-trans (last ∷ behind) between from passes passes') first
judged-then g (Halts refusal last behind is passes first) later = Halts refusal last behind (ap (λ k. and_then k g) is) passes first

pub judged-trans : {A : Type 0} {o one other : Outcome A} {rest between from : Marks} → Judged o one between from → Judged one other rest between → Judged o other rest from
judged-trans {rest = rest} {between = between} {from = from} (Goes is passes) (Goes is' passes') = Goes (is ∙ is') (passes-trans rest between from passes passes')
judged-trans {between = between} {from = from} (Goes is passes) (Halts refusal last behind is' passes' first) =
    Halts refusal last behind (is ∙ is') (passes-trans (last ∷ behind) between from passes passes') first
judged-trans (Halts refusal last behind is passes first) later = Halts refusal last behind is passes first

-- an outcome by another name
pub renamed : {A : Type 0} {o one other : Outcome A} {rest from : Marks} → o ≡ one → Judged one other rest from → Judged o other rest from
renamed {other = other} {rest = rest} {from = from} is judged = subst (λ k. Judged k other rest from) (sym is) judged

-- marks by another name
pub remarked : {A : Type 0} {o o' : Outcome A} {rest from one : Marks} → from ≡ one → Judged o o' rest one → Judged o o' rest from
remarked {o = o} {o' = o'} {rest = rest} is judged = subst (λ marked. Judged o o' rest marked) (sym is) judged

-- ---- what is opened, and what is counted

-- one too many is open
pub deep : {A : Type 0} {o' : Outcome A} {rest : Marks} (mark : Mark) (behind : Marks) (tokens : List Token) → 64 < mark.depth → length tokens ≡ length (mark ∷ behind)
    → Judged (Refused Deep (length tokens)) o' rest (mark ∷ behind)
deep mark behind tokens over same = Halts Deep mark behind (ap (λ n. Refused Deep n) same) Here (TooDeep mark over)

pub below-or : (a b : ℕ) → (a < b) ⊎ (b ≤ a)
below-or a b = grind arith

-- a node counts at a token
pub counted : {A : Type 0} {o' : Outcome A} {rest : Marks} (g : Unit {0} → Parser A) (depth n i : ℕ) (tokens : List Token) (behind : Marks) → depth ≤ 64
    → length tokens ≡ length (node depth (suc n) ∷ behind)
    → (Fine (node depth (suc n)) → Judged (g tt (at tokens (suc n) i)) o' rest (node depth (suc n) ∷ behind))
    → Judged (and_then (count_node (at tokens n i)) g) o' rest (node depth (suc n) ∷ behind)
unfolding count_node
counted {A} {o'} {rest} g depth n i tokens behind within same go = elim (below-or n 1024) [
  | inl less ↦ (let yes : nat_lt n 1024 ≡ true = search rules in
      rw yes (rw add-one (go (record { depth = within; count = omega arith }))))
  | inr more ↦ (let no : nat_lt n 1024 ≡ false = search rules in
      rw no (Halts (Many Nodes) (node depth (suc n)) behind (ap (λ k. Refused (Many Nodes) k) same) Here (OneTooMany (node depth (suc n)) Nodes (suc n) within refl (omega arith))))
]

-- an instance counts at a token
pub counted_instance : {A : Type 0} {o' : Outcome A} {rest : Marks} (g : Unit {0} → Parser A) (depth n i : ℕ) (tokens : List Token) (behind : Marks) → depth ≤ 64
    → length tokens ≡ length (counting depth Instances (suc i) ∷ behind)
    → (Fine (counting depth Instances (suc i)) → Judged (g tt (at tokens n (suc i))) o' rest (counting depth Instances (suc i) ∷ behind))
    → Judged (and_then (count_instance (at tokens n i)) g) o' rest (counting depth Instances (suc i) ∷ behind)
unfolding count_instance
counted_instance {A} {o'} {rest} g depth n i tokens behind within same go = elim (below-or i 1024) [
  | inl less ↦ (let yes : nat_lt i 1024 ≡ true = search rules in
      rw yes (rw add-one (go (record { depth = within; count = omega arith }))))
  | inr more ↦ (let no : nat_lt i 1024 ≡ false = search rules in
      rw no (Halts (Many Instances) (counting depth Instances (suc i)) behind (ap (λ k. Refused (Many Instances) k) same) Here
      (OneTooMany (counting depth Instances (suc i)) Instances (suc i) within refl (omega arith))))
]

-- so many tokens at which nothing counts
pub next_marks : {A : Type 0} {o o' : Outcome A} {rest from : Marks} (count depth : ℕ) → depth ≤ 64 → Judged o o' rest from → Judged o o' rest (marks count depth from)
next_marks zero depth within judged = judged
next_marks (suc count) depth within judged = next (plain depth within) (next_marks count depth within judged)

-- one more is opened at a token
pub opening : {A : Type 0} {o' : Outcome A} {rest : Marks} (g : Unit {0} → Parser A) (left depth : ℕ) (here : Mark) (behind : Marks) (tokens : List Token) (n i : ℕ) → depth + left ≡ 64
    → suc depth ≤ here.depth → length tokens ≡ length (here ∷ behind)
    → ((inside : ℕ) → left ≡ suc inside → suc depth ≤ 64 → Judged (g tt (at tokens n i)) o' rest (here ∷ behind))
    → Judged (and_then (opened left (at tokens n i)) g) o' rest (here ∷ behind)
unfolding opened
opening g zero depth here behind tokens n i within above same go = deep here behind tokens (omega arith) same
opening g (suc left) depth here behind tokens n i within above same go = go left refl (omega arith)

-- so does a sign that has to come next
pub opening_by : {A : Type 0} {o' : Outcome A} {rest : Marks} (s : Sign) (g : Unit {0} → Parser A) (left depth : ℕ) (here : Mark) (behind : Marks) (line : ℕ) (tokens : List Token) (n i : ℕ)
    → same_sign s s ≡ true → depth + left ≡ 64 → suc depth ≤ here.depth → length (sign_at s line ∷ tokens) ≡ length (here ∷ behind)
    → ((inside : ℕ) → left ≡ suc inside → suc depth ≤ 64 → Judged (g tt (at tokens n i)) o' rest (here ∷ behind))
    → Judged (and_then (opened_by s left (at (sign_at s line ∷ tokens) n i)) g) o' rest (here ∷ behind)
unfolding opened opened_by sees front advance
opening_by s g zero depth here behind line tokens n i is within above same go = rw is (deep here behind (sign_at s line ∷ tokens) (omega arith) same)
opening_by s g (suc left) depth here behind line tokens n i is within above same go = rw is (go left refl (omega arith))

-- single tokens with commas between
pub next_listed : {X A : Type 0} {o o' : Outcome A} {rest from : Marks} (l : List X) (depth : ℕ) → depth ≤ 64 → Judged o o' rest from → Judged o o' rest (listed_marks l depth from)
next_listed [] depth within judged = judged
next_listed (x ∷ []) depth within judged = next (plain depth within) judged
next_listed (x ∷ y ∷ l) depth within judged = next (plain depth within) (next (plain depth within) (next_listed (y ∷ l) depth within judged))

pub next_numbers : {A : Type 0} {o o' : Outcome A} {rest from : Marks} (ns : Numbers) (depth : ℕ) → depth ≤ 64 → Judged o o' rest from → Judged o o' rest (numbers_marks ns depth from)
next_numbers Numbers.NoNumbers depth within judged = judged
next_numbers (Numbers.Between at numbers) depth within judged = next (plain depth within) (next_listed numbers depth within (next (plain depth within) judged))
