-- A list of tokens has no two faults, and a program within the limits has none.
use Rattle.std.proofs.Common.{◌≡◌, ◌⊎◌, inl, inr, ℕ, suc, ◌<◌, ◌≤◌, List, [], length, take, drop, Some, refl, ap, sym, subst, ◌∙◌, arith}
use Rattle.std.proofs.lemmas.List.{take-append-drop}
use Rattle.sk_grammar.specs.Grammar.{Spelling}
use Rattle.sk_grammar.specs.Limits.{ReadsWithin}
use Rattle.sk_refusals.specs.Marks.{Mark, Counted, marks_in}
use Rattle.sk_refusals.specs.Refusals.{Continues, ExceedsIn, IsWrongAt, NoSyntax, TooMuch, IsRefusal, order_of}
use Rattle.sk_refusals.specs.declared.refusal.Limited.{Limited}
use Rattle.sk_refusals.specs.declared.refusal.Refusal.{Refusal}
use Rattle.sk_refusals.specs.declared.refusal.Refusal.TheVariants.{Syntax, Deep, Many}
use Rattle.sk_tokens.specs.declared.token.Token.{Token}
use Rattle.sk_tree.specs.declared.tree.Program.{Program}
use Rattle.sk_reading_complete_laws.proofs.Within.{program-fine}
use Rattle.sk_reading_sound_laws.proofs.Steps.{some-is}
use Rattle.sk_refusal_laws.proofs.Fault.{continues-less}
use Rattle.sk_refusal_laws.proofs.Refused.{fine-found, fine-not_exceeded}
use Rattle.sk_reading_complete_laws.proofs.spelled.Judged.{below-or}
use Rattle.sk_reading_complete_laws.proofs.spelled.Lengths.{definitions-length}

abbrev counting : Limited → ℕ → Counted
counting what number = record { what = what; number = number }

same-count : (one other : Limited) (token : ℕ) (spelling : Spelling) → ExceedsIn (Many one) token spelling → ExceedsIn (Many other) token spelling → one ≡ other
same-count one other token spelling first second =
    let (number, counted, over) = first.exceeds in
    let (number', counted', over') = second.exceeds in
    let same : first.mark ≡ second.mark = (let here = first.found in let there = second.found in cc) in
    let marks = ap (λ (m : Mark). m.counted) same in
    let counts : Some (counting one number) ≡ Some (counting other number') = sym counted ∙ marks ∙ counted' in
    ap (λ (c : Counted). c.what) (some-is counts)

same-limit : (tokens : List Token) (one other : Limited) (token : ℕ) → IsWrongAt tokens (Many one) token → IsWrongAt tokens (Many other) token → one ≡ other
same-limit tokens one other token (TooMuch _ _ most before inside begins all) (TooMuch _ _ most' before' inside' begins' all') = elim (below-or most most') [
  | inl longer ↦ same-count one other token begins'.0 (all begins'.0 (continues-less tokens most most' (omega arith) begins'.0 begins'.1)) (all' begins'.0 begins'.1)
  | inr shorter ↦ same-count one other token begins.0 (all begins.0 begins.1) (all' begins.0 (continues-less tokens most' most shorter begins.0 begins.1))
]

same-refusal : (tokens : List Token) (one other : Refusal) (token : ℕ) → IsWrongAt tokens one token → IsWrongAt tokens other token → order_of one ≤ order_of other → order_of other ≤ order_of one → one ≡ other
same-refusal tokens Syntax Syntax token first second less more = refl
same-refusal tokens Deep Deep token first second less more = refl
same-refusal tokens (Many one) (Many other) token first second less more = ap Many (same-limit tokens one other token first second)
same-refusal tokens one other token first second less more = absurd (omega arith)

pub one-fault : (tokens : List Token) (one other : Refusal) (token at : ℕ) → IsRefusal tokens one token → IsRefusal tokens other at → (token ≡ at) × (one ≡ other)
one-fault tokens one other token at first second = go (first.least other at second.wrong) (second.least one token first.wrong)
  where
    go : (token < at) ⊎ ((token ≡ at) × (order_of one ≤ order_of other)) → (at < token) ⊎ ((at ≡ token) × (order_of other ≤ order_of one)) → (token ≡ at) × (one ≡ other)
    go (inl less) (inl more) = absurd (omega arith)
    go (inl less) (inr same) = absurd (omega (arith, same.0))
    go (inr same) (inl more) = absurd (omega (arith, same.0))
    go (inr same) (inr back) = (same.0, same-refusal tokens one other at (subst (IsWrongAt tokens one) same.0 first.wrong) second.wrong same.1 back.1)

-- ---- and a program within the limits has none

pub no-fault : (tokens : List Token) (program : Program) → ReadsWithin tokens program → (refusal : Refusal) (token : ℕ) → IsRefusal tokens refusal token → ⊥
no-fault tokens program within refusal token is = none refusal token is.wrong
  where
    goes-on : (n : ℕ) → Continues (take n tokens) within.spelling
    goes-on n = record { lawful = within.lawful; behind = drop n tokens; tokens_are = within.tokens_are ∙ sym (take-append-drop n tokens) }

    fine : (other : Refusal) (at : ℕ) → at < length tokens → ExceedsIn other at within.spelling → ⊥
    fine other at inside exceeds =
        fine-not_exceeded exceeds.mark other
        (fine-found [] (marks_in within.spelling) (program-fine within.spelling within.keeps) at exceeds.mark (omega (arith, definitions-length 1 0 within.spelling, ap length within.tokens_are)) exceeds.found) exceeds.exceeds

    none : (other : Refusal) (token : ℕ) → IsWrongAt tokens other token → ⊥
    none _ token (NoSyntax _ reaches (inl before)) = reaches.ends before (within.spelling, goes-on (suc token))
    none _ token (NoSyntax _ reaches (inr reads)) = reads program (record { spelling = within.spelling; lawful = within.lawful; tokens_are = within.tokens_are; program_is = within.program_is })
    none other token (TooMuch _ _ most before inside begins all) = fine other token (omega arith) (all within.spelling (goes-on most))
