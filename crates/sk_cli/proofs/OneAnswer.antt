-- A source is one thing, and so words have one answer.
use Rattle.std.proofs.Common.{◌≡◌, ◌⊎◌, ◌∙◌, ◌<◌, ◌≤◌, ◌-◌, inl, inr, ℕ, Bool, true, false, List, [], length, Option, Some, None, Result, Ok, Err, refl, sym, ap, cond, subst, arith}
use Rattle.std.specs.Prelude.{unwrap_or}
use Rattle.sk_cli.specs.Answer.{Answer, Answers, Chain, Command, IsAnswerBy, Parses, Reads, Run, RunCommand, Usage, after_reading, after_source, asked_of, chain_of}
use Rattle.sk_cli.specs.OneAnswer.{AnswersAreOne}
use Rattle.sk_cli.specs.Sources.{Cause, IsCause, IsReading, IsRefused, Later, NoProgram, NoTokens, Read, Reading, Refused, Spells, SpellsTyped, TooLong, Untyped, source_limit}
use Rattle.sk_grammar.specs.Limits.{ReadsWithin}
use Rattle.sk_outside.specs.Holding.{Contents}
use Rattle.sk_reading_complete_laws.proofs.Programs.{one-program}
use Rattle.sk_refusal_laws.proofs.OneFault.{no-fault, one-fault as list-fault}
use Rattle.sk_refusals.specs.Refusals.{IsRefusal}
use Rattle.sk_refusals.specs.declared.refusal.Refusal.{Refusal}
use Rattle.sk_tokens.specs.Tokens.{TokenFault, tokens_of}
use Rattle.sk_tokens.specs.declared.token.Token.{Token}
use Rattle.sk_tree.specs.declared.tree.Program.{Program}
use Rattle.sk_typing.specs.Typing.{IsTyped, least_fault}
use Rattle.sk_typing.specs.TypingFaults.{least_of}
use Rattle.sk_typing.specs.declared.names.Fault.{Fault}
use Rattle.sk_vector_form.specs.VectorForm.{has_vector_form}

-- what a text is refused with, if it is refused
abbrev fault_of : Result (List Token) TokenFault → Option TokenFault
fault_of (Ok tokens) = None
fault_of (Err fault) = Some fault

abbrev kept_of : Result (List Token) TokenFault → List Token
kept_of (Ok tokens) = tokens
kept_of (Err fault) = []

some-one : {A : Type 0} (a b : A) → Some a ≡ Some b → a ≡ b
some-one a b same = ap (λ (o : Option _). unwrap_or o a) same

none-some : {A : Type 0} (a : A) → None ≡ Some a → ⊥
none-some a same = cc same

true-false : true ≡ false → ⊥
true-false same = subst (λ (b : Bool). cond b (Unit {0}) ⊥) same tt

module _ (source : List ℕ) where
  one-fault : (one other : TokenFault) → tokens_of source ≡ Err one → tokens_of source ≡ Err other → one ≡ other
  one-fault one other is same = some-one one other (ap fault_of (sym is ∙ same))

  no-tokens : (fault : TokenFault) (tokens : List Token) → tokens_of source ≡ Err fault → tokens_of source ≡ Ok tokens → ⊥
  no-tokens fault tokens is same = none-some fault (ap fault_of (sym same ∙ is))

  one-list : (one other : List Token) → tokens_of source ≡ Ok one → tokens_of source ≡ Ok other → one ≡ other
  one-list one other is same = ap kept_of (sym is ∙ same)

  one-spelled : (one other : Program) → Spells source one → Spells source other → one ≡ other
  one-spelled one other (tokens, lexed, reads) (tokens', lexed', reads') =
      one-program tokens one other reads (subst (λ (l : List Token). ReadsWithin l other) (one-list tokens' tokens lexed' lexed) reads')

  -- a refused list of tokens spells no program
  not-spelled : (refusal : Refusal) (token : ℕ) → IsCause source (NoProgram refusal token) → (program : Program) → Spells source program → ⊥
  not-spelled refusal token (tokens, lexed, refused) program (tokens', lexed', reads) =
      no-fault tokens program (subst (λ (l : List Token). ReadsWithin l program) (one-list tokens' tokens lexed' lexed) reads) refusal token refused

  one-refusal : (refusal other : Refusal) (token at : ℕ) → IsCause source (NoProgram refusal token) → IsCause source (NoProgram other at)
      → NoProgram refusal token ≡ NoProgram other at
  one-refusal refusal other token at (tokens, lexed, refused) (tokens', lexed', refused') =
      let same : (token ≡ at) × (refusal ≡ other) =
      list-fault tokens refusal other token at refused (subst (λ (l : List Token). IsRefusal l other at) (one-list tokens' tokens lexed' lexed) refused') in
      ap (λ (r : Refusal). NoProgram r token) same.1 ∙ ap (λ (place : ℕ). NoProgram other place) same.0

  -- a program with a fault is not typed
  faulty : (program : Program) (fault : Fault) → least_fault program ≡ Some fault → IsTyped program → ⊥
  faulty program fault is typed = none-some fault (sym (ap least_of typed) ∙ is)

  one-untyped : (one other : Fault) → IsCause source (Untyped one) → IsCause source (Untyped other) → one ≡ other
  one-untyped one other (program, spelled, is) (program', spelled', is') =
      some-one one other (sym is ∙ ap least_fault (one-spelled program program' spelled spelled') ∙ is')

  -- what has a fault can neither be run nor be refused for later
  untyped-typed : (fault : Fault) (program : Program) (can_run : Bool) → IsCause source (Untyped fault)
      → Spells source program × IsTyped program × (has_vector_form program ≡ can_run) → ⊥
  untyped-typed fault program can_run (faulted, spelled', is) (spelled, typed, form) =
      faulty program fault (ap least_fault (one-spelled program faulted spelled spelled') ∙ is) typed

  later-run : (program other : Program) → Spells source program × IsTyped program × (has_vector_form program ≡ false)
      → Spells source other × IsTyped other × (has_vector_form other ≡ true) → ⊥
  later-run program other (spelled, typed, form) (spelled', typed', form') =
      true-false (sym form' ∙ ap has_vector_form (one-spelled other program spelled' spelled) ∙ form)

  -- ---- a source is read as one thing

  one-cause : (one other : Cause) → IsCause source one → IsCause source other → one ≡ other
  one-cause TooLong other never h = absurd never
  one-cause one TooLong h never = absurd never
  one-cause (NoTokens fault) (NoTokens other) h k = ap NoTokens (one-fault fault other h k)
  one-cause (NoTokens fault) (NoProgram refusal token) h k = absurd (no-tokens fault k.0 h k.1)
  one-cause (NoTokens fault) (Untyped other) h k = absurd (no-tokens fault k.1.0 h k.1.1)
  one-cause (NoTokens fault) Later h k = absurd (no-tokens fault k.1.0.0 h k.1.0.1)
  one-cause (NoProgram refusal token) (NoTokens fault) h k = absurd (no-tokens fault h.0 k h.1)
  one-cause (NoProgram refusal token) (NoProgram other at) h k = one-refusal refusal other token at h k
  one-cause (NoProgram refusal token) (Untyped fault) h k = absurd (not-spelled refusal token h k.0 k.1)
  one-cause (NoProgram refusal token) Later h k = absurd (not-spelled refusal token h k.0 k.1.0)
  one-cause (Untyped fault) (NoTokens other) h k = absurd (no-tokens other h.1.0 k h.1.1)
  one-cause (Untyped fault) (NoProgram refusal token) h k = absurd (not-spelled refusal token k h.0 h.1)
  one-cause (Untyped fault) (Untyped other) h k = ap Untyped (one-untyped fault other h k)
  one-cause (Untyped fault) Later h k = absurd (untyped-typed fault k.0 false h k.1)
  one-cause Later (NoTokens fault) h k = absurd (no-tokens fault h.1.0.0 k h.1.0.1)
  one-cause Later (NoProgram refusal token) h k = absurd (not-spelled refusal token k h.0 h.1.0)
  one-cause Later (Untyped fault) h k = absurd (untyped-typed fault h.0 false k h.1)
  one-cause Later Later h k = refl

  -- what can be run has no cause
  runs : (cause : Cause) (program : Program) → IsCause source cause → SpellsTyped source program true → ⊥
  runs TooLong program never k = never
  runs (NoTokens fault) program h k = no-tokens fault k.0.0 h k.0.1
  runs (NoProgram refusal token) program h k = not-spelled refusal token h program k.0
  runs (Untyped fault) program h k = untyped-typed fault program true h k
  runs Later program h k = later-run h.0 program h.1 k

  -- the cause where the source is not too long
  as-cause : (cause : Cause) → length source ≤ source_limit → IsRefused source cause → IsCause source cause
  as-cause TooLong few h = let no : ⊥ = omega (arith, few, h) in absurd no
  as-cause (NoTokens fault) few h = h.1
  as-cause (NoProgram refusal token) few h = h.1
  as-cause (Untyped fault) few h = h.1
  as-cause Later few h = h.1

  -- a source is too long, or not
  is-few : (cause : Cause) → IsRefused source cause → (cause ≡ TooLong) ⊎ (length source ≤ source_limit)
  is-few TooLong h = inl refl
  is-few (NoTokens fault) h = inr h.0
  is-few (NoProgram refusal token) h = inr h.0
  is-few (Untyped fault) h = inr h.0
  is-few Later h = inr h.0

  long-few : (cause : Cause) → IsRefused source cause → cause ≡ TooLong → length source ≤ source_limit → ⊥
  long-few cause h is few = let long : source_limit < length source = subst (IsRefused source) is h in omega (arith, long, few)

  one-refused : (one other : Cause) → IsRefused source one → IsRefused source other → one ≡ other
  one-refused one other h k = of (is-few one h) (is-few other k)
    where
      of : (one ≡ TooLong) ⊎ (length source ≤ source_limit) → (other ≡ TooLong) ⊎ (length source ≤ source_limit) → one ≡ other
      of (inl is) (inl same) = is ∙ sym same
      of (inl is) (inr few) = absurd (long-few one h is few)
      of (inr few) (inl same) = absurd (long-few other k same few)
      of (inr few) (inr also) = one-cause one other (as-cause one few h) (as-cause other few k)

  pub one-reading : (one other : Reading) → IsReading source one → IsReading source other → one ≡ other
  one-reading (Refused cause) (Refused other) h k = ap Refused (one-refused cause other h k)
  one-reading (Refused cause) (Read program) h k = absurd (runs cause program (as-cause cause k.0 h) k.1)
  one-reading (Read program) (Refused cause) h k = absurd (runs cause program (as-cause cause h.0 k) h.1)
  one-reading (Read program) (Read other) h k = ap Read (one-spelled program other h.1.0 k.1.0)

-- ---- a chain ends with one answer

one-by : (contents : Contents) (chain : Chain) (one other : Answer) → IsAnswerBy (Some contents) chain one → IsAnswerBy (Some contents) chain other → one ≡ other
one-by contents (Answers answer) one other h k = h ∙ sym k
one-by contents (Reads name next) one other (bytes, tells, rest) (bytes', tells', rest') =
    let same : bytes' ≡ bytes = some-one bytes' bytes (sym tells' ∙ tells) in
    one-by contents (next bytes) one other rest (subst (λ (b : List ℕ). IsAnswerBy (Some contents) (next b) other) same rest')
one-by contents (Parses source next) one other (reading, is, rest) (reading', is', rest') =
    let same : reading' ≡ reading = one-reading source reading' reading is' is in
    one-by contents (next reading) one other rest (subst (λ (r : Reading). IsAnswerBy (Some contents) (next r) other) same rest')

pub answers_are_one : AnswersAreOne
answers_are_one words contents one other = one-by contents (chain_of (asked_of words)) one other
