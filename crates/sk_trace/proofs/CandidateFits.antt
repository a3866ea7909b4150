-- A candidate is a step that there is: its numbers fit.
use Rattle.std.proofs.Common.{◌≡◌, ◌∙◌, ap, refl, subst, sym, inl, inr, ℕ, zero, suc, ◌+◌, ◌*◌, ◌%◌, ◌^◌, ◌<◌, ◌≤◌, Bool, List, [], ◌∷◌, map, drop, All, arith}
use Rattle.std.specs.Prelude.{◌==◌, codes, nat_lt, nat_le, Option, Some, None, option_and_then, option_map, pos, neg_ℤ, if◌then◌else◌}
use Rattle.std.specs.List.{slice_split}
use Rattle.std.proofs.Math.Nat.{mod-lt}
use Rattle.std.proofs.lemmas.Bool.{cases_Bool, leb-true, ltb-true}
use Rattle.std.proofs.lemmas.List.Elements.{All-nil, All-cons}
use Rattle.sk_base.specs.ShapeLaws.{shape_of-some}
use Rattle.sk_names.specs.Bytes.{same_bytes}
use Rattle.sk_spaces.specs.declared.step.Step.{Step}
use Rattle.sk_spaces.specs.declared.step.Step.TheVariants as step
use Rattle.sk_trace.specs.declared.keyword.Keyword.{Keyword}
use Rattle.sk_trace.specs.declared.keyword.Keyword.TheVariants as keyword
use Rattle.sk_trace.specs.Candidates.{call_in, candidate_of, cell_in, kernel_line_in, keyword_named, list_in, narrow_in, negative_in, number_from, option_in, positive_in, settings_of, shape_in, step_of, store_in, type_in, wide_in, with_digit, word_at, words_in, write_in}
use Rattle.sk_trace.specs.Fits.{IsWide, IsNarrow, IsCell, IsStep, EachOf, AreSettings}
use Rattle.sk_trace.specs.Lines.{line_of}
use Rattle.sk_trace.proofs.Candidate.{candidate-line}

-- ---- numbers

number-fits : (number : ℕ) (word : List ℕ) → IsWide number → IsWide (number_from number word)
number-fits number [] fits = fits
number-fits number (byte ∷ word) fits =
    number-fits (with_digit number byte) word (mod-lt (number * 10 + (byte + 208) % 256) (omega arith))

wide-fits : (word : List ℕ) → IsWide (wide_in word)
wide-fits word = number-fits 0 word (omega arith)

narrow-fits : (word : List ℕ) → IsNarrow (narrow_in word)
narrow-fits word = elim (cases_Bool (nat_lt (wide_in word) (2 ^ 32))) [
  | inl small ↦
      subst (λ (b : Bool). (if b then wide_in word else 0) < 2 ^ 32) (sym small) (ltb-true (wide_in word) (2 ^ 32) small)
  | inr large ↦ subst (λ (b : Bool). (if b then wide_in word else 0) < 2 ^ 32) (sym large) (omega arith)
]

zero-fits : IsCell (pos 0)
zero-fits = record { sfits = omega arith }

positive-fits : (number : ℕ) → IsCell (positive_in number)
positive-fits number = elim (cases_Bool (nat_lt number (2 ^ 63))) [
  | inl small ↦
      subst (λ (b : Bool). IsCell (if b then pos number else pos 0)) (sym small) (record { sfits = ltb-true number (2 ^ 63) small })
  | inr large ↦ subst (λ (b : Bool). IsCell (if b then pos number else pos 0)) (sym large) zero-fits
]

minus-fits : (number : ℕ) → number ≤ 2 ^ 63 → IsCell (neg_ℤ (pos number))
minus-fits zero small = zero-fits
minus-fits (suc number) small = record { sfits = omega (arith, small) }

negative-fits : (number : ℕ) → IsCell (negative_in number)
negative-fits number = elim (cases_Bool (nat_le number (2 ^ 63))) [
  | inl small ↦
      subst (λ (b : Bool). IsCell (if b then neg_ℤ (pos number) else pos 0)) (sym small) (minus-fits number (leb-true number (2 ^ 63) small))
  | inr large ↦ subst (λ (b : Bool). IsCell (if b then neg_ℤ (pos number) else pos 0)) (sym large) zero-fits
]

cell-fits : (word : List ℕ) → IsCell (cell_in word)
cell-fits [] = zero-fits
cell-fits (byte ∷ word) = elim (cases_Bool (byte == 45)) [
  | inl minus ↦
      subst (λ (b : Bool). IsCell (if b then negative_in (wide_in word) else positive_in (wide_in (byte ∷ word)))) (sym minus) (negative-fits (wide_in word))
  | inr other ↦
      subst (λ (b : Bool). IsCell (if b then negative_in (wide_in word) else positive_in (wide_in (byte ∷ word)))) (sym other) (positive-fits (wide_in (byte ∷ word)))
]

-- ---- what is there, and lists

option-fits : {X : Type 0} (value : List ℕ → X) (P : X → Type 0) → ((word : List ℕ) → P (value word)) → (word : List ℕ) → EachOf P (option_in value word)
option-fits value P one word = elim (cases_Bool (same_bytes word (codes "-"))) [
  | inl absent ↦ subst (λ (b : Bool). EachOf P (if b then None else Some (value word))) (sym absent) tt
  | inr there ↦ subst (λ (b : Bool). EachOf P (if b then None else Some (value word))) (sym there) (one word)
]

each-fits : {X : Type 0} (value : List ℕ → X) (P : X → Type 0) → ((word : List ℕ) → P (value word)) → (words : List (List ℕ)) → All P (map value words)
each-fits value P one [] = All-nil P
each-fits value P one (word ∷ words) = All-cons P (value word) (map value words) (one word) (each-fits value P one words)

settings-fit : (words : List (List ℕ)) → AreSettings (settings_of words)
settings-fit words = record {
  rows = narrow-fits (word_at words 1);
  columns = narrow-fits (word_at words 2);
  pad = cell-fits (word_at words 4);
  start = option-fits cell_in IsCell cell-fits (word_at words 5);
}

-- ---- steps

some-same : (s t : Step) → Some s ≡ Some t → s ≡ t
some-same s t same = cc

store-fits : (words : List (List ℕ)) (s : Step) → store_in words ≡ Some s → IsStep s
store-fits words s is = by (shape_in (word_at words 3)) refl is
  where
    by : (o : Option (List ℕ)) → shape_in (word_at words 3) ≡ o
        → option_map (λ shape. step.Store (wide_in (word_at words 1)) (type_in (word_at words 2)) shape) o ≡ Some s → IsStep s
    by None found is = cc
    by (Some shape) found is =
        subst IsStep (some-same (step.Store (wide_in (word_at words 1)) (type_in (word_at words 2)) shape) s is)
        (wide-fits (word_at words 1), (shape_of-some (map cell_in (slice_split (λ byte. byte == 120) (word_at words 3))) shape found).0)

call-fits : (words : List (List ℕ)) → IsStep (call_in words)
call-fits words = (
  wide-fits (word_at words 1),
  narrow-fits (word_at words 2),
  narrow-fits (word_at words 3),
  narrow-fits (word_at words 5),
  option-fits wide_in IsWide wide-fits (word_at words 7),
  each-fits wide_in IsWide wide-fits (list_in (word_at words 8)),
  each-fits cell_in IsCell cell-fits (list_in (word_at words 9)),
  settings-fit (words_in 58 (word_at words 10)),
)

kernel-fits : (words : List (List ℕ)) → IsStep (kernel_line_in words)
kernel-fits words = (
  wide-fits (word_at words 1),
  narrow-fits (word_at words 3),
  narrow-fits (word_at words 4),
  narrow-fits (word_at words 5),
  wide-fits (word_at words 6),
  option-fits narrow_in IsNarrow narrow-fits (word_at words 7),
  each-fits wide_in IsWide wide-fits (list_in (word_at words 8)),
)

write-fits : (line : List ℕ) (words : List (List ℕ)) → IsStep (write_in line words)
write-fits line words = (
  wide-fits (word_at words 1),
  narrow-fits (word_at words 2),
  each-fits cell_in IsCell cell-fits (drop 3 (slice_split (λ byte. byte == 32) line)),
)

step-fits : (line : List ℕ) (words : List (List ℕ)) (k : Keyword) (s : Step) → step_of line words k ≡ Some s → IsStep s
step-fits line words keyword.Memory s is =
    subst IsStep (some-same (step.Memory (narrow_in (word_at words 1)) (narrow_in (word_at words 2)) (narrow_in (word_at words 3)) (narrow_in (word_at words 4))) s is)
    (narrow-fits (word_at words 1), narrow-fits (word_at words 2), narrow-fits (word_at words 3), narrow-fits (word_at words 4))
step-fits line words keyword.Store s is = store-fits words s is
step-fits line words keyword.Alloc s is =
    subst IsStep (some-same (step.Alloc (wide_in (word_at words 1)) (wide_in (word_at words 2)) (narrow_in (word_at words 3)) (narrow_in (word_at words 4)) (narrow_in (word_at words 5))) s is)
    (wide-fits (word_at words 1), wide-fits (word_at words 2), narrow-fits (word_at words 3), narrow-fits (word_at words 4), narrow-fits (word_at words 5))
step-fits line words keyword.Free s is =
    subst IsStep (some-same (step.Free (wide_in (word_at words 1))) s is)
    (wide-fits (word_at words 1))
step-fits line words keyword.Stale s is =
    subst IsStep (some-same (step.Stale (wide_in (word_at words 1)) (narrow_in (word_at words 2)) (narrow_in (word_at words 3))) s is)
    (wide-fits (word_at words 1), narrow-fits (word_at words 2), narrow-fits (word_at words 3))
step-fits line words keyword.Copy s is =
    subst IsStep (some-same (step.Copy (wide_in (word_at words 1)) (wide_in (word_at words 2)) (narrow_in (word_at words 3)) (narrow_in (word_at words 4))) s is)
    (wide-fits (word_at words 1), wide-fits (word_at words 2), narrow-fits (word_at words 3), narrow-fits (word_at words 4))
step-fits line words keyword.Back s is =
    subst IsStep (some-same (step.Back (wide_in (word_at words 1)) (wide_in (word_at words 2)) (narrow_in (word_at words 3)) (narrow_in (word_at words 4))) s is)
    (wide-fits (word_at words 1), wide-fits (word_at words 2), narrow-fits (word_at words 3), narrow-fits (word_at words 4))
step-fits line words keyword.Send s is =
    subst IsStep (some-same (step.Send (wide_in (word_at words 1)) (wide_in (word_at words 2)) (wide_in (word_at words 3)) (narrow_in (word_at words 4)) (narrow_in (word_at words 5))) s is)
    (wide-fits (word_at words 1), wide-fits (word_at words 2), wide-fits (word_at words 3), narrow-fits (word_at words 4), narrow-fits (word_at words 5))
step-fits line words keyword.Deliver s is =
    subst IsStep (some-same (step.Deliver (wide_in (word_at words 1))) s is)
    (wide-fits (word_at words 1))
step-fits line words keyword.Fill s is =
    subst IsStep (some-same (step.Fill (wide_in (word_at words 1)) (narrow_in (word_at words 2)) (narrow_in (word_at words 3)) (cell_in (word_at words 4))) s is)
    (wide-fits (word_at words 1), narrow-fits (word_at words 2), narrow-fits (word_at words 3), cell-fits (word_at words 4))
step-fits line words keyword.Write s is = subst IsStep (some-same (write_in line words) s is) (write-fits line words)
step-fits line words keyword.Poke s is =
    subst IsStep (some-same (step.Poke (wide_in (word_at words 1)) (narrow_in (word_at words 2)) (cell_in (word_at words 3))) s is)
    (wide-fits (word_at words 1), narrow-fits (word_at words 2), cell-fits (word_at words 3))
step-fits line words keyword.Clone s is =
    subst IsStep (some-same (step.Clone (wide_in (word_at words 1)) (wide_in (word_at words 2)) (narrow_in (word_at words 3)) (narrow_in (word_at words 4))) s is)
    (wide-fits (word_at words 1), wide-fits (word_at words 2), narrow-fits (word_at words 3), narrow-fits (word_at words 4))
step-fits line words keyword.Call s is = subst IsStep (some-same (call_in words) s is) (call-fits words)
step-fits line words keyword.Kernel s is = subst IsStep (some-same (kernel_line_in words) s is) (kernel-fits words)
step-fits line words keyword.Read s is =
    subst IsStep (some-same (step.Read (wide_in (word_at words 1)) (narrow_in (word_at words 2)) (narrow_in (word_at words 3))) s is)
    (wide-fits (word_at words 1), narrow-fits (word_at words 2), narrow-fits (word_at words 3))
step-fits line words keyword.Bind s is =
    subst IsStep (some-same (step.Bind (narrow_in (word_at words 1)) (wide_in (word_at words 2))) s is)
    (narrow-fits (word_at words 1), wide-fits (word_at words 2))
step-fits line words keyword.Unbind s is =
    subst IsStep (some-same (step.Unbind (narrow_in (word_at words 1))) s is)
    (narrow-fits (word_at words 1))
step-fits line words keyword.Flush s is = subst IsStep (some-same step.Flush s is) tt

-- a candidate is a step
pub candidate-fits : (line : List ℕ) (s : Step) → candidate_of line ≡ Some s → IsStep s
candidate-fits line s is = by (keyword_named (word_at (words_in 32 line) 0)) is
  where
    by : (o : Option Keyword) → option_and_then (step_of line (words_in 32 line)) o ≡ Some s → IsStep s
    by None is = cc
    by (Some k) is = step-fits line (words_in 32 line) k s is

-- a line without a candidate is that of no step
pub no-candidate : (line : List ℕ) → candidate_of line ≡ None → (s : Step) → IsStep s → line ≡ line_of s → ⊥
no-candidate line none s fits is =
    let found : candidate_of line ≡ Some s = ap candidate_of is ∙ candidate-line s fits in
    cc

-- nor is one that is not its candidate's
pub other-line : (line : List ℕ) (t : Step) → candidate_of line ≡ Some t → (line_of t ≡ line → ⊥) → (s : Step) → IsStep s → line ≡ line_of s → ⊥
other-line line t candidate other s fits is =
    let found : candidate_of line ≡ Some s = ap candidate_of is ∙ candidate-line s fits in
    other (ap line_of (some-same t s (sym candidate ∙ found)) ∙ sym is)
