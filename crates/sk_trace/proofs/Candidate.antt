-- The line of a step has that step as its candidate, and a candidate is a step that there is.
use Rattle.std.proofs.Common.{◌≡◌, ◌∙◌, ap, refl, ℕ, ◌^◌, ◌≤◌, Bool, true, false, List, [], ◌∷◌, map, take, drop, arith}
use Rattle.std.specs.Prelude.{◌==◌, ◌&&◌, codes, decimal, Some, option_and_then}
use Rattle.std.specs.Fmt.{signed_decimal}
use Rattle.std.specs.List.{list_all, slice_split}
use Rattle.std.proofs.lemmas.Bool.{and_from}
use Rattle.sk_base.specs.declared.number.Ty.{Ty}
use Rattle.sk_base.specs.declared.number.Ty.TheVariants.{Int, Long}
use Rattle.sk_base.specs.declared.choice.Variant.{Variant}
use Rattle.sk_base.specs.declared.choice.Variant.TheVariants.{Sequential, Chunked, Cluster, Lanes}
use Rattle.sk_base.specs.declared.choice.EdgeMode.{EdgeMode}
use Rattle.sk_base.specs.declared.choice.EdgeMode.TheVariants.{Duplicate, Cyclic, Pad}
use Rattle.sk_names.specs.Words.{type_word}
use Rattle.sk_spaces.specs.declared.step.KernelKind.{KernelKind}
use Rattle.sk_spaces.specs.declared.step.KernelKind.TheVariants as kernel
use Rattle.sk_spaces.specs.declared.step.CallMode.{CallMode}
use Rattle.sk_spaces.specs.declared.step.CallMode.TheVariants.{Absent, Row, Col, Incl, Excl}
use Rattle.sk_spaces.specs.declared.step.CallSettings.{CallSettings}
use Rattle.sk_spaces.specs.declared.step.Step.{Step}
use Rattle.sk_spaces.specs.declared.step.Step.TheVariants as step
use Rattle.sk_words.proofs.ReadBack.{joined_by-split}
use Rattle.sk_trace.specs.declared.keyword.Keyword.{Keyword}
use Rattle.sk_trace.specs.declared.keyword.Keyword.TheVariants as keyword
use Rattle.sk_trace.specs.Candidates.{candidate_of, cell_in, flag_in, kernel_in, keyword_named, narrow_in, step_of, type_in, variant_in, wide_in, word_at}
use Rattle.sk_trace.specs.Fits.{IsWide, IsNarrow, IsCell, IsStep, AreSettings}
use Rattle.sk_trace.specs.Lines.{edge_word, fields_of, flag_word, kernel_word, keyword_of, keyword_word, line_of, mode_word, settings_word, shape_word, variant_word, words_of}
use Rattle.sk_trace.specs.Words.{or_absent}
use Rattle.sk_trace.proofs.Digits.{cell_in-decimal, narrow_in-decimal, wide_in-decimal, decimal-value, is_value}
use Rattle.sk_trace.proofs.Free.{black-cell, black-list, black-narrow, black-option, black-wide, each-free, is_black, strung-all, written-all}
use Rattle.sk_trace.proofs.Parts.{cell-list-back, map-back, option-back, settings-back, shape-back, wide-list-back}

-- ---- the words of a line are without blanks and line feeds

abbrev pub Black : List ℕ → Type 0
Black word = list_all is_black word ≡ true

abbrev pub AllBlack : List (List ℕ) → Type 0
AllBlack words = list_all (list_all is_black) words ≡ true

-- one more word in front
more : {a b : Bool} → a ≡ true → b ≡ true → (a && b) ≡ true
more {a = a} {b = b} one rest = and_from a b one rest

none : AllBlack []
none = refl

black-keyword : (k : Keyword) → Black (keyword_word k)
black-keyword keyword.Memory = refl
black-keyword keyword.Store = refl
black-keyword keyword.Alloc = refl
black-keyword keyword.Free = refl
black-keyword keyword.Stale = refl
black-keyword keyword.Copy = refl
black-keyword keyword.Back = refl
black-keyword keyword.Send = refl
black-keyword keyword.Deliver = refl
black-keyword keyword.Fill = refl
black-keyword keyword.Write = refl
black-keyword keyword.Poke = refl
black-keyword keyword.Clone = refl
black-keyword keyword.Call = refl
black-keyword keyword.Kernel = refl
black-keyword keyword.Read = refl
black-keyword keyword.Bind = refl
black-keyword keyword.Unbind = refl
black-keyword keyword.Flush = refl

black-type : (ty : Ty) → Black (type_word ty)
black-type Int = refl
black-type Long = refl

black-variant : (variant : Variant) → Black (variant_word variant)
black-variant Sequential = refl
black-variant Chunked = refl
black-variant Cluster = refl
black-variant Lanes = refl

black-kernel : (kind : KernelKind) → Black (kernel_word kind)
black-kernel kernel.Element = refl
black-kernel kernel.Fold = refl
black-kernel kernel.Join = refl
black-kernel kernel.Scan = refl
black-kernel kernel.Value = refl

black-mode : (mode : CallMode) → Black (mode_word mode)
black-mode Absent = refl
black-mode Row = refl
black-mode Col = refl
black-mode Incl = refl
black-mode Excl = refl

black-edge : (edge : EdgeMode) → Black (edge_word edge)
black-edge Duplicate = refl
black-edge Cyclic = refl
black-edge Pad = refl

black-flag : (flag : Bool) → Black (flag_word flag)
black-flag true = refl
black-flag false = refl

black-shape : (store : ℕ) (sizes : List ℕ) → IsStep (step.Store store Int sizes) → Black (shape_word sizes)
black-shape store sizes fits =
    strung-all is_black (codes "x") [] refl refl (map decimal sizes)
    (written-all is_black decimal (λ n. n ≤ 2 ^ 24) (λ n small. black-wide n (omega arith)) sizes fits.1.each)

black-settings : (settings : CallSettings) → AreSettings settings → Black (settings_word settings)
black-settings settings fit =
    strung-all is_black (codes ":") [] refl refl
    (mode_word settings.mode ∷ decimal settings.overlap.0 ∷ decimal settings.overlap.1 ∷ edge_word settings.edge
    ∷ signed_decimal settings.pad ∷ or_absent signed_decimal settings.start ∷ [])
    (more (black-mode settings.mode) (more (black-narrow settings.overlap.0 fit.rows) (more (black-narrow settings.overlap.1 fit.columns)
    (more (black-edge settings.edge) (more (black-cell settings.pad fit.pad)
    (more (black-option signed_decimal IsCell black-cell settings.start fit.start) none))))))

black-fields : (s : Step) → IsStep s → AllBlack (fields_of s)
black-fields (step.Memory ranks capacity tile lineage) fits = more (black-narrow ranks fits.0) (more (black-narrow capacity fits.1) (more (black-narrow tile fits.2) (more (black-narrow lineage fits.3) none)))
black-fields (step.Store store ty shape) fits =
    more (black-wide store fits.0) (more (black-type ty) (more (black-shape store shape fits) none))
black-fields (step.Alloc copy store space lo hi) fits = more (black-wide copy fits.0) (more (black-wide store fits.1) (more (black-narrow space fits.2) (more (black-narrow lo fits.3) (more (black-narrow hi fits.4) none))))
black-fields (step.Free copy) fits = more (black-wide copy fits) none
black-fields (step.Stale store lo hi) fits = more (black-wide store fits.0) (more (black-narrow lo fits.1) (more (black-narrow hi fits.2) none))
black-fields (step.Copy from to lo hi) fits = more (black-wide from fits.0) (more (black-wide to fits.1) (more (black-narrow lo fits.2) (more (black-narrow hi fits.3) none)))
black-fields (step.Back from to lo hi) fits = more (black-wide from fits.0) (more (black-wide to fits.1) (more (black-narrow lo fits.2) (more (black-narrow hi fits.3) none)))
black-fields (step.Send message from to lo hi) fits = more (black-wide message fits.0) (more (black-wide from fits.1) (more (black-wide to fits.2) (more (black-narrow lo fits.3) (more (black-narrow hi fits.4) none))))
black-fields (step.Deliver message) fits = more (black-wide message fits) none
black-fields (step.Fill copy lo hi cell) fits = more (black-wide copy fits.0) (more (black-narrow lo fits.1) (more (black-narrow hi fits.2) (more (black-cell cell fits.3) none)))
black-fields (step.Write copy lo cells) fits =
    more (black-wide copy fits.0) (more (black-narrow lo fits.1) (written-all is_black signed_decimal IsCell black-cell cells fits.2))
black-fields (step.Poke copy index cell) fits = more (black-wide copy fits.0) (more (black-narrow index fits.1) (more (black-cell cell fits.2) none))
black-fields (step.Clone from to lo hi) fits = more (black-wide from fits.0) (more (black-wide to fits.1) (more (black-narrow lo fits.2) (more (black-narrow hi fits.3) none)))
black-fields (step.Call call line instance variant parts recorded result operands uniforms settings) fits =
    more (black-wide call fits.0) (more (black-narrow line fits.1) (more (black-narrow instance fits.2) (more (black-variant variant)
    (more (black-narrow parts fits.3) (more (black-flag recorded) (more (black-option decimal IsWide black-wide result fits.4)
    (more (black-list (map decimal operands) (written-all is_black decimal IsWide black-wide operands fits.5))
    (more (black-list (map signed_decimal uniforms) (written-all is_black signed_decimal IsCell black-cell uniforms fits.6))
    (more (black-settings settings fits.7) none)))))))))
black-fields (step.Kernel call kind part lo hi out trapped inputs) fits =
    more (black-wide call fits.0) (more (black-kernel kind) (more (black-narrow part fits.1) (more (black-narrow lo fits.2)
    (more (black-narrow hi fits.3) (more (black-wide out fits.4) (more (black-option decimal IsNarrow black-narrow trapped fits.5)
    (more (black-list (map decimal inputs) (written-all is_black decimal IsWide black-wide inputs fits.6)) none)))))))
black-fields (step.Read copy lo hi) fits = more (black-wide copy fits.0) (more (black-narrow lo fits.1) (more (black-narrow hi fits.2) none))
black-fields (step.Bind container store) fits = more (black-narrow container fits.0) (more (black-wide store fits.1) none)
black-fields (step.Unbind container) fits = more (black-narrow container fits) none
black-fields step.Flush fits = none

pub black-words : (s : Step) → IsStep s → AllBlack (words_of s)
black-words s fits = more (black-keyword (keyword_of s)) (black-fields s fits)

-- ---- the words of a line, and the step of the words

line-words : (s : Step) → IsStep s → slice_split (λ byte. byte == 32) (line_of s) ≡ words_of s
line-words s fits =
    joined_by-split 32 (keyword_word (keyword_of s)) (fields_of s) (each-free is_black 32 refl (words_of s) (black-words s fits))

keyword-back : (k : Keyword) → keyword_named (keyword_word k) ≡ Some k
keyword-back keyword.Memory = refl
keyword-back keyword.Store = refl
keyword-back keyword.Alloc = refl
keyword-back keyword.Free = refl
keyword-back keyword.Stale = refl
keyword-back keyword.Copy = refl
keyword-back keyword.Back = refl
keyword-back keyword.Send = refl
keyword-back keyword.Deliver = refl
keyword-back keyword.Fill = refl
keyword-back keyword.Write = refl
keyword-back keyword.Poke = refl
keyword-back keyword.Clone = refl
keyword-back keyword.Call = refl
keyword-back keyword.Kernel = refl
keyword-back keyword.Read = refl
keyword-back keyword.Bind = refl
keyword-back keyword.Unbind = refl
keyword-back keyword.Flush = refl

type-back : (ty : Ty) → type_in (type_word ty) ≡ ty
type-back Int = refl
type-back Long = refl

variant-back : (variant : Variant) → variant_in (variant_word variant) ≡ variant
variant-back Sequential = refl
variant-back Chunked = refl
variant-back Cluster = refl
variant-back Lanes = refl

kernel-back : (kind : KernelKind) → kernel_in (kernel_word kind) ≡ kind
kernel-back kernel.Element = refl
kernel-back kernel.Fold = refl
kernel-back kernel.Join = refl
kernel-back kernel.Scan = refl
kernel-back kernel.Value = refl

flag-back : (flag : Bool) → flag_in (flag_word flag) ≡ flag
flag-back true = refl
flag-back false = refl

narrow-value : (n : ℕ) → IsNarrow n → is_value (decimal n) ≡ true
narrow-value n fits = decimal-value n (omega arith)

-- the step of the words of a step's line
step-back : (line : List ℕ) (s : Step) → IsStep s → slice_split (λ byte. byte == 32) line ≡ words_of s
    → step_of line (take 11 (words_of s)) (keyword_of s) ≡ Some s
step-back line (step.Memory ranks capacity tile lineage) fits split = cc (narrow_in-decimal ranks fits.0, narrow_in-decimal capacity fits.1, narrow_in-decimal tile fits.2, narrow_in-decimal lineage fits.3)
step-back line (step.Store store ty shape) fits split =
    cc (wide_in-decimal store fits.0, type-back ty, shape-back shape fits.1)
step-back line (step.Alloc copy store space lo hi) fits split = cc (wide_in-decimal copy fits.0, wide_in-decimal store fits.1, narrow_in-decimal space fits.2, narrow_in-decimal lo fits.3, narrow_in-decimal hi fits.4)
step-back line (step.Free copy) fits split = ap (λ x. Some (step.Free x)) (wide_in-decimal copy fits)
step-back line (step.Stale store lo hi) fits split = cc (wide_in-decimal store fits.0, narrow_in-decimal lo fits.1, narrow_in-decimal hi fits.2)
step-back line (step.Copy from to lo hi) fits split = cc (wide_in-decimal from fits.0, wide_in-decimal to fits.1, narrow_in-decimal lo fits.2, narrow_in-decimal hi fits.3)
step-back line (step.Back from to lo hi) fits split = cc (wide_in-decimal from fits.0, wide_in-decimal to fits.1, narrow_in-decimal lo fits.2, narrow_in-decimal hi fits.3)
step-back line (step.Send message from to lo hi) fits split = cc (wide_in-decimal message fits.0, wide_in-decimal from fits.1, wide_in-decimal to fits.2, narrow_in-decimal lo fits.3, narrow_in-decimal hi fits.4)
step-back line (step.Deliver message) fits split = ap (λ x. Some (step.Deliver x)) (wide_in-decimal message fits)
step-back line (step.Fill copy lo hi cell) fits split = cc (wide_in-decimal copy fits.0, narrow_in-decimal lo fits.1, narrow_in-decimal hi fits.2, cell_in-decimal cell fits.3)
step-back line (step.Write copy lo cells) fits split =
    let written : map cell_in (drop 3 (slice_split (λ byte. byte == 32) line)) ≡ cells =
    ap (λ words. map cell_in (drop 3 words)) split ∙ map-back signed_decimal cell_in IsCell cell_in-decimal cells fits.2 in
    cc (wide_in-decimal copy fits.0, narrow_in-decimal lo fits.1, written)
step-back line (step.Poke copy index cell) fits split = cc (wide_in-decimal copy fits.0, narrow_in-decimal index fits.1, cell_in-decimal cell fits.2)
step-back line (step.Clone from to lo hi) fits split = cc (wide_in-decimal from fits.0, wide_in-decimal to fits.1, narrow_in-decimal lo fits.2, narrow_in-decimal hi fits.3)
step-back line (step.Call call text instance variant parts recorded result operands uniforms settings) fits split =
    cc (
      wide_in-decimal call fits.0,
      narrow_in-decimal text fits.1,
      narrow_in-decimal instance fits.2,
      variant-back variant,
      narrow_in-decimal parts fits.3,
      flag-back recorded,
      option-back decimal wide_in IsWide wide_in-decimal decimal-value result fits.4,
      wide-list-back operands fits.5,
      cell-list-back uniforms fits.6,
      settings-back settings fits.7,
    )
step-back line (step.Kernel call kind part lo hi out trapped inputs) fits split =
    cc (
      wide_in-decimal call fits.0,
      kernel-back kind,
      narrow_in-decimal part fits.1,
      narrow_in-decimal lo fits.2,
      narrow_in-decimal hi fits.3,
      wide_in-decimal out fits.4,
      option-back decimal narrow_in IsNarrow narrow_in-decimal narrow-value trapped fits.5,
      wide-list-back inputs fits.6,
    )
step-back line (step.Read copy lo hi) fits split = cc (wide_in-decimal copy fits.0, narrow_in-decimal lo fits.1, narrow_in-decimal hi fits.2)
step-back line (step.Bind container store) fits split = cc (narrow_in-decimal container fits.0, wide_in-decimal store fits.1)
step-back line (step.Unbind container) fits split = ap (λ x. Some (step.Unbind x)) (narrow_in-decimal container fits)
step-back line step.Flush fits split = refl

-- the line of a step has that step as its candidate
pub candidate-line : (s : Step) → IsStep s → candidate_of (line_of s) ≡ Some s
candidate-line s fits =
    let split = line-words s fits in
    let chosen : candidate_of (line_of s) ≡ option_and_then (step_of (line_of s) (take 11 (words_of s))) (keyword_named (keyword_word (keyword_of s))) =
    ap (λ words. option_and_then (step_of (line_of s) (take 11 words)) (keyword_named (word_at (take 11 words) 0))) split in
    chosen ∙ ap (option_and_then (step_of (line_of s) (take 11 (words_of s)))) (keyword-back (keyword_of s)) ∙ step-back (line_of s) s fits split
