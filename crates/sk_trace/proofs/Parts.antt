-- Words that are made of others come apart as what they were made of.
use Rattle.std.proofs.Common.{◌≡◌, ◌∙◌, ap, refl, subst, ℕ, ◌^◌, ◌≤◌, Bool, true, false, List, [], ◌∷◌, ◌++◌, map, take, All, arith}
use Rattle.std.specs.Prelude.{◌&&◌, ◌||◌, ◌==◌, not, codes, decimal, Option, Some, None, ℤ, pos, if◌then◌else◌}
use Rattle.std.specs.Fmt.{signed_decimal}
use Rattle.std.specs.List.{list_all, slice_split}
use Rattle.std.proofs.lemmas.Bool.{and_parts, and_from}
use Rattle.std.proofs.lemmas.List.{append-nil}
use Rattle.std.proofs.lemmas.List.Elements.{All-head, All-tail}
use Rattle.sk_base.specs.Shape.{IsShape, shape_of}
use Rattle.sk_base.specs.ShapeLaws.{shape_of-pos}
use Rattle.sk_names.specs.Bytes.{is_digit, same_bytes}
use Rattle.sk_spaces.specs.declared.step.CallMode.{CallMode}
use Rattle.sk_spaces.specs.declared.step.CallMode.TheVariants.{Absent, Row, Col, Incl, Excl}
use Rattle.sk_spaces.specs.declared.step.CallSettings.{CallSettings}
use Rattle.sk_base.specs.declared.choice.EdgeMode.{EdgeMode}
use Rattle.sk_base.specs.declared.choice.EdgeMode.TheVariants.{Duplicate, Cyclic, Pad}
use Rattle.sk_words.specs.Strung.{strung, joined_by}
use Rattle.sk_words.proofs.ReadBack.{IsFree, joined_by-split}
use Rattle.sk_trace.specs.Candidates.{cell_in, edge_in, list_in, mode_in, narrow_in, option_in, settings_in, settings_of, shape_in, wide_in}
use Rattle.sk_trace.specs.Fits.{IsWide, IsNarrow, IsCell, EachOf, AreSettings}
use Rattle.sk_trace.specs.Lines.{edge_word, mode_word, settings_word, shape_word}
use Rattle.sk_trace.specs.Words.{or_absent, comma_list}
use Rattle.sk_trace.proofs.Digits.{cell_in-decimal, narrow_in-decimal, wide_in-decimal, decimal-digits, signed-digits, decimal-value, signed-value, is_signed, is_value, weaker}
use Rattle.sk_trace.proofs.Free.{each-free, written-all}

-- ---- what each of a list was written as, is read back

pub map-back : {X : Type 0} (word : X → List ℕ) (value : List ℕ → X) (P : X → Type 0) → ((x : X) → P x → value (word x) ≡ x)
    → (xs : List X) → All P xs → map value (map word xs) ≡ xs
map-back word value P one [] each = refl
map-back word value P one (x ∷ xs) each =
    let first = one x (All-head P x xs each) in
    let rest = map-back word value P one xs (All-tail P x xs each) in
    cc

-- ---- `-` for what is absent

and-false : (a : Bool) → (a && false) ≡ false
and-false true = refl
and-false false = refl

lone : (byte : ℕ) → (if byte == 45 then false else true) ≡ true → (byte == 45) ≡ false
lone byte is = by (byte == 45) is
  where
    by : (b : Bool) → (if b then false else true) ≡ true → b ≡ false
    by true is = cc
    by false is = refl

-- a value begins no word that is `-`
not-absent : (word rest : List ℕ) → is_value word ≡ true → same_bytes (word ++ rest) (codes "-") ≡ false
not-absent [] rest is = cc
not-absent (byte ∷ []) [] is = ap (λ (b : Bool). b && true) (lone byte is)
not-absent (byte ∷ []) (next ∷ rest) is = and-false (byte == 45)
not-absent (byte ∷ next ∷ more) rest is = and-false (byte == 45)

pub option-back : {X : Type 0} (word : X → List ℕ) (value : List ℕ → X) (P : X → Type 0) → ((x : X) → P x → value (word x) ≡ x)
    → ((x : X) → P x → is_value (word x) ≡ true) → (o : Option X) → EachOf P o → option_in value (or_absent word o) ≡ o
option-back word value P back is None fits = refl
option-back word value P back is (Some x) fits =
    let there : same_bytes (word x) (codes "-") ≡ false =
    subst (λ w. same_bytes w (codes "-") ≡ false) (append-nil (word x)) (not-absent (word x) [] (is x fits)) in
    ap (λ (b : Bool). if b then None else Some (value (word x))) there ∙ ap (λ y. Some y) (back x fits)

-- ---- lists with commas

comma-split : (words : List (List ℕ)) → All (IsFree 44) words → list_all is_value words ≡ true → list_in (comma_list words) ≡ words
comma-split [] free are = refl
comma-split (word ∷ words) free are =
    let is = (and_parts (is_value word) (list_all is_value words) are).0 in
    let there : same_bytes (joined_by (codes ",") (word ∷ words)) (codes "-") ≡ false =
    not-absent word (strung (codes ",") (codes ",") words) is in
    ap (λ (b : Bool). if b then [] else slice_split (λ byte. byte == 44) (joined_by (codes ",") (word ∷ words))) there
    ∙ joined_by-split 44 word words free

values : {X : Type 0} (word : X → List ℕ) (P : X → Type 0) → ((x : X) → P x → is_value (word x) ≡ true) → (xs : List X) → All P xs
    → list_all is_value (map word xs) ≡ true
values word P one [] each = refl
values word P one (x ∷ xs) each =
    and_from _ _ (one x (All-head P x xs each)) (values word P one xs (All-tail P x xs each))

pub wide-list-back : (ns : List ℕ) → All IsWide ns → map wide_in (list_in (comma_list (map decimal ns))) ≡ ns
wide-list-back ns each =
    ap (map wide_in) (comma-split (map decimal ns) (each-free is_digit 44 refl (map decimal ns) (written-all is_digit decimal IsWide decimal-digits ns each))
    (values decimal IsWide decimal-value ns each))
    ∙ map-back decimal wide_in IsWide wide_in-decimal ns each

pub cell-list-back : (zs : List ℤ) → All IsCell zs → map cell_in (list_in (comma_list (map signed_decimal zs))) ≡ zs
cell-list-back zs each =
    ap (map cell_in) (comma-split (map signed_decimal zs)
    (each-free is_signed 44 refl (map signed_decimal zs) (written-all is_signed signed_decimal IsCell signed-digits zs each))
    (values signed_decimal IsCell signed-value zs each))
    ∙ map-back signed_decimal cell_in IsCell cell_in-decimal zs each

-- ---- shapes

size-cell : (n : ℕ) → n ≤ 2 ^ 24 → IsCell (pos n)
size-cell n small = record { sfits = omega arith }

sizes-back : (sizes : List ℕ) → All (λ size. size ≤ 2 ^ 24) sizes → map cell_in (map decimal sizes) ≡ map pos sizes
sizes-back [] each = refl
sizes-back (size ∷ sizes) each =
    let first = cell_in-decimal (pos size) (size-cell size (All-head (λ s. s ≤ 2 ^ 24) size sizes each)) in
    let rest = sizes-back sizes (All-tail (λ s. s ≤ 2 ^ 24) size sizes each) in
    cc

size-digits : (n : ℕ) → n ≤ 2 ^ 24 → list_all is_digit (decimal n) ≡ true
size-digits n small = decimal-digits n (omega arith)

sizes-split : (sizes : List ℕ) → IsShape sizes → slice_split (λ byte. byte == 120) (shape_word sizes) ≡ map decimal sizes
sizes-split [] is = absurd (omega (arith, is.some))
sizes-split (size ∷ sizes) is =
    joined_by-split 120 (decimal size) (map decimal sizes)
    (each-free is_digit 120 refl (map decimal (size ∷ sizes)) (written-all is_digit decimal (λ n. n ≤ 2 ^ 24) size-digits (size ∷ sizes) is.each))

pub shape-back : (sizes : List ℕ) → IsShape sizes → shape_in (shape_word sizes) ≡ Some sizes
shape-back sizes is =
    ap (λ words. shape_of (map cell_in words)) (sizes-split sizes is) ∙ ap shape_of (sizes-back sizes is.each) ∙ shape_of-pos sizes is

-- ---- settings

abbrev no_colon : ℕ → Bool
no_colon byte = not (byte == 58)

colon-free : (byte : ℕ) → is_signed byte ≡ true → no_colon byte ≡ true
colon-free byte is = grind arith

number-free : (n : ℕ) → IsNarrow n → list_all no_colon (decimal n) ≡ true
number-free n fits = weaker is_digit no_colon (λ byte is. colon-free byte (ap (λ (b : Bool). b || byte == 45) is)) (decimal n) (decimal-digits n (omega arith))

cell-free : (z : ℤ) → IsCell z → list_all no_colon (signed_decimal z) ≡ true
cell-free z fits = weaker is_signed no_colon colon-free (signed_decimal z) (signed-digits z fits)

start-free : (o : Option ℤ) → EachOf IsCell o → list_all no_colon (or_absent signed_decimal o) ≡ true
start-free None fits = refl
start-free (Some z) fits = cell-free z fits

mode-free : (mode : CallMode) → list_all no_colon (mode_word mode) ≡ true
mode-free Absent = refl
mode-free Row = refl
mode-free Col = refl
mode-free Incl = refl
mode-free Excl = refl

edge-free : (edge : EdgeMode) → list_all no_colon (edge_word edge) ≡ true
edge-free Duplicate = refl
edge-free Cyclic = refl
edge-free Pad = refl

mode-back : (mode : CallMode) → mode_in (mode_word mode) ≡ mode
mode-back Absent = refl
mode-back Row = refl
mode-back Col = refl
mode-back Incl = refl
mode-back Excl = refl

edge-back : (edge : EdgeMode) → edge_in (edge_word edge) ≡ edge
edge-back Duplicate = refl
edge-back Cyclic = refl
edge-back Pad = refl

abbrev settings_words : CallSettings → List (List ℕ)
settings_words settings =
    mode_word settings.mode ∷ decimal settings.overlap.0 ∷ decimal settings.overlap.1 ∷ edge_word settings.edge
    ∷ signed_decimal settings.pad ∷ or_absent signed_decimal settings.start ∷ []

settings-free : (settings : CallSettings) → AreSettings settings → list_all (list_all no_colon) (settings_words settings) ≡ true
settings-free settings fit =
    and_from _ _ (mode-free settings.mode) (and_from _ _ (number-free settings.overlap.0 fit.rows) (and_from _ _ (number-free settings.overlap.1 fit.columns)
    (and_from _ _ (edge-free settings.edge) (and_from _ _ (cell-free settings.pad fit.pad) (and_from _ _ (start-free settings.start fit.start) refl)))))

abbrev made : CallMode → ℕ → ℕ → EdgeMode → ℤ → Option ℤ → CallSettings
made mode rows columns edge pad start = record { mode = mode; overlap = (rows, columns); edge = edge; pad = pad; start = start }

made-same : (m n : CallMode) (r s c d : ℕ) (e f : EdgeMode) (p q : ℤ) (x y : Option ℤ) → m ≡ n → r ≡ s → c ≡ d → e ≡ f → p ≡ q → x ≡ y
    → made m r c e p x ≡ made n s d f q y
made-same m n r s c d e f p q x y mode rows columns edge pad start = cc

settings-words-back : (settings : CallSettings) → AreSettings settings → settings_of (settings_words settings) ≡ settings
settings-words-back settings fit =
    made-same (mode_in (mode_word settings.mode)) settings.mode (narrow_in (decimal settings.overlap.0)) settings.overlap.0
    (narrow_in (decimal settings.overlap.1)) settings.overlap.1 (edge_in (edge_word settings.edge)) settings.edge
    (cell_in (signed_decimal settings.pad)) settings.pad (option_in cell_in (or_absent signed_decimal settings.start)) settings.start
    (mode-back settings.mode) (narrow_in-decimal settings.overlap.0 fit.rows) (narrow_in-decimal settings.overlap.1 fit.columns)
    (edge-back settings.edge) (cell_in-decimal settings.pad fit.pad)
    (option-back signed_decimal cell_in IsCell cell_in-decimal signed-value settings.start fit.start)

pub settings-back : (settings : CallSettings) → AreSettings settings → settings_in (settings_word settings) ≡ settings
settings-back settings fit =
    let free = each-free no_colon 58 refl (settings_words settings) (settings-free settings fit) in
    let rest = decimal settings.overlap.0 ∷ decimal settings.overlap.1 ∷ edge_word settings.edge ∷ signed_decimal settings.pad
    ∷ or_absent signed_decimal settings.start ∷ [] in
    ap (λ words. settings_of (take 11 words)) (joined_by-split 58 (mode_word settings.mode) rest free) ∙ settings-words-back settings fit
