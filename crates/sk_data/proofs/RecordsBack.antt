-- The records of a dump are those of its containers.
use Rattle.std.proofs.Common.{◌≡◌, ℕ, suc, ◌<◌, ◌≤◌, ◌^◌, Bool, true, false, ◌&&◌, List, [], ◌∷◌, ◌++◌, map, refl, sym, ◌∙◌, ap, arith, append_assoc}
use Rattle.std.specs.Prelude.{◌||◌, ◌==◌, not, nat_lt, ℤ, pos, negsuc, decimal, All, FitsSigned, ⊤}
use Rattle.std.specs.Char.{is_ascii_digit}
use Rattle.std.specs.Fmt.{signed_decimal}
use Rattle.std.specs.Int.{w64}
use Rattle.std.specs.List.{AllZip, join_with_byte, list_all, list_any}
use Rattle.std.specs.Str.{all_ascii_digits}
use Rattle.std.proofs.lemmas.Bool.{and_parts, ne_eqb}
use borrow.Author.Tests.{ltb-true}
use Rattle.std.proofs.lemmas.List.{append-nil}
use Rattle.std.proofs.lemmas.List.Elements.{All-head, All-tail}
use Rattle.std.proofs.lemmas.List.Folds.{list_any-append}
use Rattle.csv.specs.Machine.{next_record}
use Rattle.csv.specs.Reading.{strip_bom}
use Rattle.csv.specs.Writing.{default_writer, field_text, fields_text, is_blank, needs_byte, row_text}
use Rattle.csv.specs.declared.parser.State.TheVariants as st
use Rattle.csv.proofs.RoundTrip.{read-write}
use Rattle.sk_base.specs.Arithmetic.{InRange}
use Rattle.sk_base.specs.ArithmeticLaws.{InRange-Long}
use Rattle.sk_base.specs.declared.number.Ty.{Ty}
use Rattle.sk_tree.specs.declared.declared.Declared.{Declared}
use Rattle.sk_data.specs.Reading.{records_between}
use Rattle.sk_data.specs.ReadsBack.{IsDeclaredAs, is_plain}
use Rattle.sk_data.specs.Records.{Record, dumped_text, records_of}
use Rattle.sk_data.specs.Sizes.{letter_x, shape_text}
use Rattle.sk_data.specs.declared.given.Dumped.{Dumped}
use Rattle.sk_data.proofs.NumbersBack.{decimal_digits, digit_range}
use Rattle.sk_data.proofs.ReadingOn.{records_some, records_none}

-- the fields of a container's record
abbrev pub fields_from : Dumped → Record
fields_from container = container.name ∷ shape_text container.shape ∷ map signed_decimal container.cells

needs_no : (b : ℕ) → (b == 44) ≡ false → (b == 34) ≡ false → (b == 13) ≡ false → (b == 10) ≡ false → needs_byte default_writer b ≡ false
needs_no b comma quote cr lf = rw (comma, quote, cr, lf) refl

digits_need_none : (text : List ℕ) → all_ascii_digits text ≡ true → list_any (needs_byte default_writer) text ≡ false
digits_need_none [] digits = refl
digits_need_none (c ∷ cs) digits =
    let parts = and_parts (is_ascii_digit c) (all_ascii_digits cs) digits in
    let range = digit_range c parts.0 in
    let none = needs_no c (ne_eqb c 44 (λ e. absurd (omega (arith, range.0, e)))) (ne_eqb c 34 (λ e. absurd (omega (arith, range.0, e))))
    (ne_eqb c 13 (λ e. absurd (omega (arith, range.0, e)))) (ne_eqb c 10 (λ e. absurd (omega (arith, range.0, e)))) in
    ap (λ (b : Bool). b || list_any (needs_byte default_writer) cs) none ∙ digits_need_none cs parts.1

decimal_needs_none : (n : ℕ) → n < 2 ^ 64 → list_any (needs_byte default_writer) (decimal n) ≡ false
decimal_needs_none n small = digits_need_none (decimal n) (decimal_digits n small)

signed_needs_none : (z : ℤ) → FitsSigned w64 z → list_any (needs_byte default_writer) (signed_decimal z) ≡ false
signed_needs_none (pos n) fits = decimal_needs_none n (omega (arith, fits.sfits))
signed_needs_none (negsuc n) fits = decimal_needs_none (suc n) (omega (arith, fits.sfits))

shape_needs_none : (sizes : List ℕ) → All (λ s. s ≤ 2 ^ 24) sizes → list_any (needs_byte default_writer) (shape_text sizes) ≡ false
shape_needs_none [] all = refl
shape_needs_none (size ∷ []) all = decimal_needs_none size (omega (arith, All-head (λ s. s ≤ 2 ^ 24) size [] all))
shape_needs_none (size ∷ next ∷ sizes) all =
    list_any-append (needs_byte default_writer) (decimal size) (letter_x ∷ shape_text (next ∷ sizes))
    ∙ ap (λ (b : Bool). b || list_any (needs_byte default_writer) (shape_text (next ∷ sizes))) (decimal_needs_none size (omega (arith, All-head (λ s. s ≤ 2 ^ 24) size (next ∷ sizes) all)))
    ∙ shape_needs_none (next ∷ sizes) (All-tail (λ s. s ≤ 2 ^ 24) size (next ∷ sizes) all)

not_from : (b : Bool) → not b ≡ true → b ≡ false
not_from true e = cc
not_from false e = refl

plain_parts : (b : ℕ) → is_plain b ≡ true → (b < 128) × (needs_byte default_writer b ≡ false)
plain_parts b plain =
    let lf = and_parts (nat_lt b 128 && not (b == 44) && not (b == 34) && not (b == 13)) (not (b == 10)) plain in
    let cr = and_parts (nat_lt b 128 && not (b == 44) && not (b == 34)) (not (b == 13)) lf.0 in
    let quote = and_parts (nat_lt b 128 && not (b == 44)) (not (b == 34)) cr.0 in
    let comma = and_parts (nat_lt b 128) (not (b == 44)) quote.0 in
    (ltb-true b 128 comma.0, needs_no b (not_from (b == 44) comma.1) (not_from (b == 34) quote.1) (not_from (b == 13) cr.1) (not_from (b == 10) lf.1))

name_needs_none : (name : List ℕ) → list_all is_plain name ≡ true → list_any (needs_byte default_writer) name ≡ false
name_needs_none [] plain = refl
name_needs_none (b ∷ bs) plain =
    let parts = and_parts (is_plain b) (list_all is_plain bs) plain in
    ap (λ (t : Bool). t || list_any (needs_byte default_writer) bs) (plain_parts b parts.0).1 ∙ name_needs_none bs parts.1

-- fields without a byte that is set apart stand as they are, with commas between them
abbrev NeedNone : List (List ℕ) → Type 0
NeedNone [] = ⊤
NeedNone (field ∷ fields) = (list_any (needs_byte default_writer) field ≡ false) × NeedNone fields

cells_need_none : (ty : Ty) (cells : List ℤ) → All (λ cell. InRange ty cell) cells → NeedNone (map signed_decimal cells)
cells_need_none ty [] all = tt
cells_need_none ty (z ∷ cells) all = (
  signed_needs_none z (InRange-Long ty z (All-head (λ cell. InRange ty cell) z cells all)),
  cells_need_none ty cells (All-tail (λ cell. InRange ty cell) z cells all),
)

as_it_is : (field : List ℕ) → list_any (needs_byte default_writer) field ≡ false → field_text default_writer field ≡ field
as_it_is field none = rw none refl

with_commas : (field : List ℕ) (fields : List (List ℕ)) → NeedNone fields → join_with_byte 44 (field ∷ fields) ≡ field ++ fields_text default_writer fields
unfolding fields_text
with_commas field [] none = sym (append-nil field)
with_commas field (next ∷ fields) none =
    ap (λ (t : List ℕ). field ++ (44 ∷ t)) (with_commas next fields none.1 ∙ ap (λ (t : List ℕ). t ++ fields_text default_writer fields) (sym (as_it_is next none.0)))

row_as_it_is : (name shape : List ℕ) (values : List (List ℕ)) → NeedNone (name ∷ shape ∷ values)
    → join_with_byte 44 (name ∷ shape ∷ values) ++ 10 ∷ [] ≡ row_text default_writer (name ∷ shape ∷ values)
unfolding is_blank
row_as_it_is name shape values none =
    ap (λ (t : List ℕ). t ++ 10 ∷ []) (with_commas name (shape ∷ values) none.1 ∙ ap (λ (t : List ℕ). t ++ fields_text default_writer (shape ∷ values)) (sym (as_it_is name none.0)))

-- a text that begins with a plain name has no byte order mark
no_mark : (a : ℕ) (rest : List ℕ) → a < 128 → strip_bom (a ∷ rest) ≡ a ∷ rest
unfolding strip_bom
no_mark a [] small = refl
no_mark a (b ∷ []) small = refl
no_mark a (b ∷ c ∷ rest) small =
    let other : (a == 239) ≡ false = ne_eqb a 239 (λ e. absurd (omega (arith, small, e))) in rw other refl

unmarked : (name tail : List ℕ) → list_all is_plain name ≡ true → strip_bom (name ++ 44 ∷ tail) ≡ name ++ 44 ∷ tail
unmarked [] tail plain = no_mark 44 tail (omega arith)
unmarked (b ∷ bs) tail plain =
    let parts = and_parts (is_plain b) (list_all is_plain bs) plain in no_mark b (bs ++ 44 ∷ tail) (plain_parts b parts.0).0

record_needs_none : (container : Dumped) (input : Declared) → IsDeclaredAs container input → NeedNone (fields_from container)
record_needs_none container input is = (
  name_needs_none container.name is.plain,
  (shape_needs_none container.shape is.is_shape.each, cells_need_none input.ty container.cells is.in_range),
)

-- the records of a dump, from its front
records_between-dump : (containers : List Dumped) (declared : List Declared) → AllZip IsDeclaredAs containers declared
    → records_between st.StartRecord (dumped_text containers) ≡ map fields_from containers
unfolding next_record
records_between-dump [] declared all = records_none st.StartRecord [] refl
records_between-dump (container ∷ containers) [] all = absurd all
records_between-dump (container ∷ containers) (input ∷ declared) all =
    let row = row_as_it_is container.name (shape_text container.shape) (map signed_decimal container.cells) (record_needs_none container input all.0) in
    let read = read-write (fields_from container) (dumped_text containers) in
    let text : dumped_text (container ∷ containers) ≡ row_text default_writer (fields_from container) ++ dumped_text containers = ap (λ (t : List ℕ). t ++ dumped_text containers) row in
    ap (records_between st.StartRecord) text
    ∙ records_some st.StartRecord (row_text default_writer (fields_from container) ++ dumped_text containers) (fields_from container, st.StartRecord, dumped_text containers) refl read
    ∙ ap (λ rest. fields_from container ∷ rest) (records_between-dump containers declared all.1)

pub records_of-dump : (containers : List Dumped) (declared : List Declared) → AllZip IsDeclaredAs containers declared
    → records_of (dumped_text containers) ≡ map fields_from containers
unfolding strip_bom
records_of-dump [] declared all = records_between-dump [] declared all
records_of-dump (container ∷ containers) [] all = absurd all
records_of-dump (container ∷ containers) (input ∷ declared) all =
    let join = join_with_byte 44 (shape_text container.shape ∷ map signed_decimal container.cells) in
    let tail = (join ++ 10 ∷ []) ++ dumped_text containers in
    let front : dumped_text (container ∷ containers) ≡ container.name ++ 44 ∷ tail =
    ap (λ (t : List ℕ). t ++ dumped_text containers) (append_assoc container.name (44 ∷ join) (10 ∷ []))
    ∙ append_assoc container.name (44 ∷ (join ++ 10 ∷ [])) (dumped_text containers) in
    let unmarked_front = unmarked container.name tail all.0.plain in
    let same : strip_bom (dumped_text (container ∷ containers)) ≡ dumped_text (container ∷ containers) = ap strip_bom front ∙ unmarked_front ∙ sym front in
    ap (records_between st.StartRecord) same ∙ records_between-dump (container ∷ containers) (input ∷ declared) all
