-- Numbers and shapes that are written are read back.
use Rattle.std.proofs.Common.{◌≡◌, ℕ, suc, ◌+◌, ◌^◌, ◌<◌, ◌≤◌, Bool, true, false, List, [], ◌∷◌, length, map, refl, ◌∙◌, ap, arith}
use Rattle.std.specs.Prelude.{Some, None, option_map, option_and_then, ◌==◌, if◌then◌else◌, ℤ, pos, negsuc, neg_ℤ, nat_le, decimal, All, FitsSigned}
use Rattle.std.specs.Int.{w64}
use Rattle.std.specs.Char.{is_ascii_digit}
use Rattle.std.specs.Fmt.{signed_decimal}
use Rattle.std.specs.List.{filter_map, position_from}
use Rattle.std.specs.Str.{all_ascii_digits}
use Rattle.std.specs.Str.Parse.{digits_value}
use Rattle.std.proofs.lemmas.Bool.{and_parts, ne_eqb, eq-eqb, leb-true, le-leb, lt-ltb, cond-true}
use Rattle.std.proofs.lemmas.Fmt.{digits_decimal, digits_value-decimal, decimal_nonempty, length-decimal-le}
use Rattle.std.proofs.lemmas.List.Elements.{All-nil, All-cons, All-head, All-tail}
use Rattle.std.proofs.lemmas.List.Splits.{slice_split_none, slice_split_at}
use Rattle.std.proofs.lemmas.Str.Parse.{numerals_by_value, tells_all_ascii_digits, IsNumeralModel}
use Rattle.sk_base.specs.Arithmetic.{InRange}
use Rattle.sk_base.specs.ArithmeticLaws.{InRange-Long}
use Rattle.sk_base.specs.Shape.{IsShape, shape_of}
use Rattle.sk_base.specs.ShapeLaws.{shape_of-pos}
use Rattle.sk_base.specs.declared.number.Ty.{Ty}
use Rattle.sk_base.specs.declared.number.Ty.TheVariants.{Int, Long}
use Rattle.sk_data.specs.Decimals.{natural_of, whole_number_of, is_within}
use Rattle.sk_data.specs.Records.{bound_of, value_of}
use Rattle.sk_data.specs.Sizes.{each_some, letter_x, parts_of, shape_in, shape_text, size_of}
use Rattle.sk_data.proofs.Digits.{natural_of-digits}
use Rattle.sk_data.proofs.Fields.{no_value}

own : IsNumeralModel (λ ds. all_ascii_digits ds ≡ true) (digits_value 10)
own = numerals_by_value (λ ds. all_ascii_digits ds ≡ true) tells_all_ascii_digits

pub decimal_digits : (n : ℕ) → n < 2 ^ 64 → all_ascii_digits (decimal n) ≡ true
decimal_digits n small = digits_decimal own n small

pub natural_of-decimal : (n : ℕ) → n < 2 ^ 64 → natural_of (decimal n) ≡ Some n
natural_of-decimal n small =
    natural_of-digits (decimal n) (decimal_nonempty n small) (decimal_digits n small) ∙ ap (λ k. Some k) (digits_value-decimal own n small)

-- the range of a digit
pub digit_range : (c : ℕ) → is_ascii_digit c ≡ true → (48 ≤ c) × (c ≤ 57)
digit_range c is = let parts = and_parts (nat_le 48 c) (nat_le c 57) is in (leb-true 48 c parts.0, leb-true c 57 parts.1)

-- a text of digits begins with no minus
whole_number_of-digits : (text : List ℕ) (number : ℕ) → all_ascii_digits text ≡ true → natural_of text ≡ Some number
    → whole_number_of text ≡ Some (pos number)
whole_number_of-digits [] number digits is = cc
whole_number_of-digits (c ∷ cs) number digits is =
    let parts = and_parts (is_ascii_digit c) (all_ascii_digits cs) digits in
    let range = digit_range c parts.0 in
    let no_minus : (c == 45) ≡ false = ne_eqb c 45 (λ same. absurd (omega (arith, range.0, same))) in
    ap (λ (t : Bool). if t then option_map (λ n. neg_ℤ (pos n)) (natural_of cs) else option_map pos (natural_of (c ∷ cs))) no_minus
    ∙ ap (option_map pos) is

whole_number_of-signed : (z : ℤ) → FitsSigned w64 z → whole_number_of (signed_decimal z) ≡ Some z
whole_number_of-signed (pos n) fits =
    let small : n < 2 ^ 64 = omega (arith, fits.sfits) in
    whole_number_of-digits (decimal n) n (decimal_digits n small) (natural_of-decimal n small)
whole_number_of-signed (negsuc n) fits =
    let small : suc n < 2 ^ 64 = omega (arith, fits.sfits) in
    ap (option_map (λ k. neg_ℤ (pos k))) (natural_of-decimal (suc n) small)

within-range : (ty : Ty) (z : ℤ) → InRange ty z → is_within (bound_of ty) z ≡ true
within-range Int (pos n) fits = lt-ltb n (2 ^ 31) (omega (arith, fits.sfits))
within-range Int (negsuc n) fits = lt-ltb n (2 ^ 31) (omega (arith, fits.sfits))
within-range Long (pos n) fits = lt-ltb n (2 ^ 63) (omega (arith, fits.sfits))
within-range Long (negsuc n) fits = lt-ltb n (2 ^ 63) (omega (arith, fits.sfits))

pub value_of-signed : (ty : Ty) (z : ℤ) → InRange ty z → value_of ty (signed_decimal z) ≡ Some z
value_of-signed ty z fits =
    ap (option_and_then (λ number. if is_within (bound_of ty) number then Some number else None)) (whole_number_of-signed z (InRange-Long ty z fits))
    ∙ cond-true (is_within (bound_of ty) z) (Some z) None (within-range ty z fits)

pub values_back : (ty : Ty) (cells : List ℤ) → All (λ cell. InRange ty cell) cells → filter_map (value_of ty) (map signed_decimal cells) ≡ cells
values_back ty [] all = refl
values_back ty (z ∷ cells) all =
    rw (value_of-signed ty z (All-head (λ cell. InRange ty cell) z cells all)) (ap (λ zs. z ∷ zs) (values_back ty cells (All-tail (λ cell. InRange ty cell) z cells all)))

pub no_fault_back : (ty : Ty) (at : ℕ) (cells : List ℤ) → All (λ cell. InRange ty cell) cells
    → position_from (no_value ty) at (map signed_decimal cells) ≡ None
no_fault_back ty at [] all = refl
no_fault_back ty at (z ∷ cells) all =
    rw (value_of-signed ty z (All-head (λ cell. InRange ty cell) z cells all)) (no_fault_back ty (at + 1) cells (All-tail (λ cell. InRange ty cell) z cells all))

-- digits have no letter x
no_x : (text : List ℕ) → all_ascii_digits text ≡ true → All (λ byte. (byte == letter_x) ≡ false) text
no_x [] digits = All-nil (λ byte. (byte == letter_x) ≡ false)
no_x (c ∷ cs) digits =
    let parts = and_parts (is_ascii_digit c) (all_ascii_digits cs) digits in
    let range = digit_range c parts.0 in
    All-cons (λ byte. (byte == letter_x) ≡ false) c cs (ne_eqb c letter_x (λ same. absurd (omega (arith, range.1, same)))) (no_x cs parts.1)

-- the parts of a text of sizes are the sizes
parts_back : (size : ℕ) (sizes : List ℕ) → All (λ s. s ≤ 2 ^ 24) (size ∷ sizes) → parts_of (shape_text (size ∷ sizes)) ≡ map decimal (size ∷ sizes)
parts_back size [] all =
    let small = All-head (λ s. s ≤ 2 ^ 24) size [] all in
    slice_split_none (λ byte. byte == letter_x) (decimal size) (no_x (decimal size) (decimal_digits size (omega (arith, small))))
parts_back size (next ∷ sizes) all =
    let small = All-head (λ s. s ≤ 2 ^ 24) size (next ∷ sizes) all in
    slice_split_at (λ byte. byte == letter_x) (decimal size) letter_x (shape_text (next ∷ sizes)) (no_x (decimal size) (decimal_digits size (omega (arith, small)))) refl
    ∙ ap (λ parts. decimal size ∷ parts) (parts_back next sizes (All-tail (λ s. s ≤ 2 ^ 24) size (next ∷ sizes) all))

sizes_back : (sizes : List ℕ) → All (λ s. s ≤ 2 ^ 24) sizes → each_some (map size_of (map decimal sizes)) ≡ Some sizes
sizes_back [] all = refl
sizes_back (size ∷ sizes) all =
    let small = All-head (λ s. s ≤ 2 ^ 24) size sizes all in
    let short : length (decimal size) ≤ 8 = length-decimal-le 8 size (omega arith) (omega (arith, small)) (omega (arith, small)) in
    let tested : nat_le (length (decimal size)) 8 ≡ true = le-leb (length (decimal size)) 8 short in
    let read : size_of (decimal size) ≡ Some size = cond-true (nat_le (length (decimal size)) 8) (natural_of (decimal size)) None tested ∙ natural_of-decimal size (omega (arith, small)) in
    let rest = sizes_back sizes (All-tail (λ s. s ≤ 2 ^ 24) size sizes all) in
    rw (read, rest) refl

length-map_decimal : (sizes : List ℕ) → length (map decimal sizes) ≡ length sizes
length-map_decimal [] = refl
length-map_decimal (size ∷ sizes) = ap (λ n. suc n) (length-map_decimal sizes)

-- the shape of a text of a shape
pub shape_back : (shape : List ℕ) → IsShape shape → shape_in (length shape) (shape_text shape) ≡ Some shape
shape_back [] is = absurd (omega (arith, is.some))
shape_back (size ∷ sizes) is =
    let parts = parts_back size sizes is.each in
    let counted : (length (parts_of (shape_text (size ∷ sizes))) == length (size ∷ sizes)) ≡ true =
    eq-eqb (length (parts_of (shape_text (size ∷ sizes)))) (length (size ∷ sizes)) (ap length parts ∙ length-map_decimal (size ∷ sizes)) in
    let read : each_some (map size_of (parts_of (shape_text (size ∷ sizes)))) ≡ Some (size ∷ sizes) = ap (λ ps. each_some (map size_of ps)) parts ∙ sizes_back (size ∷ sizes) is.each in
    cond-true (length (parts_of (shape_text (size ∷ sizes))) == length (size ∷ sizes)) (option_and_then (λ s. shape_of (map pos s)) (each_some (map size_of (parts_of (shape_text (size ∷ sizes)))))) None counted
    ∙ ap (option_and_then (λ s. shape_of (map pos s))) read ∙ shape_of-pos (size ∷ sizes) is
