-- Whole numbers, read byte by byte.
use Rattle.std.proofs.Common.{◌≡◌, ℕ, zero, suc, ◌+◌, ◌-◌, ◌*◌, ◌^◌, ◌<◌, ◌≤◌, ◌++◌, ◌∷◌, [], List, Bool, true, false, ◌&&◌, length, min, refl, sym, ap, ◌∙◌, arith, append_assoc, inl, inr, subst}
use Rattle.std.proofs.lemmas.Bool.{and_from, and_parts, cases_Bool, ne_eqb}
use Rattle.std.proofs.lemmas.Bool.Decides.{nat_tests}
use Rattle.std.proofs.lemmas.Int.Digits.{digits_value_push}
use Rattle.std.proofs.lemmas.List.{append-nil, length-append}
use Rattle.std.specs.Char.{is_ascii_digit}
use Rattle.std.specs.Prelude.{◌==◌, ◌⊎◌, pos, neg_ℤ, Some, None, nat_lt, nat_le, option_map, option_and_then, if◌then◌else◌}
use Rattle.std.specs.Str.{all_ascii_digits}
use Rattle.std.specs.Str.Parse.{digits_value}
use Rattle.sk_data.specs.Decimals.{is_within, minus, natural_of, whole_number_of, whole_number_within}
use Rattle.sk_data.specs.Spelt.{IsNumeral, IsReadAs}
use Rattle.sk_data.specs.declared.number.Number.{Number}
use Rattle.sk_data.specs.declared.number.Number.TheVariants.{Empty, Minus, Positive, Negative, Refused}
use Rattle.sk_data.proofs.Digits.{capped_more, digit_value-digit, natural_of-digits}
use Rattle.sk_data.proofs.NumbersBack.{digit_range}

-- a byte that is no digit
not_all : (before : List ℕ) (c : ℕ) (more : List ℕ) → is_ascii_digit c ≡ false → all_ascii_digits (before ++ c ∷ more) ≡ false
not_all [] c more other = ap (λ (b : Bool). b && all_ascii_digits more) other
not_all (d ∷ before) c more other = elim (cases_Bool (is_ascii_digit d)) [
  | inl here ↦ rw here (not_all before c more other)
  | inr not_here ↦ ap (λ (b : Bool). b && all_ascii_digits (before ++ c ∷ more)) not_here
]

no_natural_with : (before : List ℕ) (c : ℕ) (more : List ℕ) → is_ascii_digit c ≡ false → natural_of (before ++ c ∷ more) ≡ None
no_natural_with [] c more other =
    ap (λ (b : Bool). if b then Some (digits_value 10 (c ∷ more)) else None) (not_all [] c more other)
no_natural_with (d ∷ before) c more other =
    ap (λ (b : Bool). if b then Some (digits_value 10 (d ∷ before ++ c ∷ more)) else None) (not_all (d ∷ before) c more other)

digit_no_minus : (d : ℕ) → is_ascii_digit d ≡ true → (d == minus) ≡ false
digit_no_minus d is = let range = digit_range d is in ne_eqb d minus (λ same. omega (arith, range.0, same))

-- a number whose first byte is no minus
plain_number : (d : ℕ) (rest : List ℕ) → (d == minus) ≡ false → whole_number_of (d ∷ rest) ≡ option_map pos (natural_of (d ∷ rest))
plain_number d rest other =
    ap (λ (t : Bool). if t then option_map (λ number. neg_ℤ (pos number)) (natural_of rest) else option_map pos (natural_of (d ∷ rest))) other

whole_digits : (digits : List ℕ) → 0 < length digits → all_ascii_digits digits ≡ true → whole_number_of digits ≡ Some (pos (digits_value 10 digits))
whole_digits [] some all = absurd (omega arith)
whole_digits (d ∷ digits) some all =
    let first = (and_parts (is_ascii_digit d) (all_ascii_digits digits) all).0 in
    plain_number d digits (digit_no_minus d first) ∙ ap (option_map pos) (natural_of-digits (d ∷ digits) some all)

-- the values within a bound
positive_within : (bound m v : ℕ) → m ≡ min v (2 ^ 64 - 1) → bound ≤ 2 ^ 63
    → (if nat_lt m bound then Some (pos m) else None) ≡ (if nat_lt v bound then Some (pos v) else None)
positive_within bound m v is small = elim (cases_Bool (nat_lt v bound)) [
  | inl below ↦
      let less : v < bound = grind (arith, nat_tests) in
      let same : m ≡ v = omega (arith, is, less, small) in
      rw (same, below) refl
  | inr past ↦
      let more : bound ≤ v = grind (arith, nat_tests) in
      let over : bound ≤ m = omega (arith, is, more, small) in
      let tested : nat_lt m bound ≡ false = grind (arith, nat_tests) in
      rw (tested, past) refl
]

negative_within : (bound m v : ℕ) → m ≡ min v (2 ^ 64 - 1) → 0 < bound → bound ≤ 2 ^ 63
    → (if nat_le m bound then Some (neg_ℤ (pos m)) else None) ≡ (if is_within bound (neg_ℤ (pos v)) then Some (neg_ℤ (pos v)) else None)
negative_within bound m zero is some small =
    let same : m ≡ 0 = omega (arith, is) in
    let low : nat_le m bound ≡ true = grind (arith, nat_tests) in
    let tested : nat_lt 0 bound ≡ true = grind (arith, nat_tests) in
    ap (λ (t : Bool). if t then Some (neg_ℤ (pos m)) else None) low ∙ ap (λ n. Some (neg_ℤ (pos n))) same
    ∙ sym (ap (λ (t : Bool). if t then Some (neg_ℤ (pos 0)) else None) tested)
negative_within bound m (suc k) is some small = elim (cases_Bool (nat_lt k bound)) [
  | inl below ↦
      let less : k < bound = grind (arith, nat_tests) in
      let same : m ≡ suc k = omega (arith, is, less, small) in
      let low : nat_le m bound ≡ true = grind (arith, nat_tests) in
      ap (λ (t : Bool). if t then Some (neg_ℤ (pos m)) else None) low ∙ ap (λ n. Some (neg_ℤ (pos n))) same
      ∙ sym (ap (λ (t : Bool). if t then Some (neg_ℤ (pos (suc k))) else None) below)
  | inr past ↦
      let more : bound ≤ k = grind (arith, nat_tests) in
      let over : bound < m = omega (arith, is, more, small) in
      let high : nat_le m bound ≡ false = grind (arith, nat_tests) in
      ap (λ (t : Bool). if t then Some (neg_ℤ (pos m)) else None) high
      ∙ sym (ap (λ (t : Bool). if t then Some (neg_ℤ (pos (suc k))) else None) past)
]

pub positive_read : (bound m : ℕ) (bytes : List ℕ) → bound ≤ 2 ^ 63 → IsNumeral bytes m
    → (if nat_lt m bound then Some (pos m) else None) ≡ whole_number_within bound bytes
positive_read bound m bytes small read =
    positive_within bound m (digits_value 10 bytes) read.capped small
    ∙ sym (ap (option_and_then (λ number. if is_within bound number then Some number else None)) (whole_digits bytes read.some read.digits))

pub negative_read : (bound m : ℕ) (bytes : List ℕ) → 0 < bound → bound ≤ 2 ^ 63 → ((digits : List ℕ) × (bytes ≡ minus ∷ digits) × IsNumeral digits m)
    → (if nat_le m bound then Some (neg_ℤ (pos m)) else None) ≡ whole_number_within bound bytes
negative_read bound m bytes some small read =
    let digits = read.0 in
    let numeral = read.2 in
    let is : whole_number_of (minus ∷ digits) ≡ Some (neg_ℤ (pos (digits_value 10 digits))) =
    ap (option_map (λ number. neg_ℤ (pos number))) (natural_of-digits digits numeral.some numeral.digits) in
    negative_within bound m (digits_value 10 digits) numeral.capped some small
    ∙ sym (ap (whole_number_within bound) read.1
    ∙ ap (option_and_then (λ number. if is_within bound number then Some number else None)) is)

pub empty_read : (bound : ℕ) (bytes : List ℕ) → bytes ≡ [] → None ≡ whole_number_within bound bytes
empty_read bound bytes is = rw is refl

pub minus_read : (bound : ℕ) (bytes : List ℕ) → bytes ≡ minus ∷ [] → None ≡ whole_number_within bound bytes
minus_read bound bytes is = rw is refl

pub refused_read : (bound : ℕ) (bytes : List ℕ) → ((more : List ℕ) → whole_number_of (bytes ++ more) ≡ None) → None ≡ whole_number_within bound bytes
refused_read bound bytes refused =
    let none : whole_number_of bytes ≡ None = ap whole_number_of (sym (append-nil bytes)) ∙ refused [] in
    sym (ap (option_and_then (λ number. if is_within bound number then Some number else None)) none)

-- bytes that are no number yet, or none at all
pub none_read : (number : Number) (bound : ℕ) (bytes : List ℕ) → (number ≡ Empty) ⊎ ((number ≡ Minus) ⊎ (number ≡ Refused)) → IsReadAs number bytes
    → None ≡ whole_number_within bound bytes
none_read number bound bytes (inl is) read = empty_read bound bytes (subst (λ n. IsReadAs n bytes) is read)
none_read number bound bytes (inr (inl is)) read = minus_read bound bytes (subst (λ n. IsReadAs n bytes) is read)
none_read number bound bytes (inr (inr is)) read = refused_read bound bytes (subst (λ n. IsReadAs n bytes) is read)

-- one digit more
digits_push : (digits : List ℕ) (d : ℕ) → all_ascii_digits digits ≡ true → is_ascii_digit d ≡ true → all_ascii_digits (digits ++ d ∷ []) ≡ true
digits_push [] d all is = and_from (is_ascii_digit d) true is refl
digits_push (c ∷ digits) d all is =
    let parts = and_parts (is_ascii_digit c) (all_ascii_digits digits) all in
    and_from (is_ascii_digit c) (all_ascii_digits (digits ++ d ∷ [])) parts.0 (digits_push digits d parts.1 is)

value_push : (digits : List ℕ) (d : ℕ) → is_ascii_digit d ≡ true → digits_value 10 (digits ++ d ∷ []) ≡ digits_value 10 digits * 10 + (d - 48)
value_push digits d is = digits_value_push 10 digits d ∙ ap (λ n. digits_value 10 digits * 10 + n) (digit_value-digit d is)

pub digit_more : (digits : List ℕ) (value d next : ℕ) → is_ascii_digit d ≡ true → IsNumeral digits value
    → next ≡ min (min (value * 10) (2 ^ 64 - 1) + (d - 48)) (2 ^ 64 - 1) → IsNumeral (digits ++ d ∷ []) next
digit_more digits value d next is read added = record {
  some = let longer = length-append digits (d ∷ []) in omega (arith, longer);
  digits = digits_push digits d read.digits is;
  capped = rw (added, read.capped, value_push digits d is) (capped_more (digits_value 10 digits) (d - 48) 0);
}

pub digit_first : (d next : ℕ) → is_ascii_digit d ≡ true → next ≡ min (min (0 * 10) (2 ^ 64 - 1) + (d - 48)) (2 ^ 64 - 1)
    → IsNumeral (d ∷ []) next
digit_first d next is added = record {
  some = omega arith;
  digits = and_from (is_ascii_digit d) true is refl;
  capped = added ∙ sym (ap (λ n. min n (2 ^ 64 - 1)) (value_push [] d is));
}

-- what a digit makes of the bytes so far
pub first_positive : (bytes : List ℕ) (d next : ℕ) → is_ascii_digit d ≡ true → next ≡ min (min (0 * 10) (2 ^ 64 - 1) + (d - 48)) (2 ^ 64 - 1)
    → bytes ≡ [] → IsNumeral (bytes ++ d ∷ []) next
first_positive bytes d next is added empty = rw empty (digit_first d next is added)

pub first_negative : (bytes : List ℕ) (d next : ℕ) → is_ascii_digit d ≡ true → next ≡ min (min (0 * 10) (2 ^ 64 - 1) + (d - 48)) (2 ^ 64 - 1)
    → bytes ≡ minus ∷ [] → IsReadAs (Negative next) (bytes ++ d ∷ [])
first_negative bytes d next is added begun = (d ∷ [], ap (λ xs. xs ++ d ∷ []) begun, digit_first d next is added)

pub next_negative : (bytes : List ℕ) (value d next : ℕ) → is_ascii_digit d ≡ true
    → next ≡ min (min (value * 10) (2 ^ 64 - 1) + (d - 48)) (2 ^ 64 - 1) → IsReadAs (Negative value) bytes → IsReadAs (Negative next) (bytes ++ d ∷ [])
next_negative bytes value d next is added read =
    (read.0 ++ d ∷ [], ap (λ xs. xs ++ d ∷ []) read.1, digit_more read.0 value d next is read.2 added)

pub still_refused : (bytes : List ℕ) (c : ℕ) → IsReadAs Refused bytes → IsReadAs Refused (bytes ++ c ∷ [])
still_refused bytes c refused = λ more. ap whole_number_of (append_assoc bytes (c ∷ []) more) ∙ refused (c ∷ more)

-- a byte that is no digit, and no minus in front
pub begins_none : (c : ℕ) → is_ascii_digit c ≡ false → (c == minus) ≡ false → IsReadAs Refused (c ∷ [])
begins_none c other not_minus = λ more. plain_number c more not_minus ∙ ap (option_map pos) (no_natural_with [] c more other)

positive_refuses : (digits : List ℕ) (c : ℕ) (more : List ℕ) → 0 < length digits → all_ascii_digits digits ≡ true → is_ascii_digit c ≡ false
    → whole_number_of (digits ++ c ∷ more) ≡ None
positive_refuses [] c more some all other = absurd (omega arith)
positive_refuses (d ∷ digits) c more some all other =
    let first = (and_parts (is_ascii_digit d) (all_ascii_digits digits) all).0 in
    plain_number d (digits ++ c ∷ more) (digit_no_minus d first) ∙ ap (option_map pos) (no_natural_with (d ∷ digits) c more other)

negative_refuses : (digits : List ℕ) (c : ℕ) (more : List ℕ) → is_ascii_digit c ≡ false → whole_number_of (minus ∷ digits ++ c ∷ more) ≡ None
negative_refuses digits c more other = ap (option_map (λ number. neg_ℤ (pos number))) (no_natural_with digits c more other)

-- anything but a digit behind a minus or a digit
pub other_refuses : (number : Number) (bytes : List ℕ) (c : ℕ) → (number ≡ Empty → ⊥) → is_ascii_digit c ≡ false → IsReadAs number bytes
    → IsReadAs Refused (bytes ++ c ∷ [])
other_refuses Empty bytes c some other read = absurd (some refl)
other_refuses Minus bytes c some other read = λ more.
    ap whole_number_of (append_assoc bytes (c ∷ []) more) ∙ ap (λ xs. whole_number_of (xs ++ c ∷ more)) read ∙ negative_refuses [] c more other
other_refuses (Positive value) bytes c some other read = λ more.
    ap whole_number_of (append_assoc bytes (c ∷ []) more) ∙ positive_refuses bytes c more read.some read.digits other
other_refuses (Negative value) bytes c some other read = λ more.
    ap whole_number_of (append_assoc bytes (c ∷ []) more) ∙ ap (λ xs. whole_number_of (xs ++ c ∷ more)) read.1 ∙ negative_refuses read.0 c more other
other_refuses Refused bytes c some other read = still_refused bytes c read
