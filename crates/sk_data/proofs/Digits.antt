-- Digits read one after another, and the numbers that they write.
use Rattle.std.proofs.Common.{inl, inr, ◌≡◌, ℕ, zero, suc, ◌+◌, ◌-◌, ◌*◌, ◌^◌, ◌<◌, Bool, true, false, ◌&&◌, List, [], ◌∷◌, length, take, get_or, min, refl, ap, arith, add-one}
use Rattle.std.specs.Prelude.{Some, None, if◌then◌else◌}
use Rattle.std.specs.Char.{digit_value, is_ascii_digit}
use Rattle.std.specs.Str.{all_ascii_digits}
use Rattle.std.specs.Str.Parse.{digits_value}
use Rattle.std.proofs.lemmas.Bool.{and_parts, and_from, cases_Bool}
use Rattle.std.proofs.lemmas.Bool.Decides.{nat_tests}
use Rattle.std.proofs.lemmas.Int.Digits.{digits_value_more}
use Rattle.sk_data.specs.Decimals.{natural_of}

-- the first bytes of a text are digits, and this is their value, or the greatest of 64 bits for a greater one
pub record IsRead (text : List ℕ) (count value : ℕ) : Type 0 where
  pub digits : all_ascii_digits (take count text) ≡ true
  pub capped : value ≡ min (digits_value 10 (take count text)) (2 ^ 64 - 1)

pub digit_value-digit : (c : ℕ) → is_ascii_digit c ≡ true → digit_value c ≡ c - 48
digit_value-digit c is = grind (arith, nat_tests)

digits-take_more : (text : List ℕ) (i : ℕ) → i < length text → all_ascii_digits (take i text) ≡ true
    → is_ascii_digit (get_or text i 0) ≡ true → all_ascii_digits (take (suc i) text) ≡ true
digits-take_more [] i below so_far is = absurd (omega arith)
digits-take_more (c ∷ cs) zero below so_far is = and_from (is_ascii_digit c) true is refl
digits-take_more (c ∷ cs) (suc i) below so_far is =
    let parts = and_parts (is_ascii_digit c) (all_ascii_digits (take i cs)) so_far in
    and_from (is_ascii_digit c) (all_ascii_digits (take (suc i) cs)) parts.0 (digits-take_more cs i (omega arith) parts.1 is)

-- a cap on the number so far does not show in the capped number after it
pub capped_more : (n d k : ℕ) → min (min (min n (2 ^ 64 - 1) * 10) (2 ^ 64 - 1) + d) (2 ^ 64 - 1) ≡ min (n * 10 + d) (2 ^ 64 - 1)
capped_more n d k = omega arith

-- one digit more
pub read_more : (text : List ℕ) (i value shifted digit next : ℕ) → i < length text → IsRead text i value
    → is_ascii_digit (get_or text i 0) ≡ true
    → shifted ≡ min (value * 10) (2 ^ 64 - 1) → digit ≡ get_or text i 0 - 48 → next ≡ min (shifted + digit) (2 ^ 64 - 1)
    → IsRead text (i + 1) next
read_more text i value shifted digit next below read is by_ten byte added = record {
  digits = rw add-one (digits-take_more text i below read.digits is);
  capped =
      let more = digits_value_more 10 text i below in
      let last = digit_value-digit (get_or text i 0) is in
      rw (added, by_ten, byte, read.capped, more, last) (capped_more (digits_value 10 (take i text)) (get_or text i 0 - 48) 0);
}

-- a byte that is no digit
not_digits : (text : List ℕ) (i : ℕ) → i < length text → is_ascii_digit (get_or text i 0) ≡ false → all_ascii_digits text ≡ false
not_digits [] i below is = absurd (omega arith)
not_digits (c ∷ cs) zero below is = ap (λ (b : Bool). b && all_ascii_digits cs) is
not_digits (c ∷ cs) (suc i) below is = elim (cases_Bool (is_ascii_digit c)) [
  | inl here ↦ rw here (not_digits cs i (omega arith) is)
  | inr other ↦ ap (λ (b : Bool). b && all_ascii_digits cs) other
]

pub no_natural : (text : List ℕ) (i : ℕ) → i < length text → is_ascii_digit (get_or text i 0) ≡ false → natural_of text ≡ None
no_natural [] i below is = refl
no_natural (c ∷ cs) i below is =
    ap (λ (b : Bool). if b then Some (digits_value 10 (c ∷ cs)) else None) (not_digits (c ∷ cs) i below is)

pub natural_of-digits : (text : List ℕ) → 0 < length text → all_ascii_digits text ≡ true → natural_of text ≡ Some (digits_value 10 text)
natural_of-digits [] some digits = absurd (omega arith)
natural_of-digits (c ∷ cs) some digits = ap (λ (b : Bool). if b then Some (digits_value 10 (c ∷ cs)) else None) digits
