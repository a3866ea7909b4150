-- The number at the front of a rest that begins with a digit.
use Rattle.std.proofs.Common.{◌≡◌, ◌≢◌, ℕ, zero, suc, ◌+◌, ◌-◌, ◌^◌, ◌<◌, ◌≤◌, inl, inr, min, Bool, true, false, ◌&&◌, ◌||◌, not, List, [], ◌∷◌, length, take, drop, slice_index, pos, refl, ap, subst, sym, ◌∙◌, arith}
use Rattle.std.specs.Prelude.{Option, Some, None, ◌==◌, nat_lt, if◌then◌else◌}
use Rattle.std.specs.List.{list_all, prefix_len}
use Rattle.std.specs.Option.{option_map}
use Rattle.std.proofs.Math.Bool.{and-true}
use Rattle.std.proofs.lemmas.Bool.{cases_Bool, ne_eqb}
use Rattle.std.proofs.lemmas.Bool.Decides.{nat_tests, eqb_tells}
use Rattle.std.proofs.lemmas.List.{length-take-le}
use Rattle.std.proofs.lemmas.List.Sums.{prefix_len-le-length, prefix_len_passes}
use Rattle.sk_base.specs.declared.number.Ty.TheVariants.{Int, Long}
use Rattle.sk_tokens.specs.declared.token.TokenKind.TheVariants.{Number}
use Rattle.sk_tokens.specs.Lexemes.{NumberLexeme, lexeme_of, is_hex_digit, digits_value, after_zero, numeral_of, number_of}
use Rattle.sk_names.specs.Bytes.{is_letter, is_digit, is_word_byte}
use Rattle.sk_tokens.specs.Tokens.{Found, Faulty, NoToken, Wide, judged, token_at, longest_of}
use Rattle.sk_token_laws.specs.Fronts.{is_suffix, IsLongestNumeral}
use Rattle.sk_token_laws.proofs.Longest.{longest_of-found}
use Rattle.sk_token_laws.proofs.Prefixes.{prefix_len-pass, list_all-prefix, list_all-longer}

-- ## What follows a number

list_all-next : (p : ℕ → Bool) → p 0 ≡ false → (rest : List ℕ) (n : ℕ) → list_all (λ byte. not (p byte)) (take 1 (drop n rest)) ≡ not (p (slice_index rest n))
list_all-next p none [] zero = rw none refl
list_all-next p none (x ∷ xs) zero = and-true (not (p x))
list_all-next p none [] (suc n) = rw none refl
list_all-next p none (x ∷ xs) (suc n) = list_all-next p none xs n

pub judged-runs_on : (rest : List ℕ) (n value : ℕ) (suffixed : Bool) → is_word_byte (slice_index rest n) ≡ true → judged n (NumberLexeme value suffixed) (drop n rest) ≡ Faulty NoToken
judged-runs_on rest n value suffixed word = rw (list_all-next is_word_byte refl rest n, word) refl

pub judged-wide : (rest : List ℕ) (n value : ℕ) (suffixed : Bool) → is_word_byte (slice_index rest n) ≡ false → 2 ^ 63 ≤ value → judged n (NumberLexeme value suffixed) (drop n rest) ≡ Faulty Wide
judged-wide rest n value suffixed ends wide =
    let e : nat_lt value (2 ^ 63) ≡ false = grind (arith, nat_tests) in
    rw (list_all-next is_word_byte refl rest n, ends, e) refl

pub judged-number : (rest : List ℕ) (n value : ℕ) (suffixed : Bool) → is_word_byte (slice_index rest n) ≡ false → value < 2 ^ 63 → judged n (NumberLexeme value suffixed) (drop n rest) ≡ Found n (Number (if suffixed || nat_lt 2147483647 value then Long else Int) (pos value))
judged-number rest n value suffixed ends fits =
    let e : nat_lt value (2 ^ 63) ≡ true = grind (arith, nat_tests) in
    rw (list_all-next is_word_byte refl rest n, ends, e) refl

-- a number above 2^63 - 1 is judged alike at any such value
judged-min : (n exact : ℕ) (suffixed : Bool) (after : List ℕ) → judged n (NumberLexeme (min exact (2 ^ 64 - 1)) suffixed) after ≡ judged n (NumberLexeme exact suffixed) after
judged-min n exact suffixed after =
    elim (cases_Bool (nat_lt exact (2 ^ 63))) [
      | inl fits ↦
          let e : min exact (2 ^ 64 - 1) ≡ exact = grind (arith, nat_tests) in
          rw e refl
      | inr wide ↦
          let e : nat_lt (min exact (2 ^ 64 - 1)) (2 ^ 63) ≡ false = grind (arith, nat_tests) in
          rw (wide, e) refl
    ]

-- ## The longest number without a suffix

is_hex_digit-digit : (byte : ℕ) → is_digit byte ≡ true → is_hex_digit byte ≡ true
is_hex_digit-digit byte digit = rw digit refl

prefix_len-some : (p : ℕ → Bool) (xs : List ℕ) → p 0 ≡ false → p (slice_index xs 0) ≡ true → 0 < prefix_len p xs
prefix_len-some p [] none passes = let e : false ≡ true = sym none ∙ passes in cc
prefix_len-some p (x ∷ xs) none passes = omega (arith, prefix_len-pass p x xs passes)

numeral_of-decimal : (first : ℕ) (tail : List ℕ) → (first == 48) ≡ false → list_all is_digit (first ∷ tail) ≡ true → numeral_of (first ∷ tail) ≡ Some (digits_value 10 (first ∷ tail))
numeral_of-decimal first tail nonzero all = rw (nonzero, all) refl

numeral_of-no_decimal : (first : ℕ) (tail : List ℕ) → (first == 48) ≡ false → list_all is_digit (first ∷ tail) ≡ false → numeral_of (first ∷ tail) ≡ None
numeral_of-no_decimal first tail nonzero all = rw (nonzero, all) refl

decimal-front : (first : ℕ) (tail : List ℕ) (value count : ℕ) → first ≢ 48 → prefix_len is_digit (first ∷ tail) ≡ suc count → value ≡ min (digits_value 10 (first ∷ take count tail)) (2 ^ 64 - 1) → IsLongestNumeral (first ∷ tail) (suc count) value
decimal-front first tail value count nonzero counted same =
    let ne = ne_eqb first 48 nonzero in
    let one : suc count - 1 ≡ count = omega arith in
    let within = prefix_len-le-length is_digit (first ∷ tail) in
    let all : list_all is_digit (take (suc count) (first ∷ tail)) ≡ true = subst (λ n. list_all is_digit (take n (first ∷ tail)) ≡ true) counted (list_all-prefix is_digit (first ∷ tail)) in
    record {
      some = omega arith;
      within = omega arith;
      spelled = rw (numeral_of-decimal first (take count tail) ne all) (ap (λ n. Some n) (sym same));
      last = rw one (is_hex_digit-digit (slice_index (first ∷ tail) count) (prefix_len_passes is_digit (first ∷ tail) count 0 (omega arith)));
      longest = longer first tail count ne counted;
    }
  where
    longer : (first : ℕ) (tail : List ℕ) (count : ℕ) → (first == 48) ≡ false → prefix_len is_digit (first ∷ tail) ≡ suc count → (k : ℕ) → suc count < k → k ≤ length (first ∷ tail) → numeral_of (take k (first ∷ tail)) ≡ None
    longer first tail count ne counted zero above under = absurd (omega arith)
    longer first tail count ne counted (suc k) above under =
        numeral_of-no_decimal first (take k tail) ne (list_all-longer is_digit (first ∷ tail) (suc k) (omega arith) under)

pub decimal : (rest : List ℕ) (value : ℕ) → is_digit (slice_index rest 0) ≡ true → slice_index rest 0 ≢ 48 → value ≡ min (digits_value 10 (take (prefix_len is_digit rest) rest)) (2 ^ 64 - 1) → IsLongestNumeral rest (prefix_len is_digit rest) value
decimal [] value digit nonzero same = cc
decimal (first ∷ tail) value digit nonzero same =
    let e = prefix_len-pass is_digit first tail digit in
    let same' = subst (λ n. value ≡ min (digits_value 10 (take n (first ∷ tail))) (2 ^ 64 - 1)) e same in
    subst (λ n. IsLongestNumeral (first ∷ tail) n value) (sym e) (decimal-front first tail value (prefix_len is_digit tail) nonzero e same')

after_zero-hex : (digits : List ℕ) (count : ℕ) → 0 < count → count ≤ length digits → list_all is_hex_digit (take count digits) ≡ true → after_zero (120 ∷ take count digits) ≡ Some (digits_value 16 (take count digits))
after_zero-hex digits zero some within all = absurd (omega arith)
after_zero-hex [] (suc count) some within all = absurd (omega arith)
after_zero-hex (digit ∷ digits) (suc count) some within all = rw all refl

after_zero-no_hex : (digits : List ℕ) (count : ℕ) → 0 < count → count ≤ length digits → list_all is_hex_digit (take count digits) ≡ false → after_zero (120 ∷ take count digits) ≡ None
after_zero-no_hex digits zero some within all = absurd (omega arith)
after_zero-no_hex [] (suc count) some within all = absurd (omega arith)
after_zero-no_hex (digit ∷ digits) (suc count) some within all = rw all refl

hexadecimal-front : (digits : List ℕ) (value count : ℕ) → is_hex_digit (slice_index digits 0) ≡ true → count ≡ prefix_len is_hex_digit digits → value ≡ min (digits_value 16 (take count digits)) (2 ^ 64 - 1) → IsLongestNumeral (48 ∷ 120 ∷ digits) (2 + count) value
hexadecimal-front digits value count digit counted same =
    let within = prefix_len-le-length is_hex_digit digits in
    let some = prefix_len-some is_hex_digit digits refl digit in
    let two : 2 + count ≡ suc (suc count) = omega arith in
    let before : suc (suc count) - 1 ≡ suc (suc (count - 1)) = omega arith in
    let all : list_all is_hex_digit (take count digits) ≡ true = subst (λ n. list_all is_hex_digit (take n digits) ≡ true) (sym counted) (list_all-prefix is_hex_digit digits) in
    subst (λ n. IsLongestNumeral (48 ∷ 120 ∷ digits) n value) (sym two) (record {
      some = omega arith;
      within = omega arith;
      spelled = rw (after_zero-hex digits count (omega arith) (omega arith) all) (ap (λ n. Some n) (sym same));
      last = rw before (prefix_len_passes is_hex_digit digits (count - 1) 0 (omega arith));
      longest = longer digits count counted;
    })
  where
    longer : (digits : List ℕ) (count : ℕ) → count ≡ prefix_len is_hex_digit digits → (k : ℕ) → suc (suc count) < k → k ≤ length (48 ∷ 120 ∷ digits) → numeral_of (take k (48 ∷ 120 ∷ digits)) ≡ None
    longer digits count counted zero above under = absurd (omega arith)
    longer digits count counted (suc zero) above under = absurd (omega arith)
    longer digits count counted (suc (suc k)) above under =
        after_zero-no_hex digits k (omega arith) (omega arith) (list_all-longer is_hex_digit digits k (omega arith) (omega arith))

pub hexadecimal : (rest : List ℕ) (value count : ℕ) → slice_index rest 0 ≡ 48 → slice_index rest 1 ≡ 120 → is_hex_digit (slice_index rest 2) ≡ true → count ≡ prefix_len is_hex_digit (drop 2 rest) → value ≡ min (digits_value 16 (take count (drop 2 rest))) (2 ^ 64 - 1) → IsLongestNumeral rest (2 + count) value
hexadecimal [] value count first second third counted same = absurd (omega arith)
hexadecimal (a ∷ []) value count first second third counted same = absurd (omega arith)
hexadecimal (a ∷ b ∷ digits) value count first second third counted same =
    subst (λ x. IsLongestNumeral (x ∷ b ∷ digits) (2 + count) value) (sym first)
    (subst (λ x. IsLongestNumeral (48 ∷ x ∷ digits) (2 + count) value) (sym second) (hexadecimal-front digits value count third counted same))

zero-front : (tail : List ℕ) → (slice_index tail 0 == 120 && is_hex_digit (slice_index tail 1)) ≡ false → IsLongestNumeral (48 ∷ tail) 1 0
zero-front tail no_hex = record {
  some = omega arith;
  within = omega arith;
  spelled = refl;
  last = refl;
  longest = longer tail no_hex;
}
  where
    longer : (tail : List ℕ) → (slice_index tail 0 == 120 && is_hex_digit (slice_index tail 1)) ≡ false → (k : ℕ) → 1 < k → k ≤ length (48 ∷ tail) → numeral_of (take k (48 ∷ tail)) ≡ None
    longer tail no_hex zero above under = absurd (omega arith)
    longer tail no_hex (suc zero) above under = absurd (omega arith)
    longer [] no_hex (suc (suc k)) above under = absurd (omega arith)
    longer (x ∷ []) no_hex (suc (suc zero)) above under = refl
    longer (x ∷ []) no_hex (suc (suc (suc k))) above under = absurd (omega arith)
    longer (x ∷ y ∷ tail) no_hex (suc (suc zero)) above under = refl
    longer (x ∷ y ∷ tail) no_hex (suc (suc (suc k))) above under =
        elim (cases_Bool (x == 120)) [
          | inl same ↦
              let no_digit : is_hex_digit y ≡ false = rw same at no_hex in
              rw (same, no_digit) refl
          | inr other ↦ rw other refl
        ]

pub zero_numeral : (rest : List ℕ) → slice_index rest 0 ≡ 48 → (slice_index rest 1 == 120 && is_hex_digit (slice_index rest 2)) ≡ false → IsLongestNumeral rest 1 0
zero_numeral [] first no_hex = absurd (omega arith)
zero_numeral (a ∷ tail) first no_hex = subst (λ x. IsLongestNumeral (x ∷ tail) 1 0) (sym first) (zero-front tail no_hex)

-- ## With its suffix

is_suffix-hex_digit : (byte : ℕ) → is_hex_digit byte ≡ true → is_suffix byte ≡ false
is_suffix-hex_digit byte digit =
    elim (eqb_tells byte 76) [
      | inl same ↦ let none : is_hex_digit 76 ≡ true = subst (λ b. is_hex_digit b ≡ true) same.1 digit in cc
      | inr other ↦
          elim (eqb_tells byte 108) [
            | inl same ↦ let none : is_hex_digit 108 ≡ true = subst (λ b. is_hex_digit b ≡ true) same.1 digit in cc
            | inr neither ↦ rw (other.0, neither.0) refl
          ]
    ]

slice_index-take : (rest : List ℕ) (k : ℕ) → suc k ≤ length rest → slice_index (take (suc k) rest) k ≡ slice_index rest k
slice_index-take [] k within = absurd (omega arith)
slice_index-take (x ∷ xs) zero within = refl
slice_index-take (x ∷ xs) (suc k) within = slice_index-take xs k (omega arith)

take-take : (rest : List ℕ) (k : ℕ) → take k (take (suc k) rest) ≡ take k rest
take-take [] k = refl
take-take (x ∷ xs) zero = refl
take-take (x ∷ xs) (suc k) = ap (λ ys. x ∷ ys) (take-take xs k)

number_of-front : (rest : List ℕ) (k : ℕ) → suc k ≤ length rest → number_of (take (suc k) rest) ≡ (if is_suffix (slice_index rest k) then option_map (λ value. NumberLexeme value true) (numeral_of (take k rest)) else option_map (λ value. NumberLexeme value false) (numeral_of (take (suc k) rest)))
number_of-front rest k within =
    let long = length-take-le (suc k) rest within in
    let one : suc k - 1 ≡ k = omega arith in
    rw (number_of, long, one) (rw (slice_index-take rest k within, take-take rest k) refl)

is_letter-digit : (byte : ℕ) → is_digit byte ≡ true → is_letter byte ≡ false
is_letter-digit byte digit = grind (arith, nat_tests)

lexeme_of-number : (rest : List ℕ) → is_digit (slice_index rest 0) ≡ true → (k : ℕ) → lexeme_of (take (suc k) rest) ≡ number_of (take (suc k) rest)
unfolding lexeme_of
lexeme_of-number [] digit k = cc
lexeme_of-number (first ∷ tail) digit k = rw (is_letter-digit first digit, digit) refl

suffix_within : (rest : List ℕ) (n : ℕ) → is_suffix (slice_index rest n) ≡ true → suc n ≤ length rest
suffix_within [] n suffix = cc
suffix_within (x ∷ xs) zero suffix = omega arith
suffix_within (x ∷ xs) (suc n) suffix = omega (arith, suffix_within xs n suffix)

-- no front is a number that ends after the longest one without a suffix and after its suffix
number_of-longer : (rest : List ℕ) (n value : ℕ) → IsLongestNumeral rest n value → (k : ℕ) → n ≤ k → suc k ≤ length rest → (k ≡ n → is_suffix (slice_index rest k) ≡ false) → number_of (take (suc k) rest) ≡ None
number_of-longer rest n value numeral k above under ends =
    let no_further : numeral_of (take (suc k) rest) ≡ None = numeral.longest (suc k) (omega arith) under in
    elim (eqb_tells k n) [
      | inl same ↦ rw (number_of-front rest k under, ends same.1, no_further) refl
      | inr other ↦
          let none : numeral_of (take k rest) ≡ None = numeral.longest k (omega (arith, other.1)) (omega arith) in
          elim (cases_Bool (is_suffix (slice_index rest k))) [
            | inl suffix ↦ rw (number_of-front rest k under, suffix, none) refl
            | inr no_suffix ↦ rw (number_of-front rest k under, no_suffix, no_further) refl
          ]
    ]

longest_of-suffixed : (rest : List ℕ) (n value exact : ℕ) → is_digit (slice_index rest 0) ≡ true → IsLongestNumeral rest n value → numeral_of (take n rest) ≡ Some exact → is_suffix (slice_index rest n) ≡ true → longest_of (length rest) rest ≡ Some (suc n, NumberLexeme exact true)
longest_of-suffixed rest n value exact digit numeral spelled suffix =
    let within = suffix_within rest n suffix in
    let here : lexeme_of (take (suc n) rest) ≡ Some (NumberLexeme exact true) = rw (lexeme_of-number rest digit n, number_of-front rest n within, suffix, spelled) refl in
    longest_of-found (length rest) (suc n) rest (NumberLexeme exact true) (omega arith) within here (longer rest n value digit numeral)
  where
    longer : (rest : List ℕ) (n value : ℕ) → is_digit (slice_index rest 0) ≡ true → IsLongestNumeral rest n value → (k : ℕ) → suc n < k → k ≤ length rest → lexeme_of (take k rest) ≡ None
    longer rest n value digit numeral zero above under = absurd (omega arith)
    longer rest n value digit numeral (suc k) above under =
        lexeme_of-number rest digit k ∙ number_of-longer rest n value numeral k (omega arith) under (λ same. absurd (omega arith))

longest_of-plain : (rest : List ℕ) (n value exact : ℕ) → is_digit (slice_index rest 0) ≡ true → IsLongestNumeral rest (suc n) value → numeral_of (take (suc n) rest) ≡ Some exact → is_suffix (slice_index rest (suc n)) ≡ false → longest_of (length rest) rest ≡ Some (suc n, NumberLexeme exact false)
longest_of-plain rest n value exact digit numeral spelled no_suffix =
    let one : suc n - 1 ≡ n = omega arith in
    let ends : is_suffix (slice_index rest n) ≡ false = is_suffix-hex_digit (slice_index rest n) (rw one at numeral.last) in
    let here : lexeme_of (take (suc n) rest) ≡ Some (NumberLexeme exact false) = rw (lexeme_of-number rest digit n, number_of-front rest n numeral.within, ends, spelled) refl in
    longest_of-found (length rest) (suc n) rest (NumberLexeme exact false) (omega arith) numeral.within here (longer rest n value digit numeral no_suffix)
  where
    longer : (rest : List ℕ) (n value : ℕ) → is_digit (slice_index rest 0) ≡ true → IsLongestNumeral rest (suc n) value → is_suffix (slice_index rest (suc n)) ≡ false → (k : ℕ) → suc n < k → k ≤ length rest → lexeme_of (take k rest) ≡ None
    longer rest n value digit numeral no_suffix zero above under = absurd (omega arith)
    longer rest n value digit numeral no_suffix (suc k) above under =
        lexeme_of-number rest digit k ∙ number_of-longer rest (suc n) value numeral k (omega arith) under (λ same. subst (λ j. is_suffix (slice_index rest j) ≡ false) (sym same) no_suffix)

-- ## The token

option_map-some : (f : ℕ → ℕ) (o : Option ℕ) (y : ℕ) → option_map f o ≡ Some y → (x : ℕ) × (o ≡ Some x) × (f x ≡ y)
option_map-some f None y some = cc
option_map-some f (Some x) y some = (x, refl, cc)

token_at-suffixed_exact : (rest : List ℕ) (n value exact : ℕ) → is_digit (slice_index rest 0) ≡ true → IsLongestNumeral rest n value → is_suffix (slice_index rest n) ≡ true → numeral_of (take n rest) ≡ Some exact → token_at rest ≡ judged (suc n) (NumberLexeme (min exact (2 ^ 64 - 1)) true) (drop (suc n) rest)
unfolding token_at
token_at-suffixed_exact rest n value exact digit numeral suffix spelled =
    rw (longest_of-suffixed rest n value exact digit numeral spelled suffix, token_at) (sym (judged-min (suc n) exact true (drop (suc n) rest)))

token_at-plain_exact : (rest : List ℕ) (n value exact : ℕ) → is_digit (slice_index rest 0) ≡ true → IsLongestNumeral rest (suc n) value → is_suffix (slice_index rest (suc n)) ≡ false → numeral_of (take (suc n) rest) ≡ Some exact → token_at rest ≡ judged (suc n) (NumberLexeme (min exact (2 ^ 64 - 1)) false) (drop (suc n) rest)
unfolding token_at
token_at-plain_exact rest n value exact digit numeral no_suffix spelled =
    rw (longest_of-plain rest n value exact digit numeral spelled no_suffix, token_at) (sym (judged-min (suc n) exact false (drop (suc n) rest)))

pub token_at-suffixed : (rest : List ℕ) (n value : ℕ) → is_digit (slice_index rest 0) ≡ true → IsLongestNumeral rest n value → is_suffix (slice_index rest n) ≡ true → token_at rest ≡ judged (n + 1) (NumberLexeme value true) (drop (n + 1) rest)
token_at-suffixed rest n value digit numeral suffix =
    let exact = option_map-some (λ x. min x (2 ^ 64 - 1)) (numeral_of (take n rest)) value numeral.spelled in
    let e : suc n ≡ n + 1 = omega arith in
    let token = token_at-suffixed_exact rest n value exact.0 digit numeral suffix exact.1 in
    subst (λ k. token_at rest ≡ judged k (NumberLexeme value true) (drop k rest)) e
    (subst (λ v. token_at rest ≡ judged (suc n) (NumberLexeme v true) (drop (suc n) rest)) exact.2 token)

pub token_at-plain : (rest : List ℕ) (n value : ℕ) → is_digit (slice_index rest 0) ≡ true → IsLongestNumeral rest n value → is_suffix (slice_index rest n) ≡ false → token_at rest ≡ judged n (NumberLexeme value false) (drop n rest)
token_at-plain rest zero value digit numeral no_suffix = absurd (omega (arith, numeral.some))
token_at-plain rest (suc n) value digit numeral no_suffix =
    let exact = option_map-some (λ x. min x (2 ^ 64 - 1)) (numeral_of (take (suc n) rest)) value numeral.spelled in
    let token = token_at-plain_exact rest n value exact.0 digit numeral no_suffix exact.1 in
    subst (λ v. token_at rest ≡ judged (suc n) (NumberLexeme v false) (drop (suc n) rest)) exact.2 token
