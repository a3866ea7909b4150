-- Words, numbers and strings, and what may follow them.
use Rattle.std.proofs.Common.{◌≡◌, ◌≢◌, ℕ, zero, suc, ◌+◌, ◌-◌, ◌*◌, ◌/◌, ◌%◌, ◌^◌, ◌<◌, ◌≤◌, inl, inr, min, Bool, true, false, ◌||◌, not, List, [], ◌∷◌, ◌++◌, length, take, slice_index, ℤ, pos, refl, ap, subst, sym, ◌∙◌, arith, append_assoc}
use Rattle.std.specs.Prelude.{◌==◌, nat_lt, nat_le, int_le, if◌then◌else◌}
use Rattle.std.specs.Fmt.{decimal}
use Rattle.std.specs.List.{list_all, prefix_len}
use Rattle.std.proofs.lemmas.Bool.{and_parts, cases_Bool}
use Rattle.std.proofs.lemmas.Bool.Decides.{nat_tests, eqb_tells}
use Rattle.std.proofs.lemmas.Fmt.{decimal_by_steps, decimal_digit, first_decimal}
use Rattle.std.proofs.lemmas.List.{length-append, append-nil}
use Rattle.std.proofs.lemmas.List.Folds.{list_all-append}
use Rattle.std.proofs.lemmas.List.Sums.{fold-append}
use Rattle.std.proofs.Math.Seq.{take-append_seam}
use Rattle.sk_base.specs.declared.number.Ty.{Ty}
use Rattle.sk_base.specs.declared.number.Ty.TheVariants.{Int, Long}
use Rattle.sk_tokens.specs.declared.token.TokenKind.TheVariants as kinds
use Rattle.sk_names.specs.Bytes.{is_letter, is_digit, is_word_byte}
use Rattle.sk_tokens.specs.Lexemes.{is_blank, digit_value, digits_value}
use Rattle.sk_names.specs.Words.{is_word}
use Rattle.sk_tokens.specs.Tokens.{Found, piece_at, token_at}
use Rattle.sk_token_laws.specs.Fronts.{is_suffix, IsLongestNumeral}
use Rattle.sk_token_laws.proofs.Numbers as numbers
use Rattle.sk_token_laws.proofs.Prefixes.{prefix_len-pass, prefix_len-fail}
use Rattle.sk_token_laws.proofs.Words.{token_at-word}
use Rattle.sk_printed.specs.WordText.{number_text, suffix_text}
use Rattle.sk_printed_laws.proofs.Lexes.{Stands, Ends, feeds, feeds-append, piece_at-token}

-- ---- bytes that pass a test

not-true : (a : Bool) → not a ≡ true → a ≡ false
not-true true e = cc
not-true false e = refl

-- the first byte, if there is one, fails the test
record Fails (p : ℕ → Bool) (rest : List ℕ) : Type 0 where
  pub fails : list_all (λ byte. not (p byte)) (take 1 rest) ≡ true

prefix_len-none : (p : ℕ → Bool) (rest : List ℕ) → Fails p rest → prefix_len p rest ≡ 0
prefix_len-none p [] none = refl
prefix_len-none p (byte ∷ rest) none = prefix_len-fail p byte rest (not-true (p byte) (and_parts (not (p byte)) true none.fails).0)

prefix_len-whole : (p : ℕ → Bool) (xs rest : List ℕ) → list_all p xs ≡ true → Fails p rest → prefix_len p (xs ++ rest) ≡ length xs
prefix_len-whole p [] rest all none = prefix_len-none p rest none
prefix_len-whole p (x ∷ xs) rest all none =
    let here = and_parts (p x) (list_all p xs) all in
    prefix_len-pass p x (xs ++ rest) here.0 ∙ ap suc (prefix_len-whole p xs rest here.1 none)

Fails-first : (p : ℕ → Bool) → p 0 ≡ false → (rest : List ℕ) → Fails p rest → p (slice_index rest 0) ≡ false
Fails-first p zero_fails [] none = zero_fails
Fails-first p zero_fails (byte ∷ rest) none = not-true (p byte) (and_parts (not (p byte)) true none.fails).0

slice_index-seam : (xs rest : List ℕ) → slice_index (xs ++ rest) (length xs) ≡ slice_index rest 0
slice_index-seam [] rest = refl
slice_index-seam (x ∷ xs) rest = slice_index-seam xs rest

slice_index-front : (xs rest : List ℕ) → 0 < length xs → slice_index (xs ++ rest) 0 ≡ slice_index xs 0
slice_index-front [] rest some = absurd (omega arith)
slice_index-front (x ∷ xs) rest some = refl

list_all-front : (p : ℕ → Bool) (xs : List ℕ) → 0 < length xs → list_all p xs ≡ true → p (slice_index xs 0) ≡ true
list_all-front p [] some all = absurd (omega arith)
list_all-front p (x ∷ xs) some all = (and_parts (p x) (list_all p xs) all).0

-- no line ends in bytes that pass a test that the line feed fails
feeds-none : (p : ℕ → Bool) → p 10 ≡ false → (xs : List ℕ) → list_all p xs ≡ true → feeds xs ≡ 0
feeds-none p feed [] all = refl
feeds-none p feed (x ∷ xs) all =
    let here = and_parts (p x) (list_all p xs) all in
    let rest = feeds-none p feed xs here.1 in
    let joined = feeds-append (x ∷ []) xs in
    elim (eqb_tells x 10) [
      | inl same ↦ let no : p 10 ≡ true = subst (λ b. p b ≡ true) same.1 here.0 in cc
      | inr other ↦
          let one : feeds (x ∷ []) ≡ 0 = rw other.0 refl in
          joined ∙ omega (arith, one, rest)
    ]

-- ---- words

letter-blank : (byte : ℕ) → is_letter byte ≡ true → is_blank byte ≡ false
letter-blank byte letter = grind (arith, nat_tests)

letter-slash : (byte : ℕ) → is_letter byte ≡ true → (47 == byte) ≡ false
letter-slash byte letter = grind (arith, nat_tests)

letter-hash : (byte : ℕ) → is_letter byte ≡ true → (byte == 35) ≡ false
letter-hash byte letter = grind (arith, nat_tests)

letter-word : (byte : ℕ) → is_letter byte ≡ true → is_word_byte byte ≡ true
letter-word byte letter = rw letter refl

pub word_stands : (name rest : List ℕ) → is_word name ≡ true → length name ≤ 255 → Ends rest → Stands name (kinds.Word name) rest
word_stands [] rest word short ends = cc
word_stands (first ∷ tail) rest word short ends =
    let here = and_parts (is_letter first) (list_all is_word_byte tail) word in
    let all : list_all is_word_byte (first ∷ tail) ≡ true = rw (letter-word first here.0) here.1 in
    let whole = prefix_len-whole is_word_byte (first ∷ tail) rest all (record { fails = ends.parted }) in
    let token = token_at-word ((first ∷ tail) ++ rest) here.0 (omega (arith, whole)) in
    record {
      some = omega arith;
      one_line = feeds-none is_word_byte refl (first ∷ tail) all;
      piece = λ begins_line.
          piece_at-token first (tail ++ rest) (letter-blank first here.0) (letter-slash first here.0) (letter-hash first here.0) begins_line
          ∙ token ∙ ap (λ n. Found n (kinds.Word (take n ((first ∷ tail) ++ rest)))) whole
          ∙ ap (λ front. Found (length (first ∷ tail)) (kinds.Word front)) (take-append_seam (first ∷ tail) rest);
    }

-- ---- numbers

record IsDecimal (n : ℕ) (digits : List ℕ) : Type 0 where
  pub all : list_all is_digit digits ≡ true
  pub value : digits_value 10 digits ≡ n
  pub some : 0 < length digits

digit-is : (n : ℕ) → n < 10 → is_digit (48 + n) ≡ true
digit-is n small = grind (arith, nat_tests)

digit-value : (n : ℕ) → n < 10 → digit_value (48 + n) ≡ n
digit-value n small = rw (digit-is n small) (omega arith)

decimal-one : (n : ℕ) → n < 10 → IsDecimal n ((48 + n) ∷ [])
decimal-one n small = record {
  all = rw (digit-is n small) refl;
  value = let e = digit-value n small in omega (arith, e);
  some = omega arith;
}

decimal-more : (n : ℕ) (digits : List ℕ) → 10 ≤ n → IsDecimal (n / 10) digits → IsDecimal n (digits ++ ((48 + n % 10) ∷ []))
decimal-more n digits large front =
    let small : n % 10 < 10 = omega arith in
    let long = length-append digits ((48 + n % 10) ∷ []) in
    record {
      all = list_all-append is_digit digits ((48 + n % 10) ∷ []) ∙ rw (front.all, digit-is (n % 10) small) refl;
      value =
          let step = fold-append (λ value digit. 10 * value + digit_value digit) 0 digits ((48 + n % 10) ∷ []) in
          let before = front.value in
          let last = digit-value (n % 10) small in
          step ∙ omega (arith, before, last);
      some = omega arith;
    }

decimal-is : (n : ℕ) → n < 2 ^ 64 → IsDecimal n (decimal n)
decimal-is n fits = decimal_by_steps IsDecimal decimal-one decimal-more n fits

-- what is no part of a number
record NoNumeral (tail : List ℕ) : Type 0 where
  pub no_digit : Fails is_digit tail
  pub no_hex : (slice_index tail 0 == 120) ≡ false

longest_decimal : (n : ℕ) (tail : List ℕ) → n < 2 ^ 63 → NoNumeral tail → IsLongestNumeral (decimal n ++ tail) (length (decimal n)) n
longest_decimal zero tail fits ends =
    let spelled = decimal_digit 0 (omega arith) in
    let no_hex = ends.no_hex in
    let plain : IsLongestNumeral (48 ∷ tail) 1 0 = numbers.zero_numeral (48 ∷ tail) refl (rw no_hex refl) in
    subst (λ digits. IsLongestNumeral (digits ++ tail) (length digits) 0) (sym spelled) plain
longest_decimal (suc n) tail fits ends =
    let is = decimal-is (suc n) (omega arith) in
    let some = is.some in
    let front = slice_index-front (decimal (suc n)) tail some in
    let first : 48 < slice_index (decimal (suc n)) 0 = first_decimal (suc n) (omega arith) (omega arith) in
    let whole = prefix_len-whole is_digit (decimal (suc n)) tail is.all ends.no_digit in
    let digit : is_digit (slice_index (decimal (suc n) ++ tail) 0) ≡ true = ap is_digit front ∙ list_all-front is_digit (decimal (suc n)) some is.all in
    let nonzero : slice_index (decimal (suc n) ++ tail) 0 ≢ 48 = λ e. absurd (omega (arith, e, front, first)) in
    let value : digits_value 10 (take (prefix_len is_digit (decimal (suc n) ++ tail)) (decimal (suc n) ++ tail)) ≡ suc n =
    ap (λ k. digits_value 10 (take k (decimal (suc n) ++ tail))) whole ∙ ap (digits_value 10) (take-append_seam (decimal (suc n)) tail) ∙ is.value in
    let least : min (suc n) (2 ^ 64 - 1) ≡ suc n = omega arith in
    subst (λ k. IsLongestNumeral (decimal (suc n) ++ tail) k (suc n)) whole
    (numbers.decimal (decimal (suc n) ++ tail) (suc n) digit nonzero (sym (ap (λ v. min v (2 ^ 64 - 1)) value ∙ least)))

digit-blank : (byte : ℕ) → is_digit byte ≡ true → is_blank byte ≡ false
digit-blank byte digit = grind (arith, nat_tests)

digit-slash : (byte : ℕ) → is_digit byte ≡ true → (47 == byte) ≡ false
digit-slash byte digit = grind (arith, nat_tests)

digit-hash : (byte : ℕ) → is_digit byte ≡ true → (byte == 35) ≡ false
digit-hash byte digit = grind (arith, nat_tests)

piece_at-digit : (rest : List ℕ) → is_digit (slice_index rest 0) ≡ true → (begins_line : Bool) → piece_at begins_line rest ≡ token_at rest
piece_at-digit [] digit begins_line = cc
piece_at-digit (byte ∷ rest) digit begins_line =
    piece_at-token byte rest (digit-blank byte digit) (digit-slash byte digit) (digit-hash byte digit) begins_line

no_word-digit : (byte : ℕ) → not (is_word_byte byte) ≡ true → not (is_digit byte) ≡ true
no_word-digit byte no_word = grind (arith, nat_tests)

no_word-x : (byte : ℕ) → is_word_byte byte ≡ false → (byte == 120) ≡ false
no_word-x byte no_word = grind (arith, nat_tests)

no_word-suffix : (byte : ℕ) → is_word_byte byte ≡ false → is_suffix byte ≡ false
no_word-suffix byte no_word = grind (arith, nat_tests)

Ends-first : (rest : List ℕ) → Ends rest → is_word_byte (slice_index rest 0) ≡ false
Ends-first rest ends = Fails-first is_word_byte refl rest (record { fails = ends.parted })

Ends-numeral : (rest : List ℕ) → Ends rest → NoNumeral rest
Ends-numeral [] ends = record { no_digit = record { fails = refl }; no_hex = refl }
Ends-numeral (byte ∷ rest) ends =
    let here = and_parts (not (is_word_byte byte)) true ends.parted in
    record {
      no_digit = record { fails = rw (no_word-digit byte here.0) refl };
      no_hex = no_word-x byte (not-true (is_word_byte byte) here.0);
    }

suffix-numeral : (rest : List ℕ) → NoNumeral (76 ∷ rest)
suffix-numeral rest = record { no_digit = record { fails = refl }; no_hex = refl }

decimal-front : (n : ℕ) (tail : List ℕ) → n < 2 ^ 63 → is_digit (slice_index (decimal n ++ tail) 0) ≡ true
decimal-front n tail fits =
    let is = decimal-is n (omega arith) in
    ap is_digit (slice_index-front (decimal n) tail is.some) ∙ list_all-front is_digit (decimal n) is.some is.all

suffixed_token : (n : ℕ) (rest : List ℕ) → n < 2 ^ 63 → Ends rest → token_at (decimal n ++ (76 ∷ rest)) ≡ Found (length (decimal n) + 1) (kinds.Number Long (pos n))
suffixed_token n rest fits ends =
    let all : List ℕ = decimal n ++ (76 ∷ rest) in
    let numeral = longest_decimal n (76 ∷ rest) fits (suffix-numeral rest) in
    let suffix : is_suffix (slice_index all (length (decimal n))) ≡ true = ap is_suffix (slice_index-seam (decimal n) (76 ∷ rest)) in
    let token = numbers.token_at-suffixed all (length (decimal n)) n (decimal-front n (76 ∷ rest) fits) numeral suffix in
    let assoc : (decimal n ++ (76 ∷ [])) ++ rest ≡ all = append_assoc (decimal n) (76 ∷ []) rest in
    let long : length (decimal n ++ (76 ∷ [])) ≡ length (decimal n) + 1 = length-append (decimal n) (76 ∷ []) in
    let seam : slice_index all (length (decimal n) + 1) ≡ slice_index rest 0 =
    ap (λ k. slice_index all k) (sym long) ∙ ap (λ xs. slice_index xs (length (decimal n ++ (76 ∷ [])))) (sym assoc) ∙ slice_index-seam (decimal n ++ (76 ∷ [])) rest in
    token ∙ numbers.judged-number all (length (decimal n) + 1) n true (ap is_word_byte seam ∙ Ends-first rest ends) fits

plain_token : (n : ℕ) (rest : List ℕ) → n < 2 ^ 63 → Ends rest → token_at (decimal n ++ rest) ≡ Found (length (decimal n)) (kinds.Number (if false || nat_lt 2147483647 n then Long else Int) (pos n))
plain_token n rest fits ends =
    let numeral = longest_decimal n rest fits (Ends-numeral rest ends) in
    let seam = slice_index-seam (decimal n) rest in
    let ended : is_word_byte (slice_index (decimal n ++ rest) (length (decimal n))) ≡ false = ap is_word_byte seam ∙ Ends-first rest ends in
    let no_suffix : is_suffix (slice_index (decimal n ++ rest) (length (decimal n))) ≡ false = no_word-suffix (slice_index (decimal n ++ rest) (length (decimal n))) ended in
    numbers.token_at-plain (decimal n ++ rest) (length (decimal n)) n (decimal-front n rest fits) numeral no_suffix
    ∙ numbers.judged-number (decimal n ++ rest) (length (decimal n)) n false ended fits

-- a number that has a spelling
pub record IsNumber (ty : Ty) (value : ℤ) : Type 0 where
  pub digits : ℕ
  pub is : value ≡ pos digits
  pub fits : digits < 2 ^ 63
  pub short : ty ≡ Int → digits ≤ 2147483647

digit-feed : (n : ℕ) → n < 2 ^ 63 → feeds (decimal n) ≡ 0
digit-feed n fits = feeds-none is_digit refl (decimal n) (decimal-is n (omega arith)).all

suffixed_stands : (n : ℕ) (rest : List ℕ) → n < 2 ^ 63 → Ends rest → Stands (decimal n ++ (76 ∷ [])) (kinds.Number Long (pos n)) rest
suffixed_stands n rest fits ends =
    let long : length (decimal n ++ (76 ∷ [])) ≡ length (decimal n) + 1 = length-append (decimal n) (76 ∷ []) in
    let assoc : (decimal n ++ (76 ∷ [])) ++ rest ≡ decimal n ++ (76 ∷ rest) = append_assoc (decimal n) (76 ∷ []) rest in
    let feed = digit-feed n fits in
    let last : feeds (76 ∷ []) ≡ 0 = refl in
    record {
      some = omega arith;
      one_line = feeds-append (decimal n) (76 ∷ []) ∙ omega (arith, feed, last);
      piece = λ begins_line.
          ap (piece_at begins_line) assoc ∙ piece_at-digit (decimal n ++ (76 ∷ rest)) (decimal-front n (76 ∷ rest) fits) begins_line
          ∙ suffixed_token n rest fits ends ∙ ap (λ k. Found k (kinds.Number Long (pos n))) (sym long);
    }

plain_stands : (ty : Ty) (n : ℕ) (rest : List ℕ) → n < 2 ^ 63 → (if false || nat_lt 2147483647 n then Long else Int) ≡ ty → Ends rest → Stands (decimal n ++ []) (kinds.Number ty (pos n)) rest
plain_stands ty n rest fits is ends =
    let some = (decimal-is n (omega arith)).some in
    subst (λ bytes. Stands bytes (kinds.Number ty (pos n)) rest) (sym (append-nil (decimal n))) (record {
      some = some;
      one_line = digit-feed n fits;
      piece = λ begins_line.
          piece_at-digit (decimal n ++ rest) (decimal-front n rest fits) begins_line ∙ plain_token n rest fits ends
          ∙ ap (λ t. Found (length (decimal n)) (kinds.Number t (pos n))) is;
    })

int_le-pos : (n : ℕ) → int_le (pos n) (pos 2147483647) ≡ nat_le n 2147483647
int_le-pos n = refl

digits_stand : (ty : Ty) (n : ℕ) (rest : List ℕ) → n < 2 ^ 63 → (ty ≡ Int → n ≤ 2147483647) → Ends rest → Stands (number_text ty (pos n)) (kinds.Number ty (pos n)) rest
digits_stand Int n rest fits short ends =
    let small = short refl in
    let e : nat_lt 2147483647 n ≡ false = grind (arith, nat_tests) in
    plain_stands Int n rest fits (rw e refl) ends
digits_stand Long n rest fits short ends =
    elim (cases_Bool (nat_le n 2147483647)) [
      | inl small ↦ rw (int_le-pos n, small) (suffixed_stands n rest fits ends)
      | inr large ↦
          let e : nat_lt 2147483647 n ≡ true = grind (arith, nat_tests) in
          rw (int_le-pos n, large) (plain_stands Long n rest fits (rw e refl) ends)
    ]

pub number_stands : (ty : Ty) (value : ℤ) (rest : List ℕ) → IsNumber ty value → Ends rest → Stands (number_text ty value) (kinds.Number ty value) rest
number_stands ty value rest number ends =
    subst (λ v. Stands (number_text ty v) (kinds.Number ty v) rest) (sym number.is) (digits_stand ty number.digits rest number.fits number.short ends)

-- a number begins with a digit
digits-front : (ty : Ty) (n : ℕ) → n < 2 ^ 63 → (0 < length (number_text ty (pos n))) × (is_digit (slice_index (number_text ty (pos n)) 0) ≡ true)
digits-front ty n fits =
    let is = decimal-is n (omega arith) in
    let some = is.some in
    let long = length-append (decimal n) (suffix_text ty (pos n)) in
    (omega arith, decimal-front n (suffix_text ty (pos n)) fits)

pub number_text-front : (ty : Ty) (value : ℤ) → IsNumber ty value → (0 < length (number_text ty value)) × (is_digit (slice_index (number_text ty value) 0) ≡ true)
number_text-front ty value number =
    subst (λ v. (0 < length (number_text ty v)) × (is_digit (slice_index (number_text ty v) 0) ≡ true)) (sym number.is) (digits-front ty number.digits number.fits)

-- a number without a suffix has the type that its value asks for
abbrev pub plain_type : ℕ → Ty
plain_type n = if nat_lt 2147483647 n then Long else Int

pub decimal_stands : (n : ℕ) (rest : List ℕ) → n < 2 ^ 63 → Ends rest → Stands (decimal n) (kinds.Number (plain_type n) (pos n)) rest
decimal_stands n rest fits ends =
    subst (λ bytes. Stands bytes (kinds.Number (plain_type n) (pos n)) rest) (append-nil (decimal n)) (plain_stands (plain_type n) n rest fits refl ends)

pub decimal_opens : (n : ℕ) → n < 2 ^ 63 → (0 < length (decimal n)) × (is_digit (slice_index (decimal n) 0) ≡ true)
decimal_opens n fits =
    let is = decimal-is n (omega arith) in
    (is.some, list_all-front is_digit (decimal n) is.some is.all)
