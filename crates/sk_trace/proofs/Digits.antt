-- Numbers that are written are read back, and the bytes that they are written with.
use Rattle.std.proofs.Common.{◌≡◌, ◌∙◌, ap, refl, ℕ, suc, ◌+◌, ◌*◌, ◌/◌, ◌%◌, ◌^◌, ◌<◌, ◌≤◌, Bool, true, false, List, [], ◌∷◌, ◌++◌, length, arith}
use Rattle.std.specs.Prelude.{◌==◌, ◌||◌, nat_lt, ℤ, pos, negsuc, decimal, if◌then◌else◌}
use Rattle.std.specs.Fmt.{signed_decimal}
use Rattle.std.specs.List.{list_all}
use Rattle.std.proofs.Math.Nat.{mod-eq_of_lt}
use Rattle.std.proofs.lemmas.Bool.{and_parts, and_from, ne_eqb, le-leb, leb-true, lt-ltb, cond-true}
use Rattle.std.proofs.lemmas.Fmt.{decimal_by_steps, decimal_nonempty}
use Rattle.std.proofs.lemmas.List.Folds.{list_all-append}
use Rattle.sk_names.specs.Bytes.{is_digit}
use Rattle.sk_trace.specs.Candidates.{with_digit, number_from, wide_in, narrow_in, cell_in, positive_in, negative_in}
use Rattle.sk_trace.specs.Fits.{IsWide, IsNarrow, IsCell}

-- ---- numbers read back

digit-value : (digit : ℕ) → digit < 10 → (48 + digit + 208) % 256 ≡ digit
digit-value digit below = omega arith

with_digit-more : (number digit : ℕ) → digit < 10 → number * 10 + digit < 2 ^ 64 → with_digit number (48 + digit) ≡ number * 10 + digit
with_digit-more number digit below fits =
    ap (λ d. (number * 10 + d) % 2 ^ 64) (digit-value digit below) ∙ mod-eq_of_lt fits

number_from-more : (number : ℕ) (xs : List ℕ) (y : ℕ) → number_from number (xs ++ y ∷ []) ≡ with_digit (number_from number xs) y
number_from-more number [] y = refl
number_from-more number (x ∷ xs) y = number_from-more (with_digit number x) xs y

pub wide_in-decimal : (n : ℕ) → IsWide n → wide_in (decimal n) ≡ n
wide_in-decimal n fits = decimal_by_steps (λ m ds. m < 2 ^ 64 → wide_in ds ≡ m) one more n fits fits
  where
    one : (m : ℕ) → m < 10 → m < 2 ^ 64 → wide_in ((48 + m) ∷ []) ≡ m
    one m below small = with_digit-more 0 m below (omega arith) ∙ omega arith

    more : (m : ℕ) (ds : List ℕ) → 10 ≤ m → (m / 10 < 2 ^ 64 → wide_in ds ≡ m / 10) → m < 2 ^ 64
        → wide_in (ds ++ (48 + m % 10) ∷ []) ≡ m
    more m ds above front small =
        number_from-more 0 ds (48 + m % 10) ∙ ap (λ k. with_digit k (48 + m % 10)) (front (omega arith))
        ∙ with_digit-more (m / 10) (m % 10) (omega arith) (omega arith) ∙ omega arith

wide-of : (n : ℕ) → IsNarrow n → IsWide n
wide-of n fits = omega arith

pub narrow_in-decimal : (n : ℕ) → IsNarrow n → narrow_in (decimal n) ≡ n
narrow_in-decimal n fits =
    ap (λ k. if nat_lt k (2 ^ 32) then k else 0) (wide_in-decimal n (wide-of n fits)) ∙ cond-true (nat_lt n (2 ^ 32)) n 0 (lt-ltb n (2 ^ 32) fits)

-- ---- their bytes

digit-is : (m : ℕ) → m < 10 → is_digit (48 + m) ≡ true
digit-is m below = and_from _ _ (le-leb 48 (48 + m) (omega arith)) (le-leb (48 + m) 57 (omega arith))

pub decimal-digits : (n : ℕ) → IsWide n → list_all is_digit (decimal n) ≡ true
decimal-digits n fits = decimal_by_steps (λ m ds. list_all is_digit ds ≡ true) one more n fits
  where
    one : (m : ℕ) → m < 10 → list_all is_digit ((48 + m) ∷ []) ≡ true
    one m below = and_from _ true (digit-is m below) refl

    more : (m : ℕ) (ds : List ℕ) → 10 ≤ m → list_all is_digit ds ≡ true → list_all is_digit (ds ++ (48 + m % 10) ∷ []) ≡ true
    more m ds above front =
        list_all-append is_digit ds ((48 + m % 10) ∷ []) ∙ and_from _ _ front (and_from _ true (digit-is (m % 10) (omega arith)) refl)

-- a digit, or the minus in front of one
abbrev pub is_signed : ℕ → Bool
is_signed byte = is_digit byte || byte == 45

-- what passes one test passes another one that is no stricter
pub weaker : (p q : ℕ → Bool) → ((byte : ℕ) → p byte ≡ true → q byte ≡ true) → (word : List ℕ) → list_all p word ≡ true
    → list_all q word ≡ true
weaker p q less [] each = refl
weaker p q less (byte ∷ word) each =
    let parts = and_parts (p byte) (list_all p word) each in
    and_from (q byte) (list_all q word) (less byte parts.0) (weaker p q less word parts.1)

signed-digit : (byte : ℕ) → is_digit byte ≡ true → is_signed byte ≡ true
signed-digit byte is = ap (λ (b : Bool). b || byte == 45) is

pub signed-digits : (z : ℤ) → IsCell z → list_all is_signed (signed_decimal z) ≡ true
signed-digits (pos n) fits = weaker is_digit is_signed signed-digit (decimal n) (decimal-digits n (omega (arith, fits.sfits)))
signed-digits (negsuc n) fits = weaker is_digit is_signed signed-digit (decimal (suc n)) (decimal-digits (suc n) (omega (arith, fits.sfits)))

-- ---- cells read back

digit-no_minus : (byte : ℕ) → is_digit byte ≡ true → (byte == 45) ≡ false
digit-no_minus byte is =
    let parts = and_parts _ _ is in
    let above : 48 ≤ byte = leb-true 48 byte parts.0 in
    ne_eqb byte 45 (λ same. absurd (omega (arith, above, same)))

cell_in-digits : (ds : List ℕ) → list_all is_digit ds ≡ true → 0 < length ds → cell_in ds ≡ positive_in (wide_in ds)
cell_in-digits [] each some = absurd (omega arith)
cell_in-digits (byte ∷ bytes) each some =
    let parts = and_parts (is_digit byte) (list_all is_digit bytes) each in
    ap (λ (b : Bool). if b then negative_in (wide_in bytes) else positive_in (wide_in (byte ∷ bytes))) (digit-no_minus byte parts.0)

pub cell_in-decimal : (z : ℤ) → IsCell z → cell_in (signed_decimal z) ≡ z
cell_in-decimal (pos n) fits =
    let small : n < 2 ^ 63 = fits.sfits in
    let wide : IsWide n = omega (arith, small) in
    cell_in-digits (decimal n) (decimal-digits n wide) (decimal_nonempty n wide) ∙ ap positive_in (wide_in-decimal n wide)
    ∙ cond-true (nat_lt n (2 ^ 63)) (pos n) (pos 0) (lt-ltb n (2 ^ 63) small)
cell_in-decimal (negsuc n) fits =
    let small : n < 2 ^ 63 = fits.sfits in
    let wide : IsWide (suc n) = omega (arith, small) in
    ap negative_in (wide_in-decimal (suc n) wide) ∙ cond-true _ (negsuc n) (pos 0) (le-leb (suc n) (2 ^ 63) (omega (arith, small)))

-- ---- no number is written as `-`

-- a word that is more than a lone minus
abbrev pub is_value : List ℕ → Bool
is_value [] = false
is_value (byte ∷ []) = if byte == 45 then false else true
is_value (byte ∷ next ∷ rest) = true

digits-value : (ds : List ℕ) → list_all is_digit ds ≡ true → 0 < length ds → is_value ds ≡ true
digits-value [] each some = absurd (omega arith)
digits-value (byte ∷ []) each some =
    ap (λ (b : Bool). if b then false else true) (digit-no_minus byte (and_parts (is_digit byte) true each).0)
digits-value (byte ∷ next ∷ rest) each some = refl

minus-value : (ds : List ℕ) → 0 < length ds → is_value (45 ∷ ds) ≡ true
minus-value [] some = absurd (omega arith)
minus-value (byte ∷ bytes) some = refl

pub decimal-value : (n : ℕ) → IsWide n → is_value (decimal n) ≡ true
decimal-value n fits = digits-value (decimal n) (decimal-digits n fits) (decimal_nonempty n fits)

pub signed-value : (z : ℤ) → IsCell z → is_value (signed_decimal z) ≡ true
signed-value (pos n) fits = decimal-value n (omega (arith, fits.sfits))
signed-value (negsuc n) fits = minus-value (decimal (suc n)) (decimal_nonempty (suc n) (omega (arith, fits.sfits)))
