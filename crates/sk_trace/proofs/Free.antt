-- Of which bytes the words of a line are made: none is a blank or a line feed.
use Rattle.std.proofs.Common.{◌≡◌, ◌∙◌, ap, refl, ℕ, ◌≤◌, Bool, true, false, List, [], ◌∷◌, ◌++◌, map, All, eqb, arith}
use Rattle.std.specs.Prelude.{nat_lt, nat_le, codes, decimal, Option, Some, None, ℤ}
use Rattle.std.specs.Fmt.{signed_decimal}
use Rattle.std.specs.List.{list_all}
use Rattle.std.proofs.lemmas.Bool.{and_parts, and_from, ne_eqb, leb-true, lt-ltb}
use Rattle.std.proofs.lemmas.List.Elements.{All-nil, All-cons, All-head, All-tail}
use Rattle.std.proofs.lemmas.List.Folds.{list_all-append}
use Rattle.sk_names.specs.Bytes.{is_digit}
use Rattle.sk_words.specs.Strung.{strung}
use Rattle.sk_words.proofs.ReadBack.{IsFree}
use Rattle.sk_trace.specs.Fits.{IsWide, IsNarrow, IsCell, EachOf}
use Rattle.sk_trace.specs.Words.{or_absent, comma_list}
use Rattle.sk_trace.proofs.Digits.{decimal-digits, signed-digits, is_signed, weaker}

-- a byte that fails a test which each byte of a word passes is none of the word
pub free-from : (p : ℕ → Bool) (mark : ℕ) → p mark ≡ false → (word : List ℕ) → list_all p word ≡ true → IsFree mark word
free-from p mark out [] each = All-nil (λ byte. eqb byte mark ≡ false)
free-from p mark out (byte ∷ word) each =
    let parts = and_parts (p byte) (list_all p word) each in
    let other : eqb byte mark ≡ false = ne_eqb byte mark (λ same. cc (parts.0, out, ap p same)) in
    All-cons (λ b. eqb b mark ≡ false) byte word other (free-from p mark out word parts.1)

pub each-free : (p : ℕ → Bool) (mark : ℕ) → p mark ≡ false → (words : List (List ℕ)) → list_all (list_all p) words ≡ true
    → All (IsFree mark) words
each-free p mark out [] each = All-nil (IsFree mark)
each-free p mark out (word ∷ words) each =
    let parts = and_parts (list_all p word) (list_all (list_all p) words) each in
    All-cons (IsFree mark) word words (free-from p mark out word parts.0) (each-free p mark out words parts.1)

-- words of passing bytes with passing bytes between
pub strung-all : (p : ℕ → Bool) (between lead : List ℕ) → list_all p between ≡ true → list_all p lead ≡ true → (words : List (List ℕ))
    → list_all (list_all p) words ≡ true → list_all p (strung between lead words) ≡ true
strung-all p between lead between_is lead_is [] each = refl
strung-all p between lead between_is lead_is (word ∷ words) each =
    let parts = and_parts (list_all p word) (list_all (list_all p) words) each in
    let rest = strung-all p between between between_is between_is words parts.1 in
    list_all-append p (lead ++ word) (strung between between words)
    ∙ and_from _ _ (list_all-append p lead word ∙ and_from _ _ lead_is parts.0) rest

-- each of a list, written
pub written-all : {X : Type 0} (p : ℕ → Bool) (word : X → List ℕ) (P : X → Type 0) → ((x : X) → P x → list_all p (word x) ≡ true)
    → (xs : List X) → All P xs → list_all (list_all p) (map word xs) ≡ true
written-all p word P one [] each = refl
written-all p word P one (x ∷ xs) each =
    and_from _ _ (one x (All-head P x xs each)) (written-all p word P one xs (All-tail P x xs each))

-- a byte above the blank
abbrev pub is_black : ℕ → Bool
is_black byte = nat_lt 32 byte

black-signed : (byte : ℕ) → is_signed byte ≡ true → is_black byte ≡ true
black-signed byte is = grind arith

black-digit : (byte : ℕ) → is_digit byte ≡ true → is_black byte ≡ true
black-digit byte is =
    let above : 48 ≤ byte = leb-true 48 byte (and_parts (nat_le 48 byte) (nat_le byte 57) is).0 in
    lt-ltb 32 byte (omega (arith, above))

pub black-wide : (n : ℕ) → IsWide n → list_all is_black (decimal n) ≡ true
black-wide n fits = weaker is_digit is_black black-digit (decimal n) (decimal-digits n fits)

pub black-narrow : (n : ℕ) → IsNarrow n → list_all is_black (decimal n) ≡ true
black-narrow n fits = black-wide n (omega arith)

pub black-cell : (z : ℤ) → IsCell z → list_all is_black (signed_decimal z) ≡ true
black-cell z fits = weaker is_signed is_black black-signed (signed_decimal z) (signed-digits z fits)

pub black-option : {X : Type 0} (word : X → List ℕ) (P : X → Type 0) → ((x : X) → P x → list_all is_black (word x) ≡ true)
    → (o : Option X) → EachOf P o → list_all is_black (or_absent word o) ≡ true
black-option word P one None fits = refl
black-option word P one (Some x) fits = one x fits

pub black-list : (words : List (List ℕ)) → list_all (list_all is_black) words ≡ true → list_all is_black (comma_list words) ≡ true
black-list [] each = refl
black-list (word ∷ words) each = strung-all is_black (codes ",") [] refl refl (word ∷ words) each
