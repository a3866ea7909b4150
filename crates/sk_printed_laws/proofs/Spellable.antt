-- Tokens that have a spelling, as those of every text have.
use Rattle.std.proofs.Common.{◌≡◌, ℕ, zero, suc, ◌-◌, ◌^◌, ◌<◌, ◌≤◌, inl, inr, Bool, true, false, not, ◌||◌, ◌&&◌, List, [], ◌∷◌, ◌++◌, length, take, drop, slice_index, pos, Result, Ok, Err, refl, subst, sym, arith}
use Rattle.std.specs.Prelude.{Option, Some, None, ◌==◌, nat_lt, nat_le, if◌then◌else◌, codes}
use Rattle.std.specs.List.{list_all}
use Rattle.std.specs.Option.{option_map, option_and_then}
use Rattle.std.proofs.lemmas.Bool.{cases_Bool}
use Rattle.std.proofs.lemmas.Bool.Decides.{nat_tests}
use Rattle.sk_base.specs.declared.number.Ty.TheVariants.{Int, Long}
use Rattle.sk_tokens.specs.declared.token.Token.{Token}
use Rattle.sk_tokens.specs.declared.token.TokenKind.{TokenKind}
use Rattle.sk_tokens.specs.declared.token.TokenKind.TheVariants as kinds
use Rattle.sk_tokens.specs.Lexemes.{Lexeme, WordLexeme, NumberLexeme, TextLexeme, SignLexeme, lexeme_of, is_blank, is_suffixed, number_of, numeral_of, string_of, string_rest_of, escape_of, sign_of}
use Rattle.sk_names.specs.Bytes.{is_letter, is_digit, is_word_byte, is_from_to}
use Rattle.sk_names.specs.Words.{is_word}
use Rattle.sk_tokens.specs.Tokens.{TokenFault, Piece, Passed, Found, Faulty, NoToken, Wide, LongName, line_after, line_rest, comment_rest, is_line_start, judged, longest_of, token_at, piece_at, with_token, tokens_from, tokens_of}
use Rattle.sk_token_laws.proofs.Pieces.{piece_at-some, begins, commented}
use Rattle.sk_printed_laws.proofs.TextTokens.{is_text_byte}
use Rattle.sk_printed_laws.proofs.WordTokens.{IsNumber}

abbrev pub IsSpellable : TokenKind → Type 0
IsSpellable (kinds.Word name) = (is_word name ≡ true) × (length name ≤ 255)
IsSpellable (kinds.Number ty value) = IsNumber ty value
IsSpellable (kinds.Text text) = (list_all is_text_byte text ≡ true) × (length text ≤ 255)
IsSpellable (kinds.Sign sign) = Unit {0}

abbrev pub AreSpellable : List Token → Type 0
AreSpellable [] = Unit {0}
AreSpellable (token ∷ tokens) = IsSpellable token.what × AreSpellable tokens

-- ---- what bytes spell

abbrev IsGood : Lexeme → Type 0
IsGood (WordLexeme name) = is_word name ≡ true
IsGood (NumberLexeme value suffixed) = Unit {0}
IsGood (TextLexeme text) = list_all is_text_byte text ≡ true
IsGood (SignLexeme sign) = Unit {0}

abbrev OnGood : Option Lexeme → Type 0
OnGood None = Unit {0}
OnGood (Some lexeme) = IsGood lexeme

abbrev OnText : Option (List ℕ) → Type 0
OnText None = Unit {0}
OnText (Some text) = list_all is_text_byte text ≡ true

OnText-more : (byte : ℕ) (o : Option (List ℕ)) → is_text_byte byte ≡ true → OnText o → OnText (option_map (λ bytes. byte ∷ bytes) o)
OnText-more byte None text rest = tt
OnText-more byte (Some bytes) text rest = rw text rest

OnText-pair : (escaped : Option ℕ) (o : Option (List ℕ)) → ((byte : ℕ) → escaped ≡ Some byte → is_text_byte byte ≡ true) → OnText o → OnText (option_and_then (λ byte. option_map (λ bytes. byte ∷ bytes) o) escaped)
OnText-pair None o text rest = tt
OnText-pair (Some byte) o text rest = OnText-more byte o (text byte refl) rest

some-is : (a b : ℕ) → Some a ≡ Some b → a ≡ b
some-is a b e = cc

escape_of-text : (second byte : ℕ) → escape_of second ≡ Some byte → is_text_byte byte ≡ true
escape_of-text second byte is =
    elim (cases_Bool (second == 110)) [
      | inl a ↦ subst (λ b. is_text_byte b ≡ true) (some-is 10 byte (rw a at is)) refl
      | inr a ↦
          elim (cases_Bool (second == 116)) [
            | inl b ↦ subst (λ b. is_text_byte b ≡ true) (some-is 9 byte (rw (a, b) at is)) refl
            | inr b ↦
                elim (cases_Bool (second == 92)) [
                  | inl c ↦ subst (λ b. is_text_byte b ≡ true) (some-is 92 byte (rw (a, b, c) at is)) refl
                  | inr c ↦
                      elim (cases_Bool (second == 34)) [
                        | inl d ↦ subst (λ b. is_text_byte b ≡ true) (some-is 34 byte (rw (a, b, c, d) at is)) refl
                        | inr d ↦ let none : None ≡ Some byte = rw (a, b, c, d) at is in cc
                      ]
                ]
          ]
    ]

printable-text : (byte : ℕ) → is_from_to 32 126 byte ≡ true → is_text_byte byte ≡ true
printable-text byte printable = grind (arith, nat_tests)

string_rest_of-text : (bytes : List ℕ) → OnText (string_rest_of bytes)
string_rest_of-text [] = tt
string_rest_of-text (byte ∷ []) = elim (cases_Bool (byte == 34)) [ inl quote ↦ rw quote refl | inr other ↦ rw other tt ]
string_rest_of-text (byte ∷ next ∷ rest) =
    elim (cases_Bool (byte == 34)) [
      | inl quote ↦ rw quote tt
      | inr other ↦
          elim (cases_Bool (byte == 92)) [
            | inl pair ↦ rw (other, pair) (OnText-pair (escape_of next) (string_rest_of rest) (escape_of-text next) (string_rest_of-text rest))
            | inr single ↦
                elim (cases_Bool (is_from_to 32 126 byte)) [
                  | inl printable ↦ rw (other, single, printable) (OnText-more byte (string_rest_of (next ∷ rest)) (printable-text byte printable) (string_rest_of-text (next ∷ rest)))
                  | inr foreign ↦ rw (other, single, foreign) tt
                ]
          ]
    ]

string_of-text : (bytes : List ℕ) → OnText (string_of bytes)
string_of-text [] = tt
string_of-text (quote ∷ rest) = elim (cases_Bool (quote == 34)) [ inl is ↦ rw is (string_rest_of-text rest) | inr other ↦ rw other tt ]

good_text : (o : Option (List ℕ)) → OnText o → OnGood (option_map TextLexeme o)
good_text None text = tt
good_text (Some bytes) text = text

good_sign : (o : Option _) → OnGood (option_map SignLexeme o)
good_sign None = tt
good_sign (Some sign) = tt

good_numeral : (suffixed : Bool) (o : Option ℕ) → OnGood (option_map (λ value. NumberLexeme value suffixed) o)
good_numeral suffixed None = tt
good_numeral suffixed (Some value) = tt

good_if : (test : Bool) (one other : Option Lexeme) → (test ≡ true → OnGood one) → (test ≡ false → OnGood other) → OnGood (if test then one else other)
good_if true one other holds fails = holds refl
good_if false one other holds fails = fails refl

good_number : (bytes : List ℕ) → OnGood (number_of bytes)
good_number bytes = good_if (is_suffixed bytes) _ _ (λ e. good_numeral true (numeral_of (take (length bytes - 1) bytes))) (λ e. good_numeral false (numeral_of bytes))

lexeme_of-good : (bytes : List ℕ) → OnGood (lexeme_of bytes)
unfolding lexeme_of
lexeme_of-good [] = tt
lexeme_of-good (first ∷ rest) =
    good_if (is_letter first) _ _
    (λ letter. good_if (is_word (first ∷ rest)) (Some (WordLexeme (first ∷ rest))) None (λ word. word) (λ e. tt))
    (λ e. good_if (is_digit first) (number_of (first ∷ rest)) _ (λ e. good_number (first ∷ rest))
    (λ e. good_if (first == 34) (option_map TextLexeme (string_of (first ∷ rest))) _ (λ e. good_text (string_of (first ∷ rest)) (string_of-text (first ∷ rest)))
    (λ e. good_sign (sign_of (first ∷ rest)))))

abbrev OnFound : Option (ℕ × Lexeme) → Type 0
OnFound None = Unit {0}
OnFound (Some found) = IsGood found.1

longest_step : (o : Option Lexeme) (most : ℕ) (rest : List ℕ) → OnGood o → OnFound (longest_of most rest) → OnFound (elim o [ Some spelled ↦ Some (suc most, spelled) | None ↦ longest_of most rest ])
longest_step None most rest here shorter = shorter
longest_step (Some spelled) most rest here shorter = here

longest_of-good : (most : ℕ) (rest : List ℕ) → OnFound (longest_of most rest)
longest_of-good zero rest = tt
longest_of-good (suc most) rest = longest_step (lexeme_of (take (suc most) rest)) most rest (lexeme_of-good (take (suc most) rest)) (longest_of-good most rest)

-- ---- what stands at the front of a rest

abbrev OnPiece : Piece → Type 0
OnPiece (Passed bytes) = Unit {0}
OnPiece (Found bytes kind) = IsSpellable kind
OnPiece (Faulty fault) = Unit {0}

piece_if : (test : Bool) (one other : Piece) → (test ≡ true → OnPiece one) → (test ≡ false → OnPiece other) → OnPiece (if test then one else other)
piece_if true one other holds fails = holds refl
piece_if false one other holds fails = fails refl

nat_le-fits : (n : ℕ) → nat_le n 255 ≡ true → n ≤ 255
nat_le-fits n fits = grind (arith, nat_tests)

nat_lt-fits : (n m : ℕ) → not (nat_lt n m) ≡ false → n < m
nat_lt-fits n m fits = grind (arith, nat_tests)

int-short : (suffixed : Bool) (value : ℕ) → (if suffixed || nat_lt 2147483647 value then Long else Int) ≡ Int → value ≤ 2147483647
int-short true value is = cc
int-short false value is =
    elim (cases_Bool (nat_lt 2147483647 value)) [
      | inl large ↦ let no : Long ≡ Int = rw large at is in cc
      | inr small ↦ grind (arith, nat_tests)
    ]

judged-good : (n : ℕ) (lexeme : Lexeme) (after : List ℕ) → IsGood lexeme → OnPiece (judged n lexeme after)
judged-good n (WordLexeme name) after good = piece_if (nat_le (length name) 255) (Found n (kinds.Word name)) (Faulty LongName) (λ short. (good, nat_le-fits (length name) short)) (λ e. tt)
judged-good n (NumberLexeme value suffixed) after good =
    piece_if (not (list_all (λ byte. not (is_word_byte byte)) (take 1 after))) (Faulty NoToken) _ (λ e. tt)
    (λ e. piece_if (not (nat_lt value (2 ^ 63))) (Faulty Wide) (Found n (kinds.Number (if suffixed || nat_lt 2147483647 value then Long else Int) (pos value))) (λ e. tt)
    (λ fits. record { digits = value; is = refl; fits = nat_lt-fits value (2 ^ 63) fits; short = int-short suffixed value }))
judged-good n (TextLexeme text) after good = piece_if (nat_le (length text) 255) (Found n (kinds.Text text)) (Faulty LongName) (λ short. (good, nat_le-fits (length text) short)) (λ e. tt)
judged-good n (SignLexeme sign) after good = tt

token_at-good : (rest : List ℕ) → OnPiece (token_at rest)
unfolding token_at
token_at-good rest = found (longest_of (length rest) rest) (longest_of-good (length rest) rest)
  where
    found : (o : Option (ℕ × Lexeme)) → OnFound o → OnPiece (elim o [ Some found ↦ judged found.0 found.1 (drop found.0 rest) | None ↦ Faulty NoToken ])
    found None good = tt
    found (Some it) good = judged-good it.0 it.1 (drop it.0 rest) good

commented-good : (o : Option ℕ) → OnPiece (commented o)
commented-good None = tt
commented-good (Some bytes) = tt

piece_at-good : (begins_line : Bool) (rest : List ℕ) → 0 < length rest → OnPiece (piece_at begins_line rest)
piece_at-good begins_line rest some =
    let included : Piece = if begins rest (codes "#include") && begins_line then Passed (line_rest rest) else Faulty NoToken in
    let hashed : Piece = if slice_index rest 0 == 35 then included else token_at rest in
    let block : Piece = if begins rest (codes "/*") then commented (comment_rest (drop 2 rest)) else hashed in
    let line : Piece = if begins rest (codes "//") then Passed (line_rest rest) else block in
    subst OnPiece (sym (piece_at-some begins_line rest some))
    (piece_if (is_blank (slice_index rest 0)) (Passed 1) line (λ e. tt)
    (λ e. piece_if (begins rest (codes "//")) (Passed (line_rest rest)) block (λ e. tt)
    (λ e. piece_if (begins rest (codes "/*")) (commented (comment_rest (drop 2 rest))) hashed (λ e. commented-good (comment_rest (drop 2 rest)))
    (λ e. piece_if (slice_index rest 0 == 35) included (token_at rest)
    (λ e. piece_if (begins rest (codes "#include") && begins_line) (Passed (line_rest rest)) (Faulty NoToken) (λ e. tt) (λ e. tt))
    (λ e. token_at-good rest)))))

-- ---- the tokens of a text

abbrev OnTokens : Result (List Token) TokenFault → Type 0
OnTokens (Ok tokens) = AreSpellable tokens
OnTokens (Err fault) = Unit {0}

with_good : (token : Token) (found : Result (List Token) TokenFault) → IsSpellable token.what → OnTokens found → OnTokens (with_token token found)
with_good token (Ok tokens) here rest = (here, rest)
with_good token (Err fault) here rest = tt

by_piece : (piece : Piece) (token : TokenKind → Token) (further : ℕ → Result (List Token) TokenFault) (at : ℕ) → ((kind : TokenKind) → (token kind).what ≡ kind) → ((n : ℕ) → OnTokens (further n)) → OnPiece piece → OnTokens (elim piece [
  | Passed bytes ↦ further bytes
  | Found bytes kind ↦ with_token (token kind) (further bytes)
  | Faulty fault ↦ Err (fault at)
])
by_piece (Passed bytes) token further at same rest good = rest bytes
by_piece (Found bytes kind) token further at same rest good = with_good (token kind) (further bytes) (subst IsSpellable (sym (same kind)) good) (rest bytes)
by_piece (Faulty fault) token further at same rest good = tt

tokens_from-good : (pieces : ℕ) (before rest : List ℕ) → OnTokens (tokens_from pieces before rest)
tokens_from-good zero before [] = tt
tokens_from-good (suc fewer) before [] = tt
tokens_from-good zero before (byte ∷ rest) = tt
tokens_from-good (suc fewer) before (byte ∷ rest) =
    by_piece (piece_at (is_line_start before) (byte ∷ rest)) (λ kind. record { what = kind; line = line_after before })
    (λ n. tokens_from fewer (before ++ take n (byte ∷ rest)) (drop n (byte ∷ rest))) (length before) (λ kind. refl)
    (λ n. tokens_from-good fewer (before ++ take n (byte ∷ rest)) (drop n (byte ∷ rest))) (piece_at-good (is_line_start before) (byte ∷ rest) (omega arith))

pub tokens_spellable : (text : List ℕ) (tokens : List Token) → tokens_of text ≡ Ok tokens → AreSpellable tokens
unfolding tokens_of
tokens_spellable text tokens lexed = subst OnTokens lexed (tokens_from-good (length text) [] text)
