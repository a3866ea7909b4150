-- The words and texts among the tokens of a text are short.
use Rattle.std.proofs.Common.{◌≡◌, ℕ, zero, suc, ◌<◌, ◌^◌, Bool, true, false, List, [], ◌∷◌, ◌++◌, length, take, drop, pos, Option, Some, None, Result, Ok, Err, if◌then◌else◌, refl, sym, subst, arith, slice_index}
use Rattle.std.proofs.lemmas.Bool.{and_from}
use Rattle.std.specs.Prelude.{◌&&◌, ◌||◌, ◌==◌, not, nat_le, nat_lt, codes}
use Rattle.std.specs.List.{list_all}
use Rattle.std.specs.Option.{option_map, option_and_then}
use Rattle.sk_base.specs.declared.number.Ty.TheVariants.{Int, Long}
use Rattle.sk_main_code.specs.Sound.{is_text_byte, most_bytes}
use Rattle.sk_names.specs.Bytes.{is_digit, is_from_to, is_letter, is_word_byte}
use Rattle.sk_names.specs.Words.{is_word}
use Rattle.sk_token_laws.proofs.Pieces.{commented, begins, piece_at-some}
use Rattle.sk_tokens.specs.Lexemes.{Lexeme, WordLexeme, NumberLexeme, TextLexeme, SignLexeme, escape_of, is_blank, is_suffixed, lexeme_of, number_of, numeral_of, sign_of, string_of, string_rest_of}
use Rattle.sk_tokens.specs.Tokens.{TokenFault, Piece, Passed, Found, Faulty, NoToken, Wide, LongName, line_rest, comment_rest, longest_of, judged, token_at, piece_at, is_line_start, line_after, with_token, tokens_from, tokens_of}
use Rattle.sk_tokens.specs.declared.token.Sign.{Sign}
use Rattle.sk_tokens.specs.declared.token.Token.{Token}
use Rattle.sk_tokens.specs.declared.token.TokenKind.TheVariants.{Word, Number, Text}
use Rattle.sk_vector_laws.specs.Names.{AreShort, kind_short}

-- what holds of the branch that is taken
if_holds : {A : Type 0} (P : A → Type 0) (test : Bool) (one other : A) → (test ≡ true → P one) → (test ≡ false → P other) → P (if test then one else other)
if_holds P true one other h g = h refl
if_holds P false one other h g = g refl

last_holds : (a b c : Bool) → c ≡ true → (a || b || c) ≡ true
last_holds true b c e = refl
last_holds false true c e = refl
last_holds false false c e = e

-- ---- what bytes spell

abbrev IsTextOf : Option (List ℕ) → Type 0
IsTextOf (Some text) = list_all is_text_byte text ≡ true
IsTextOf None = Unit {0}

abbrev IsTextByte : Option ℕ → Type 0
IsTextByte (Some byte) = is_text_byte byte ≡ true
IsTextByte None = Unit {0}

escaped : (next : ℕ) → IsTextByte (escape_of next)
escaped next =
    if_holds IsTextByte (next == 110) (Some 10) _ (λ e. refl)
    (λ e. if_holds IsTextByte (next == 116) (Some 9) _ (λ e. refl)
    (λ e. if_holds IsTextByte (next == 92) (Some 92) _ (λ e. refl)
    (λ e. if_holds IsTextByte (next == 34) (Some 34) None (λ e. refl) (λ e. tt))))

onto : (byte : ℕ) (rest : Option (List ℕ)) → is_text_byte byte ≡ true → IsTextOf rest → IsTextOf (option_map (λ bytes. byte ∷ bytes) rest)
onto byte (Some text) e h = and_from (is_text_byte byte) (list_all is_text_byte text) e h
onto byte None e h = tt

pair_onto : (pair : Option ℕ) (rest : Option (List ℕ)) → IsTextByte pair → IsTextOf rest
    → IsTextOf (option_and_then (λ escaped. option_map (λ bytes. escaped ∷ bytes) rest) pair)
pair_onto (Some byte) rest e h = onto byte rest e h
pair_onto None rest e h = tt

printable : (byte : ℕ) → is_from_to 32 126 byte ≡ true → is_text_byte byte ≡ true
printable byte e = last_holds (byte == 9) (byte == 10) (is_from_to 32 126 byte) e

rest_spells : (bytes : List ℕ) → IsTextOf (string_rest_of bytes)
rest_spells [] = tt
rest_spells (byte ∷ []) = if_holds IsTextOf (byte == 34) (Some []) None (λ e. refl) (λ e. tt)
rest_spells (byte ∷ next ∷ rest) =
    let one = rest_spells rest in
    let other = rest_spells (next ∷ rest) in
    if_holds IsTextOf (byte == 34) None _ (λ e. tt)
    (λ e. if_holds IsTextOf (byte == 92) (option_and_then (λ escaped. option_map (λ bytes. escaped ∷ bytes) (string_rest_of rest)) (escape_of next)) _
    (λ e. pair_onto (escape_of next) (string_rest_of rest) (escaped next) one)
    (λ e. if_holds IsTextOf (is_from_to 32 126 byte) (option_map (λ bytes. byte ∷ bytes) (string_rest_of (next ∷ rest))) None
    (λ e. onto byte (string_rest_of (next ∷ rest)) (printable byte e) other) (λ e. tt)))

string_spells : (bytes : List ℕ) → IsTextOf (string_of bytes)
string_spells [] = tt
string_spells (quote ∷ rest) = if_holds IsTextOf (quote == 34) (string_rest_of rest) None (λ e. rest_spells rest) (λ e. tt)

abbrev is_spelt : Lexeme → Bool
is_spelt (WordLexeme name) = is_word name
is_spelt (NumberLexeme value suffixed) = true
is_spelt (TextLexeme text) = list_all is_text_byte text
is_spelt (SignLexeme sign) = true

abbrev IsSpelt : Option Lexeme → Type 0
IsSpelt (Some lexeme) = is_spelt lexeme ≡ true
IsSpelt None = Unit {0}

number_is : (suffixed : Bool) (value : Option ℕ) → IsSpelt (option_map (λ value. NumberLexeme value suffixed) value)
number_is suffixed (Some value) = refl
number_is suffixed None = tt

number_spells : (bytes : List ℕ) → IsSpelt (number_of bytes)
number_spells bytes =
    if_holds IsSpelt (is_suffixed bytes) _ _ (λ e. number_is true _) (λ e. number_is false (numeral_of bytes))

text_is : (text : Option (List ℕ)) → IsTextOf text → IsSpelt (option_map TextLexeme text)
text_is (Some text) h = h
text_is None h = tt

sign_is : (sign : Option Sign) → IsSpelt (option_map SignLexeme sign)
sign_is (Some sign) = refl
sign_is None = tt

lexeme_spells : (bytes : List ℕ) → IsSpelt (lexeme_of bytes)
unfolding lexeme_of
lexeme_spells [] = tt
lexeme_spells (first ∷ rest) =
    let bytes : List ℕ = first ∷ rest in
    if_holds IsSpelt (is_letter first) _ _
    (λ e. if_holds IsSpelt (is_word bytes) (Some (WordLexeme bytes)) None (λ e. e) (λ e. tt))
    (λ e. if_holds IsSpelt (is_digit first) (number_of bytes) _ (λ e. number_spells bytes)
    (λ e. if_holds IsSpelt (first == 34) (option_map TextLexeme (string_of bytes)) (option_map SignLexeme (sign_of bytes))
    (λ e. text_is (string_of bytes) (string_spells bytes)) (λ e. sign_is (sign_of bytes))))

-- ---- pieces and tokens

abbrev IsSpeltFront : Option (ℕ × Lexeme) → Type 0
IsSpeltFront (Some found) = is_spelt found.1 ≡ true
IsSpeltFront None = Unit {0}

longest_spells : (most : ℕ) (rest : List ℕ) → IsSpeltFront (longest_of most rest)
longest_spells zero rest = tt
longest_spells (suc fewer) rest = by_lexeme (lexeme_of (take (suc fewer) rest)) (lexeme_spells (take (suc fewer) rest)) (longest_spells fewer rest)
  where
    by_lexeme : (found : Option Lexeme) → IsSpelt found → IsSpeltFront (longest_of fewer rest)
        → IsSpeltFront (elim found as (λ _. Option (ℕ × Lexeme)) [ Some lexeme ↦ Some (suc fewer, lexeme) | None ↦ longest_of fewer rest ])
    by_lexeme (Some lexeme) h later = h
    by_lexeme None h later = later

abbrev IsShortPiece : Piece → Type 0
IsShortPiece (Passed bytes) = Unit {0}
IsShortPiece (Found bytes kind) = kind_short kind ≡ true
IsShortPiece (Faulty fault) = Unit {0}

judged_short : (bytes : ℕ) (lexeme : Lexeme) (after : List ℕ) → is_spelt lexeme ≡ true → IsShortPiece (judged bytes lexeme after)
judged_short bytes (WordLexeme name) after h =
    if_holds IsShortPiece (nat_le (length name) most_bytes) (Found bytes (Word name)) (Faulty LongName) (λ e. and_from (is_word name) (nat_le (length name) most_bytes) h e) (λ e. tt)
judged_short bytes (NumberLexeme value suffixed) after h =
    if_holds IsShortPiece (not (list_all (λ byte. not (is_word_byte byte)) (take 1 after))) (Faulty NoToken) _ (λ e. tt)
    (λ e. if_holds IsShortPiece (not (nat_lt value (2 ^ 63))) (Faulty Wide) (Found bytes (Number (if suffixed || nat_lt 2147483647 value then Long else Int) (pos value))) (λ e. tt) (λ e. refl))
judged_short bytes (TextLexeme text) after h =
    if_holds IsShortPiece (nat_le (length text) most_bytes) (Found bytes (Text text)) (Faulty LongName) (λ e. and_from (list_all is_text_byte text) (nat_le (length text) most_bytes) h e) (λ e. tt)
judged_short bytes (SignLexeme sign) after h = refl

token_short : (rest : List ℕ) → IsShortPiece (token_at rest)
unfolding token_at
token_short rest = by_found (longest_of (length rest) rest) (longest_spells (length rest) rest)
  where
    by_found : (found : Option (ℕ × Lexeme)) → IsSpeltFront found
        → IsShortPiece (elim found as (λ _. Piece) [ Some found ↦ judged found.0 found.1 (drop found.0 rest) | None ↦ Faulty NoToken ])
    by_found (Some found) h = judged_short found.0 found.1 (drop found.0 rest) h
    by_found None h = tt

commented_short : (bytes : Option ℕ) → IsShortPiece (commented bytes)
commented_short (Some bytes) = tt
commented_short None = tt

piece_short : (begins_line : Bool) (rest : List ℕ) → 0 < length rest → IsShortPiece (piece_at begins_line rest)
piece_short begins_line rest some =
    subst IsShortPiece (sym (piece_at-some begins_line rest some))
    (if_holds IsShortPiece (is_blank (slice_index rest 0)) (Passed 1) _ (λ e. tt)
    (λ e. if_holds IsShortPiece (begins rest (codes "//")) (Passed (line_rest rest)) _ (λ e. tt)
    (λ e. if_holds IsShortPiece (begins rest (codes "/*")) (commented (comment_rest (drop 2 rest))) _ (λ e. commented_short (comment_rest (drop 2 rest)))
    (λ e. if_holds IsShortPiece (slice_index rest 0 == 35) (if begins rest (codes "#include") && begins_line then Passed (line_rest rest) else Faulty NoToken) (token_at rest)
    (λ e. if_holds IsShortPiece (begins rest (codes "#include") && begins_line) (Passed (line_rest rest)) (Faulty NoToken) (λ e. tt) (λ e. tt)) (λ e. token_short rest)))))

abbrev AreShortResult : Result (List Token) TokenFault → Type 0
AreShortResult (Ok tokens) = AreShort tokens
AreShortResult (Err fault) = Unit {0}

with_short : (token : Token) (rest : Result (List Token) TokenFault) → kind_short token.what ≡ true → AreShortResult rest → AreShortResult (with_token token rest)
with_short token (Ok tokens) e h = (e, h)
with_short token (Err fault) e h = tt

onwards_short : (line at : ℕ) (further : ℕ → Result (List Token) TokenFault) → ((bytes : ℕ) → AreShortResult (further bytes)) → (piece : Piece) → IsShortPiece piece
    → AreShortResult (elim piece as (λ _. Result (List Token) TokenFault) [
      | Passed bytes ↦ further bytes
      | Found bytes kind ↦ with_token (record { what = kind; line = line }) (further bytes)
      | Faulty fault ↦ Err (fault at)
    ])
onwards_short line at further f (Passed bytes) h = f bytes
onwards_short line at further f (Found bytes kind) h = with_short (record { what = kind; line = line }) (further bytes) h (f bytes)
onwards_short line at further f (Faulty fault) h = tt

from_short : (pieces : ℕ) (before rest : List ℕ) → AreShortResult (tokens_from pieces before rest)
from_short zero before [] = tt
from_short (suc fewer) before [] = tt
from_short zero before (byte ∷ rest) = tt
from_short (suc fewer) before (byte ∷ rest) =
    onwards_short (line_after before) (length before) (λ bytes. tokens_from fewer (before ++ take bytes (byte ∷ rest)) (drop bytes (byte ∷ rest)))
    (λ bytes. from_short fewer (before ++ take bytes (byte ∷ rest)) (drop bytes (byte ∷ rest)))
    (piece_at (is_line_start before) (byte ∷ rest)) (piece_short (is_line_start before) (byte ∷ rest) (omega arith))

pub tokens_short : (text : List ℕ) (tokens : List Token) → tokens_of text ≡ Ok tokens → AreShort tokens
unfolding tokens_of
tokens_short text tokens e = subst AreShortResult e (from_short (length text) [] text)
