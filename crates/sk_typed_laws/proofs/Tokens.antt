-- Each number among the tokens of a text fits its type.
use Rattle.std.proofs.Common.{◌≡◌, ℕ, zero, suc, ◌<◌, ◌≤◌, ◌^◌, Bool, true, false, List, [], ◌∷◌, ◌++◌, length, take, drop, pos, Option, Some, None, Result, Ok, Err, if◌then◌else◌, refl, sym, subst, arith, slice_index}
use Rattle.std.proofs.lemmas.Bool.{ltb-true, ltb-false, le-leb}
use Rattle.std.specs.Prelude.{◌&&◌, ◌||◌, ◌==◌, not, nat_le, nat_lt, codes}
use Rattle.std.specs.List.{list_all}
use Rattle.sk_base.specs.declared.number.Ty.TheVariants.{Int, Long}
use Rattle.sk_names.specs.Bytes.{is_word_byte}
use Rattle.sk_plain.specs.Plain.{fits_type}
use Rattle.sk_token_laws.proofs.Pieces.{commented, begins, piece_at-some}
use Rattle.sk_typed_laws.specs.Forms.{kind_sized, AreSized, NumbersFit}
use Rattle.sk_tokens.specs.Lexemes.{Lexeme, WordLexeme, NumberLexeme, TextLexeme, SignLexeme, is_blank}
use Rattle.sk_tokens.specs.Tokens.{TokenFault, Piece, Passed, Found, Faulty, NoToken, Wide, LongName, line_rest, comment_rest, longest_of, judged, token_at, piece_at, is_line_start, line_after, with_token, tokens_from, tokens_of}
use Rattle.sk_tokens.specs.declared.token.Token.{Token}
use Rattle.sk_tokens.specs.declared.token.TokenKind.TheVariants.{Word, Number, Text}

abbrev IsSizedPiece : Piece → Type 0
IsSizedPiece (Passed bytes) = Unit {0}
IsSizedPiece (Found bytes kind) = kind_sized kind ≡ true
IsSizedPiece (Faulty fault) = Unit {0}

if_sized : (test : Bool) (one other : Piece) → IsSizedPiece one → IsSizedPiece other → IsSizedPiece (if test then one else other)
if_sized true one other h g = h
if_sized false one other h g = g

long_fits : (value : ℕ) → value ≤ 9223372036854775807 → fits_type Long (pos value) ≡ true
long_fits value low = le-leb value 9223372036854775807 low

int_fits : (value : ℕ) → value ≤ 2147483647 → fits_type Int (pos value) ≡ true
int_fits value low = le-leb value 2147483647 low

number_fits : (suffixed wide : Bool) (value : ℕ) → nat_lt 2147483647 value ≡ wide → value ≤ 9223372036854775807
    → fits_type (if suffixed || wide then Long else Int) (pos value) ≡ true
number_fits true wide value is low = long_fits value low
number_fits false true value is low = long_fits value low
number_fits false false value is low = int_fits value (ltb-false 2147483647 value is)

judged_number : (bytes value : ℕ) (suffixed ends low : Bool) → nat_lt value (2 ^ 63) ≡ low
    → IsSizedPiece (if not ends then Faulty NoToken else if not low then Faulty Wide else Found bytes (Number (if suffixed || nat_lt 2147483647 value then Long else Int) (pos value)))
judged_number bytes value suffixed false low is = tt
judged_number bytes value suffixed true false is = tt
judged_number bytes value suffixed true true is =
    let below : value < 9223372036854775808 = ltb-true value 9223372036854775808 is in
    number_fits suffixed (nat_lt 2147483647 value) value refl (omega (arith, below))

judged_sized : (bytes : ℕ) (lexeme : Lexeme) (after : List ℕ) → IsSizedPiece (judged bytes lexeme after)
judged_sized bytes (WordLexeme name) after = if_sized (nat_le (length name) 255) (Found bytes (Word name)) (Faulty LongName) refl tt
judged_sized bytes (NumberLexeme value suffixed) after =
    judged_number bytes value suffixed (list_all (λ byte. not (is_word_byte byte)) (take 1 after)) (nat_lt value (2 ^ 63)) refl
judged_sized bytes (TextLexeme text) after = if_sized (nat_le (length text) 255) (Found bytes (Text text)) (Faulty LongName) refl tt
judged_sized bytes (SignLexeme sign) after = refl

token_at_sized : (rest : List ℕ) → IsSizedPiece (token_at rest)
unfolding token_at
token_at_sized rest = by_found (longest_of (length rest) rest)
  where
    by_found : (found : Option (ℕ × Lexeme)) → IsSizedPiece (elim found as (λ _. Piece) [ Some found ↦ judged found.0 found.1 (drop found.0 rest) | None ↦ Faulty NoToken ])
    by_found (Some found) = judged_sized found.0 found.1 (drop found.0 rest)
    by_found None = tt

commented_sized : (bytes : Option ℕ) → IsSizedPiece (commented bytes)
commented_sized (Some bytes) = tt
commented_sized None = tt

piece_sized : (begins_line : Bool) (rest : List ℕ) → 0 < length rest → IsSizedPiece (piece_at begins_line rest)
piece_sized begins_line rest some =
    subst IsSizedPiece (sym (piece_at-some begins_line rest some))
    (if_sized (is_blank (slice_index rest 0)) (Passed 1) _ tt
    (if_sized (begins rest (codes "//")) (Passed (line_rest rest)) _ tt
    (if_sized (begins rest (codes "/*")) (commented (comment_rest (drop 2 rest))) _ (commented_sized (comment_rest (drop 2 rest)))
    (if_sized (slice_index rest 0 == 35) (if begins rest (codes "#include") && begins_line then Passed (line_rest rest) else Faulty NoToken) (token_at rest)
    (if_sized (begins rest (codes "#include") && begins_line) (Passed (line_rest rest)) (Faulty NoToken) tt tt) (token_at_sized rest)))))

abbrev IsSizedResult : Result (List Token) TokenFault → Type 0
IsSizedResult (Ok tokens) = AreSized tokens
IsSizedResult (Err fault) = Unit {0}

with_sized : (token : Token) (rest : Result (List Token) TokenFault) → kind_sized token.what ≡ true → IsSizedResult rest → IsSizedResult (with_token token rest)
with_sized token (Ok tokens) e h = (e, h)
with_sized token (Err fault) e h = tt

onwards_sized : (line at : ℕ) (further : ℕ → Result (List Token) TokenFault) → ((bytes : ℕ) → IsSizedResult (further bytes)) → (piece : Piece) → IsSizedPiece piece
    → IsSizedResult (elim piece as (λ _. Result (List Token) TokenFault) [
      | Passed bytes ↦ further bytes
      | Found bytes kind ↦ with_token (record { what = kind; line = line }) (further bytes)
      | Faulty fault ↦ Err (fault at)
    ])
onwards_sized line at further f (Passed bytes) h = f bytes
onwards_sized line at further f (Found bytes kind) h = with_sized (record { what = kind; line = line }) (further bytes) h (f bytes)
onwards_sized line at further f (Faulty fault) h = tt

from_sized : (pieces : ℕ) (before rest : List ℕ) → IsSizedResult (tokens_from pieces before rest)
from_sized zero before [] = tt
from_sized (suc fewer) before [] = tt
from_sized zero before (byte ∷ rest) = tt
from_sized (suc fewer) before (byte ∷ rest) =
    onwards_sized (line_after before) (length before) (λ bytes. tokens_from fewer (before ++ take bytes (byte ∷ rest)) (drop bytes (byte ∷ rest)))
    (λ bytes. from_sized fewer (before ++ take bytes (byte ∷ rest)) (drop bytes (byte ∷ rest)))
    (piece_at (is_line_start before) (byte ∷ rest)) (piece_sized (is_line_start before) (byte ∷ rest) (omega arith))

pub tokens_sized : NumbersFit
unfolding tokens_of
tokens_sized text tokens e = subst IsSizedResult e (from_sized (length text) [] text)
