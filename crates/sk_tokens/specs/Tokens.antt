-- The tokens of a source text.
use Rattle.std.specs.Prelude.{ℕ, zero, suc, ◌+◌, ◌^◌, Bool, not, ◌&&◌, ◌||◌, ◌==◌, nat_le, nat_lt, if◌then◌else◌, List, [], ◌∷◌, ◌++◌, length, take, drop, pos, Option, Some, None, Result, Ok, Err, count_by, reverse, codes}
use Rattle.std.specs.List.{list_all, take_while, starts_with}
use Rattle.sk_base.specs.declared.number.Ty.TheVariants.{Int, Long}
use Rattle.sk_tokens.specs.declared.token.Token.{Token}
use Rattle.sk_tokens.specs.declared.token.TokenKind.{TokenKind}
use Rattle.sk_tokens.specs.declared.token.TokenKind.TheVariants.{Word, Number, Text, Sign}
use Rattle.sk_tokens.specs.Lexemes.{Lexeme, WordLexeme, NumberLexeme, TextLexeme, SignLexeme, lexeme_of, is_blank}
use Rattle.sk_names.specs.Bytes.{is_word_byte}

-- Why a text has no tokens, with its least faulty byte: the first byte of what is no token, of a number above 2^63 - 1,
-- or of a name or a string above 255 bytes.
pub data TokenFault : Type 0 where
  NoToken : (at : ℕ) → TokenFault
  Wide : (at : ℕ) → TokenFault
  LongName : (at : ℕ) → TokenFault

-- What stands at the front of a rest: bytes that are passed over, a token with its bytes, or a fault.
pub data Piece : Type 0 where
  Passed : (bytes : ℕ) → Piece
  Found : (bytes : ℕ) → TokenKind → Piece
  Faulty : (ℕ → TokenFault) → Piece

-- the longest of the fronts of 1 to `most` bytes that spell something, with its number of bytes
abbrev pub longest_of : (most : ℕ) → (rest : List ℕ) → Option (ℕ × Lexeme)
longest_of zero rest = None
longest_of (suc fewer) rest = elim (lexeme_of (take (suc fewer) rest)) [ Some lexeme ↦ Some (suc fewer, lexeme) | None ↦ longest_of fewer rest ]

-- how many bytes the line has from here on, its line feed not among them
abbrev pub line_rest : List ℕ → ℕ
line_rest rest = length (take_while (λ byte. not (byte == 10)) rest)

-- how many bytes a comment has from here up to the end of the next `*/`, if there is one
abbrev pub comment_rest : List ℕ → Option ℕ
comment_rest [] = None
comment_rest (byte ∷ rest) =
    if starts_with (λ a b. a == b) (byte ∷ rest) (codes "*/") then Some 2
    else elim (comment_rest rest) [ Some bytes ↦ Some (suc bytes) | None ↦ None ]

-- blanks alone stand on the line before this place
abbrev pub is_line_start : (before : List ℕ) → Bool
is_line_start before = list_all is_blank (take_while (λ byte. not (byte == 10)) (reverse before))

-- the line of a place, from 1
abbrev pub line_after : (before : List ℕ) → ℕ
line_after before = count_by (λ byte. byte == 10) before + 1

-- a word or a string is at most 255 bytes long, and a number at most 2^63 - 1 and not followed by a letter, digit or `_`
abbrev pub judged : ℕ → Lexeme → (after : List ℕ) → Piece
judged bytes (WordLexeme name) after = if nat_le (length name) 255 then Found bytes (Word name) else Faulty LongName
judged bytes (NumberLexeme value suffixed) after =
    if not (list_all (λ byte. not (is_word_byte byte)) (take 1 after)) then Faulty NoToken
    else if not (nat_lt value (2 ^ 63)) then Faulty Wide
    else Found bytes (Number (if suffixed || nat_lt 2147483647 value then Long else Int) (pos value))
judged bytes (TextLexeme text) after = if nat_le (length text) 255 then Found bytes (Text text) else Faulty LongName
judged bytes (SignLexeme sign) after = Found bytes (Sign sign)

-- the longest token at the front of the rest
unfoldable pub token_at : (rest : List ℕ) → Piece
token_at rest = elim (longest_of (length rest) rest) [ Some found ↦ judged found.0 found.1 (drop found.0 rest) | None ↦ Faulty NoToken ]

-- What stands at the front of the rest, before which blanks alone stand on the line or not. Blanks, comments and lines
-- that begin with `#include` are passed over; else it is the longest token.
unfoldable pub piece_at : (begins_line : Bool) → (rest : List ℕ) → Piece
piece_at begins_line [] = Faulty NoToken
piece_at begins_line (byte ∷ rest) =
    let all : List ℕ = byte ∷ rest in
    let begins : List ℕ → Bool = starts_with (λ a b. a == b) all in
    if is_blank byte then Passed 1
    else if begins (codes "//") then Passed (line_rest all)
    else if begins (codes "/*") then elim (comment_rest (drop 2 all)) [ Some bytes ↦ Passed (2 + bytes) | None ↦ Faulty NoToken ]
    else if byte == 35 then (if begins (codes "#include") && begins_line then Passed (line_rest all) else Faulty NoToken)
    else token_at all

-- one more token in front, unless there is a fault
abbrev pub with_token : Token → Result (List Token) TokenFault → Result (List Token) TokenFault
with_token token (Ok tokens) = Ok (token ∷ tokens)
with_token token (Err fault) = Err fault

-- the tokens of the rest of a text, of which at most that many pieces are taken
abbrev pub tokens_from : (pieces : ℕ) → (before rest : List ℕ) → Result (List Token) TokenFault
tokens_from pieces before [] = Ok []
tokens_from zero before (byte ∷ rest) = Ok []
tokens_from (suc fewer) before (byte ∷ rest) =
    let all : List ℕ = byte ∷ rest in
    let further : ℕ → Result (List Token) TokenFault = λ bytes. tokens_from fewer (before ++ take bytes all) (drop bytes all) in
    elim (piece_at (is_line_start before) all) [
      | Passed bytes ↦ further bytes
      | Found bytes kind ↦ with_token (record { what = kind; line = line_after before }) (further bytes)
      | Faulty fault ↦ Err (fault (length before))
    ]

-- The tokens of a text with their lines, or its least fault. Each piece has a byte, so a text has no more pieces than
-- bytes.
unfoldable pub tokens_of : List ℕ → Result (List Token) TokenFault
tokens_of text = tokens_from (length text) [] text
