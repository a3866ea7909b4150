-- What bytes spell a word, a number, a string or a sign.
use Rattle.std.specs.Prelude.{ℕ, ◌+◌, ◌-◌, ◌*◌, Bool, true, false, ◌&&◌, ◌||◌, ◌==◌, if◌then◌else◌, List, [], ◌∷◌, length, take, slice_index, Option, Some, None, fold, find, codes}
use Rattle.std.specs.List.{list_all}
use Rattle.std.specs.Option.{option_map, option_and_then}
use Rattle.sk_tokens.specs.declared.token.Sign.{Sign}
use Rattle.sk_tokens.specs.declared.token.Sign.TheVariants.{ShlEq, ShrEq, Path, Shl, Shr, Le, Ge, EqEq, Ne, AndAnd, OrOr, PlusEq, MinusEq, StarEq, SlashEq, PercentEq, AndEq, OrEq, CaretEq, PlusPlus, MinusMinus, Plus, Minus, Star, Slash, Percent, And, Or, Caret, Tilde, Not, Lt, Gt, Eq, Question, Colon, OpenParen, CloseParen, OpenBracket, CloseBracket, OpenBrace, CloseBrace, Comma, Semi, Dot}
use Rattle.sk_names.specs.Bytes.{same_bytes, is_from_to, is_letter, is_digit}
use Rattle.sk_names.specs.Words.{is_word}

-- space, tab, carriage return and line feed
abbrev pub is_blank : ℕ → Bool
is_blank byte = byte == 32 || byte == 9 || byte == 13 || byte == 10

abbrev pub is_hex_digit : ℕ → Bool
is_hex_digit byte = is_digit byte || is_from_to 97 102 byte || is_from_to 65 70 byte

-- a digit's value, at base 10 or 16
abbrev pub digit_value : ℕ → ℕ
digit_value byte = if is_digit byte then byte - 48 else if is_from_to 97 102 byte then byte - 87 else byte - 55

-- the value of digits, the highest first
abbrev pub digits_value : ℕ → List ℕ → ℕ
digits_value base digits = fold (λ value digit. base * value + digit_value digit) 0 digits

-- What bytes may spell: a word, a number with or without a suffix, a string that stands for some bytes, or a sign.
pub data Lexeme : Type 0 where
  WordLexeme : List ℕ → Lexeme
  NumberLexeme : (value : ℕ) → (suffixed : Bool) → Lexeme
  TextLexeme : List ℕ → Lexeme
  SignLexeme : Sign → Lexeme

-- what may follow a leading `0`: nothing, or `x` and hexadecimal digits
abbrev pub after_zero : List ℕ → Option ℕ
after_zero [] = Some 0
after_zero (x ∷ []) = None
after_zero (x ∷ digit ∷ digits) =
    if x == 120 && list_all is_hex_digit (digit ∷ digits) then Some (digits_value 16 (digit ∷ digits)) else None

-- a number without a suffix: `0`, or a digit 1 to 9 and further digits, or `0x` and hexadecimal digits
abbrev pub numeral_of : List ℕ → Option ℕ
numeral_of [] = None
numeral_of (first ∷ rest) =
    if first == 48 then after_zero rest
    else if list_all is_digit (first ∷ rest) then Some (digits_value 10 (first ∷ rest)) else None

-- `L` or `l` stands last
abbrev pub is_suffixed : List ℕ → Bool
is_suffixed bytes = slice_index bytes (length bytes - 1) == 76 || slice_index bytes (length bytes - 1) == 108

-- a number, with its suffix if it has one
abbrev pub number_of : List ℕ → Option Lexeme
number_of bytes =
    if is_suffixed bytes then option_map (λ value. NumberLexeme value true) (numeral_of (take (length bytes - 1) bytes))
    else option_map (λ value. NumberLexeme value false) (numeral_of bytes)

-- what the pair of `\` and a byte stands for
abbrev pub escape_of : ℕ → Option ℕ
escape_of byte =
    if byte == 110 then Some 10 else if byte == 116 then Some 9 else if byte == 92 then Some 92
    else if byte == 34 then Some 34 else None

-- What the rest of a string stands for, which ends with the closing quote and nothing after it: the bytes 0x20 to 0x7E
-- other than `"` and `\` stand for themselves, and a pair for one byte.
abbrev pub string_rest_of : List ℕ → Option (List ℕ)
string_rest_of [] = None
string_rest_of (byte ∷ []) = if byte == 34 then Some [] else None
string_rest_of (byte ∷ next ∷ rest) =
    if byte == 34 then None
    else if byte == 92 then option_and_then (λ escaped. option_map (λ bytes. escaped ∷ bytes) (string_rest_of rest)) (escape_of next)
    else if is_from_to 32 126 byte then option_map (λ bytes. byte ∷ bytes) (string_rest_of (next ∷ rest))
    else None

-- a string between its quotes
abbrev pub string_of : List ℕ → Option (List ℕ)
string_of [] = None
string_of (quote ∷ rest) = if quote == 34 then string_rest_of rest else None

-- each sign and its spelling
unfoldable pub signs : List (List ℕ × Sign)
signs =
    (codes "<<=", ShlEq) ∷ (codes ">>=", ShrEq) ∷ (codes "::", Path) ∷ (codes "<<", Shl) ∷ (codes ">>", Shr)
    ∷ (codes "<=", Le) ∷ (codes ">=", Ge) ∷ (codes "==", EqEq) ∷ (codes "!=", Ne) ∷ (codes "&&", AndAnd)
    ∷ (codes "||", OrOr) ∷ (codes "+=", PlusEq) ∷ (codes "-=", MinusEq) ∷ (codes "*=", StarEq) ∷ (codes "/=", SlashEq)
    ∷ (codes "%=", PercentEq) ∷ (codes "&=", AndEq) ∷ (codes "|=", OrEq) ∷ (codes "^=", CaretEq) ∷ (codes "++", PlusPlus)
    ∷ (codes "--", MinusMinus) ∷ (codes "+", Plus) ∷ (codes "-", Minus) ∷ (codes "*", Star) ∷ (codes "/", Slash)
    ∷ (codes "%", Percent) ∷ (codes "&", And) ∷ (codes "|", Or) ∷ (codes "^", Caret) ∷ (codes "~", Tilde)
    ∷ (codes "!", Not) ∷ (codes "<", Lt) ∷ (codes ">", Gt) ∷ (codes "=", Eq) ∷ (codes "?", Question)
    ∷ (codes ":", Colon) ∷ (codes "(", OpenParen) ∷ (codes ")", CloseParen) ∷ (codes "[", OpenBracket)
    ∷ (codes "]", CloseBracket) ∷ (codes "{", OpenBrace) ∷ (codes "}", CloseBrace) ∷ (codes ",", Comma)
    ∷ (codes ";", Semi) ∷ (codes ".", Dot) ∷ []

-- the sign that exactly these bytes spell
unfoldable pub sign_of : List ℕ → Option Sign
sign_of bytes = option_map (λ entry. entry.1) (find (λ entry. same_bytes entry.0 bytes) signs)

-- what exactly these bytes spell; their first byte tells which of the four it can be
unfoldable pub lexeme_of : List ℕ → Option Lexeme
lexeme_of [] = None
lexeme_of (first ∷ rest) =
    if is_letter first then (if is_word (first ∷ rest) then Some (WordLexeme (first ∷ rest)) else None)
    else if is_digit first then number_of (first ∷ rest)
    else if first == 34 then option_map TextLexeme (string_of (first ∷ rest))
    else option_map SignLexeme (sign_of (first ∷ rest))
