-- What a string is made of, as the code reads it.
use Rattle.std.specs.Prelude.{ℕ, ◌==◌, if◌then◌else◌, List, Option, Some, None}
use Rattle.sk_tokens.specs.Lexemes.{escape_of}
use Rattle.sk_names.specs.Bytes.{is_from_to}
use Rattle.sk_lexer.specs.declared.string.Front.{Front}
use Rattle.sk_lexer.specs.declared.string.Front.TheVariants.{Quote, Stands, Foreign}
use Rattle.sk_lexer.specs.declared.string.Closed.{Closed}

-- a pair, if its second byte has a meaning
abbrev pub stands_for : Option ℕ → Front
stands_for (Some byte) = Stands 2 byte
stands_for None = Foreign

-- what a pair of `\` and this byte stands for
abbrev pub pair_at : (second : ℕ) → Front
pair_at second = stands_for (escape_of second)

-- what two bytes begin with
abbrev pub front_at : (first second : ℕ) → Front
front_at first second =
    if first == 34 then Quote
    else if first == 92 then pair_at second
    else if is_from_to 32 126 first then Stands 1 first
    else Foreign

-- what a front of so many bytes stands for, where only the one up to a closing quote ends a string
abbrev pub text_after : Option Closed → (bytes : ℕ) → Option (List ℕ)
text_after None bytes = None
text_after (Some closed) bytes = if bytes == closed.bytes then Some closed.text.items else None
