-- Bytes, which of them words are made of, and equal lists of them.
use Rattle.std.specs.Prelude.{ℕ, Bool, ◌&&◌, ◌||◌, ◌==◌, nat_le, List}
use Rattle.std.specs.Cmp.Lexicographic.{pointwise}

-- equal lists of bytes
abbrev pub same_bytes : List ℕ → List ℕ → Bool
same_bytes = pointwise (λ a b. a == b)

-- from low to high, both among them
abbrev pub is_from_to : ℕ → ℕ → ℕ → Bool
is_from_to low high byte = nat_le low byte && nat_le byte high

-- an ASCII letter or `_`
abbrev pub is_letter : ℕ → Bool
is_letter byte = is_from_to 65 90 byte || is_from_to 97 122 byte || byte == 95

abbrev pub is_digit : ℕ → Bool
is_digit byte = is_from_to 48 57 byte

abbrev pub is_word_byte : ℕ → Bool
is_word_byte byte = is_letter byte || is_digit byte
