-- A whole number, as far as its bytes were read.
use Rattle.std.specs.Prelude.{◌≡◌, ℕ, ◌-◌, ◌^◌, ◌<◌, ◌++◌, true, List, [], ◌∷◌, length, min, None}
use Rattle.std.specs.Str.{all_ascii_digits}
use Rattle.std.specs.Str.Parse.{digits_value}
use Rattle.sk_data.specs.Decimals.{minus, whole_number_of}
use Rattle.sk_data.specs.declared.number.Number.{Number}
use Rattle.sk_data.specs.declared.number.Number.TheVariants.{Empty, Minus, Positive, Negative, Refused}

-- one digit or more, and the number that they write, or the greatest of 64 bits for a greater one
pub record IsNumeral (text : List ℕ) (value : ℕ) : Type 0 where
  pub some : 0 < length text
  pub digits : all_ascii_digits text ≡ true
  pub capped : value ≡ min (digits_value 10 text) (2 ^ 64 - 1)

-- these bytes were read; what is refused is not the beginning of a number
abbrev pub IsReadAs : Number → List ℕ → Type 0
IsReadAs Empty bytes = bytes ≡ []
IsReadAs Minus bytes = bytes ≡ minus ∷ []
IsReadAs (Positive value) bytes = IsNumeral bytes value
IsReadAs (Negative value) bytes = (digits : List ℕ) × (bytes ≡ minus ∷ digits) × IsNumeral digits value
IsReadAs Refused bytes = (more : List ℕ) → whole_number_of (bytes ++ more) ≡ None
