-- Whole numbers as text, in decimal digits.
use Rattle.std.specs.Prelude.{ℕ, ◌==◌, Bool, List, [], ◌∷◌, ℤ, pos, negsuc, neg_ℤ, Option, Some, None, nat_lt, option_map, option_and_then, if◌then◌else◌}
use Rattle.std.specs.Str.{all_ascii_digits}
use Rattle.std.specs.Str.Parse.{digits_value}

-- the byte of a minus
abbrev pub minus : ℕ
minus = 45

-- the number that one digit or more write; needless zeros are read
abbrev pub natural_of : List ℕ → Option ℕ
natural_of [] = None
natural_of (digit ∷ digits) =
    if all_ascii_digits (digit ∷ digits) then Some (digits_value 10 (digit ∷ digits)) else None

-- the number that an optional minus and one digit or more write
abbrev pub whole_number_of : List ℕ → Option ℤ
whole_number_of [] = None
whole_number_of (first ∷ rest) =
    if first == minus then option_map (λ number. neg_ℤ (pos number)) (natural_of rest)
    else option_map pos (natural_of (first ∷ rest))

-- at least -bound, and below bound
abbrev pub is_within : (bound : ℕ) → ℤ → Bool
is_within bound (pos number) = nat_lt number bound
is_within bound (negsuc number) = nat_lt number bound

-- the same number, if it is within the bound
abbrev pub whole_number_within : (bound : ℕ) → List ℕ → Option ℤ
whole_number_within bound text =
    option_and_then (λ number. if is_within bound number then Some number else None) (whole_number_of text)
