-- What stands at the front of a rest of a text: the longest number and a sign of so many bytes.
use Rattle.std.specs.Prelude.{◌≡◌, ◌<◌, ◌≤◌, ◌^◌, ◌-◌, ℕ, min, List, length, take, Option, Some, None, if◌then◌else◌, nat_le, Bool, true, ◌==◌, ◌||◌, slice_index}
use Rattle.std.specs.Option.{option_map}
use Rattle.sk_tokens.specs.declared.token.Sign.{Sign}
use Rattle.sk_tokens.specs.Lexemes.{is_hex_digit, numeral_of, sign_of}

-- `L` or `l`
abbrev pub is_suffix : ℕ → Bool
is_suffix byte = byte == 76 || byte == 108

-- The front of this many bytes is the longest that spells a number without a suffix. Its value is this, or greater
-- where this is 2^64 - 1.
pub record IsLongestNumeral (rest : List ℕ) (bytes value : ℕ) : Type 0 where
  pub some : 0 < bytes
  pub within : bytes ≤ length rest
  pub spelled : option_map (λ exact. min exact (2 ^ 64 - 1)) (numeral_of (take bytes rest)) ≡ Some value
  pub last : is_hex_digit (slice_index rest (bytes - 1)) ≡ true
  pub longest : (longer : ℕ) → bytes < longer → longer ≤ length rest → numeral_of (take longer rest) ≡ None

-- the sign that the first bytes of the rest spell, where it has so many
abbrev pub front_sign : (bytes : ℕ) → (rest : List ℕ) → Option Sign
front_sign bytes rest = if nat_le bytes (length rest) then sign_of (take bytes rest) else None
