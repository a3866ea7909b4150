-- The fields of a record, one after another, as `csv` reads them with its defaults.
use Rattle.std.specs.Prelude.{◌≡◌, ℕ, ◌<◌, Bool, false, List, [], ◌∷◌, length, nat_le, Option, Some, None, option_and_then, if◌then◌else◌}
use Rattle.csv.specs.Machine.{Read, next_record}
use Rattle.csv.specs.Reading.{default_config}
use Rattle.csv.specs.Records.{field_at}
use Rattle.csv.specs.declared.parser.State.TheVariants as st

abbrev pub fields_read : Option Read → List (List ℕ)
fields_read None = []
fields_read (Some read) = read.0

abbrev pub rest_read : Option Read → List ℕ
rest_read None = []
rest_read (Some read) = read.2

-- the fields of the record that has its next field in front of this text
abbrev pub fields_at : List ℕ → List (List ℕ)
fields_at text = fields_read (next_record default_config st.StartField [] [] text)

-- what is behind that record
abbrev pub rest_at : List ℕ → List ℕ
rest_at text = rest_read (next_record default_config st.StartField [] [] text)

-- This field stands in front of a text, with the rest behind the byte that ends it. It may be the last of its record.
pub record EndsField (text field rest : List ℕ) (last : Bool) : Type 0 where
  pub fields : fields_at text ≡ (if last then field ∷ [] else field ∷ fields_at rest)
  pub behind : rest_at text ≡ (if last then rest else rest_at rest)
  pub shorter : last ≡ false → length rest < length text

-- a field of at most this many bytes
abbrev pub within : (most : ℕ) → List ℕ → Option (List ℕ)
within most field = if nat_le (length field) most then Some field else None

-- the field at a place, where it has at most this many bytes
abbrev pub short_at : (most : ℕ) → List (List ℕ) → (place : ℕ) → Option (List ℕ)
short_at most fields place = option_and_then (within most) (field_at fields place)

-- No text of a shape is longer: at most 255 sizes of eight digits, with a letter between two.
abbrev pub longest_shape : ℕ
longest_shape = 2294
