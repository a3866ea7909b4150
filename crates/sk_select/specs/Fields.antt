-- The fields of a tuning table and of its rules, looked up in a JSON value: each gives a value or its fault.
use Rattle.std.specs.Prelude.{ℕ, ◌^◌, ◌&&◌, ⊤, Bool, true, nat_lt, nat_le, if◌then◌else◌, List, codes, Option, Some, None, option_and_then, Result, Ok, Err}
use Rattle.std.specs.List.{list_any}
use Rattle.std.specs.Option.{ok_or}
use Rattle.sk_names.specs.Bytes.{same_bytes}
use Rattle.sk_grammar.specs.Signs.{meant_by}
use Rattle.sk_select.specs.declared.fault.FieldName.{FieldName}
use Rattle.sk_select.specs.declared.fault.FieldName.TheVariants.{Table, Unknown, Ranks, Capacity, Tile, Lineage, Rules, Skeleton, Upto, Variant, Parts}
use Rattle.sk_select.specs.declared.fault.TableFault.{TableFault}
use Rattle.sk_select.specs.declared.fault.TableFault.TheVariants.{Field, Limit}
use Rattle.serde_json.specs.Data.{Num, unsigned, negative, float, Data, Members, no_members, member}
use Rattle.serde_json.specs.Find.{get, as_number, as_str, as_object}

-- the key of a field
abbrev pub field_word : FieldName → List ℕ
field_word Table = codes "table"
field_word Unknown = codes "unknown"
field_word Ranks = codes "ranks"
field_word Capacity = codes "capacity"
field_word Tile = codes "tile"
field_word Lineage = codes "lineage"
field_word Rules = codes "rules"
field_word Skeleton = codes "skeleton"
field_word Upto = codes "upto"
field_word Variant = codes "variant"
field_word Parts = codes "parts"

-- the value of a field, if the value is an object that has it
abbrev pub field_of : FieldName → Data → Option Data
field_of name value = get (field_word name) value

-- ---- whole numbers

-- A whole number below 2 ^ 63. What is written with a point, an exponent or a sign in front of 0 is none, since it is read
-- as a float.
abbrev pub whole : Num → Option ℕ
whole (unsigned n) = if nat_lt n (2 ^ 63) then Some n else None
whole (negative z) = None
whole (float x) = None

abbrev pub whole_of : Data → Option ℕ
whole_of value = option_and_then whole (as_number value)

-- a number where it lies between 1 and `most`
abbrev pub within : FieldName → (most : ℕ) → Option ℕ → Result ℕ TableFault
within name most None = Err (Field name)
within name most (Some n) = if nat_le 1 n && nat_le n most then Ok n else Err (Limit name n)

-- a number that may be absent
abbrev pub number_or : FieldName → (most default : ℕ) → Option Data → Result ℕ TableFault
number_or name most default None = Ok default
number_or name most default (Some value) = within name most (whole_of value)

-- ---- fields

unfoldable pub number_in : FieldName → (most default : ℕ) → Data → Result ℕ TableFault
number_in name most default value = number_or name most default (field_of name value)

-- a whole number without a limit of its own, which may not be absent
unfoldable pub upto_in : Data → Result ℕ TableFault
upto_in value = ok_or (option_and_then whole_of (field_of Upto value)) (Field Upto)

-- what the text of a field stands for
unfoldable pub word_in : {A : Type 0} → FieldName → List (List ℕ × A) → Data → Result A TableFault
word_in name words value = ok_or (option_and_then (meant_by words) (option_and_then as_str (field_of name value))) (Field name)

-- ---- objects

abbrev pub is_field : List FieldName → List ℕ → Bool
is_field fields key = list_any (λ field. same_bytes (field_word field) key) fields

abbrev pub are_fields : List FieldName → Members → Bool
are_fields fields no_members = true
are_fields fields (member key value members) = is_field fields key && are_fields fields members

-- the members of an object, if there is one, have no other keys than the fields
abbrev pub keys_checked : (whole : FieldName) → List FieldName → Option Members → Result ⊤ TableFault
keys_checked whole fields None = Err (Field whole)
keys_checked whole fields (Some members) = if are_fields fields members then Ok tt else Err (Field Unknown)

-- The value is an object, and each of its keys is one of the fields. A value that is no object is a fault of `whole`.
unfoldable pub fields_checked : (whole : FieldName) → List FieldName → Data → Result ⊤ TableFault
fields_checked whole fields value = keys_checked whole fields (as_object value)
