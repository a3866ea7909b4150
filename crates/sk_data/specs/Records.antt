-- Inputs and final containers as records of comma-separated values. A record is the list of its fields: a name, a shape,
-- and the values in row-major order.
use Rattle.std.specs.Prelude.{ℕ, ◌+◌, ◌^◌, ◌==◌, ◌∷◌, [], ◌++◌, Bool, false, List, length, map, drop, find, ℤ, Option, Some, None, is_none, Result, Ok, Err, option_map, unwrap_or, if◌then◌else◌}
use Rattle.std.specs.Cmp.Lexicographic.{pointwise}
use Rattle.std.specs.Fmt.{signed_decimal}
use Rattle.std.specs.Option.{option_or}
use Rattle.std.specs.List.{IsDistinct, list_any, filter_map, flat_map, join_with_byte, position_from}
use Rattle.csv.specs.Reading.{default_config, records, strip_bom}
use Rattle.sk_base.specs.Shape.{cells_of}
use Rattle.sk_base.specs.declared.number.Ty.{Ty}
use Rattle.sk_base.specs.declared.number.Ty.TheVariants.{Int, Long}
use Rattle.sk_tree.specs.declared.declared.Declared.{Declared}
use Rattle.sk_data.specs.Decimals.{whole_number_within}
use Rattle.sk_data.specs.Sizes.{shape_in, shape_text}
use Rattle.sk_data.specs.declared.fault.InputFault.{InputFault}
use Rattle.sk_data.specs.declared.fault.InputFault.TheVariants.{Absent, Doubled, BadShape, Count, Number}
use Rattle.sk_data.specs.declared.given.Dumped.{Dumped}
use Rattle.sk_data.specs.declared.given.Given.{Given}

abbrev pub Record : Type 0
Record = List (List ℕ)

-- the records of a text: those that the reader of the crate `csv` gives with its defaults, but for a header, and for the
-- rule that all have the same length. A byte order mark at the front is passed over.
abbrev pub records_of : List ℕ → List Record
records_of bytes = records default_config (strip_bom bytes)

abbrev pub same_name : List ℕ → List ℕ → Bool
same_name = pointwise (λ a b. a == b)

-- the record's first field is the name
abbrev pub is_named : List ℕ → Record → Bool
is_named name [] = false
is_named name (first ∷ fields) = same_name first name

-- no two of these have the same name
abbrev pub HaveDistinctNames : List Declared → Type 0
HaveDistinctNames declared = IsDistinct same_name (map (λ input. input.name) declared)

-- a number of the type is at least -bound, and below bound
abbrev pub bound_of : Ty → ℕ
bound_of Int = 2 ^ 31
bound_of Long = 2 ^ 63

-- the number that a field writes, if it is in the type's range
abbrev pub value_of : Ty → List ℕ → Option ℤ
value_of ty field = whole_number_within (bound_of ty) field

-- the shape that a record gives an input: that of its second field, if it is one of the declared kind
abbrev pub shape_given : Declared → Record → Option (List ℕ)
shape_given input (name ∷ text ∷ values) = shape_in input.kind text
shape_given input _ = None

-- the fields behind name and shape
abbrev pub values_given : Record → List (List ℕ)
values_given fields = drop 2 fields

-- the fault of the first value that is no number of the type; the first value is field 3
abbrev pub number_fault : Ty → (row : ℕ) → List (List ℕ) → Option InputFault
number_fault ty row values = option_map (λ field. Number row field) (position_from (λ value. is_none (value_of ty value)) 3 values)

-- the fault of the values: there are more or fewer than the shape has cells, or one is no number of the type
abbrev pub values_fault : Ty → (row cells : ℕ) → List (List ℕ) → Option InputFault
values_fault ty row cells values = if length values == cells then number_fault ty row values else Some (Count row)

-- the fault of a record with these values, where this is its shape, if it has one
abbrev pub fault_at_shape : Declared → (row : ℕ) → (values : List (List ℕ)) → Option (List ℕ) → Option InputFault
fault_at_shape input row values None = Some (BadShape row)
fault_at_shape input row values (Some shape) = values_fault input.ty row (cells_of shape) values

-- the fault of the shape, or else of the values
abbrev pub form_fault : Declared → (row : ℕ) → Record → Option InputFault
form_fault input row fields = fault_at_shape input row (values_given fields) (shape_given input fields)

-- the fault of a record behind earlier ones, where this is the input that it names, if it names one
abbrev pub fault_for : (earlier : List Record) → (row : ℕ) → Record → Option Declared → Option InputFault
fault_for earlier row fields None = None
fault_for earlier row fields (Some input) =
    if list_any (is_named input.name) earlier then Some (Doubled input.name) else form_fault input row fields

-- the fault of a record of this number, behind earlier ones; one whose name is not declared has none
abbrev pub record_fault : List Declared → (earlier : List Record) → (row : ℕ) → Record → Option InputFault
record_fault declared earlier row fields = fault_for earlier row fields (find (λ input. is_named input.name fields) declared)

-- the fault of the first record that has one; records count from 1
abbrev pub first_fault : List Declared → (earlier : List Record) → (later : List Record) → Option InputFault
first_fault declared earlier [] = None
first_fault declared earlier (fields ∷ later) =
    option_or (record_fault declared earlier (length earlier + 1) fields) (first_fault declared (earlier ++ fields ∷ []) later)

-- what a record without a fault gives an input
abbrev pub given_by : Declared → Record → Given
given_by input fields = record {
  name = input.name;
  shape = unwrap_or (shape_given input fields) [];
  cells = filter_map (value_of input.ty) (values_given fields);
}

-- what an input is given, where this is the first record of its name, if there is one, in front of what others are given
abbrev pub with_given : Declared → Option Record → Result (List Given) InputFault → Result (List Given) InputFault
with_given input None others = Err (Absent input.name)
with_given input (Some fields) (Ok others) = Ok (given_by input fields ∷ others)
with_given input (Some fields) (Err fault) = Err fault

-- what the records give each input in turn, or the first input without a record
abbrev pub given_to : List Record → List Declared → Result (List Given) InputFault
given_to all [] = Ok []
given_to all (input ∷ inputs) = with_given input (find (is_named input.name) all) (given_to all inputs)

-- the fault, if there is one, or else the answer
abbrev pub fault_or : Option InputFault → Result (List Given) InputFault → Result (List Given) InputFault
fault_or None answer = answer
fault_or (Some fault) answer = Err fault

-- what the records give each declared input, or the first fault of a record, or else the first input without a record
abbrev pub inputs_of : List Declared → List Record → Result (List Given) InputFault
inputs_of declared all = fault_or (first_fault declared [] all) (given_to all declared)

-- a container's record: its name, its shape and its cells with commas between them, and a line feed
abbrev pub dumped_record : Dumped → List ℕ
dumped_record container =
    join_with_byte 44 (container.name ∷ shape_text container.shape ∷ map signed_decimal container.cells) ++ 10 ∷ []

-- one record for each container
abbrev pub dumped_text : List Dumped → List ℕ
dumped_text containers = flat_map dumped_record containers
