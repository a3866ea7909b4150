-- The fields of a record by its text.
use Rattle.std.specs.Prelude.{ℕ, List}
use Rattle.sk_data.specs.Fields.{fields_at}
use Rattle.sk_data.specs.Keeping.{room_of}
use Rattle.sk_data.specs.declared.record.TextRecord.{TextRecord}

abbrev pub fields_of : TextRecord → List (List ℕ)
fields_of read = fields_at read.text.now

-- the longest name and the longest text of a shape that are kept
abbrev pub most_of : TextRecord → ℕ
most_of read = room_of read.name
