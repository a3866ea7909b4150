-- The records that are left of a text, between two records.
use Rattle.std.specs.Prelude.{◌≡◌, ℕ, ◌+◌, ◌<◌, ◌≤◌, Bool, false, List, [], ◌∷◌, length, All}
use Rattle.csv.specs.Machine.{next_record}
use Rattle.csv.specs.Reading.{default_config, is_bom, records_from}
use Rattle.csv.specs.declared.parser.State.{State}
use Rattle.csv.specs.declared.parser.State.TheVariants as st
use Rattle.sk_tree.specs.declared.declared.Declared.{Declared}
use Rattle.sk_data.specs.Records.{Record}

-- the records of the rest of a text, from a state between two records
abbrev pub records_between : State → List ℕ → List Record
records_between state rest = records_from default_config (length rest + 1) state rest

-- the same, at the start of a line
abbrev pub records_left : List ℕ → List Record
records_left rest = records_between st.StartRecord rest

-- where a text has a byte, the first field of a record stands in front of it
abbrev pub IsAtRecord : List ℕ → Type 0
IsAtRecord text = 0 < length text → next_record default_config st.StartRecord [] [] text ≡ next_record default_config st.StartField [] [] text

-- no declared name is longer
abbrev pub NamesFit : List Declared → (most : ℕ) → Type 0
NamesFit declared most = All (λ input. length input.name ≤ most) declared

-- a byte order mark stands in front of a text
abbrev pub is_marked : List ℕ → Bool
is_marked (a ∷ b ∷ c ∷ rest) = is_bom a b c
is_marked _ = false
