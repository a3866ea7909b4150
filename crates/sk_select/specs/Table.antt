-- Tuning tables: what a JSON value says as a table, or the first fault that it has.
use Rattle.std.specs.Prelude.{◌≡◌, ℕ, ◌^◌, nat_lt, if◌then◌else◌, IsUtf8, List, [], ◌∷◌, codes, Option, Some, None, Result, Ok, Err}
use Rattle.sk_base.specs.declared.choice.Variant.{Variant}
use Rattle.sk_base.specs.declared.choice.Variant.TheVariants.{Sequential, Chunked, Cluster, Lanes}
use Rattle.sk_tree.specs.declared.tree.Skeleton.{Skeleton}
use Rattle.sk_grammar.specs.Signs.{skeleton_words}
use Rattle.sk_select.specs.Fields.{field_of, number_in, upto_in, word_in, fields_checked}
use Rattle.sk_select.specs.declared.fault.FieldName.TheVariants as field
use Rattle.sk_select.specs.declared.fault.TableFault.{TableFault}
use Rattle.sk_select.specs.declared.fault.TableFault.TheVariants.{Field, Limit}
use Rattle.sk_select.specs.declared.tuning.Rule.{Rule}
use Rattle.sk_select.specs.declared.tuning.Tuning.{Tuning}
use Rattle.serde_json.specs.Data.{Data, array, Items, no_items, item}
use Rattle.serde_json.specs.Events.{items_len}
use Rattle.serde_json.specs.Read.{read}

-- the JSON value that the bytes are
abbrev pub IsRead : List ℕ → Data → Type 0
IsRead bytes value = IsUtf8 bytes × (read bytes ≡ Some value)

-- the first of two steps that has a fault ends them
abbrev pub and_then : {A B : Type 0} → Result A TableFault → (A → Result B TableFault) → Result B TableFault
and_then (Ok x) next = next x
and_then (Err fault) next = Err fault

-- ---- one rule

abbrev pub variant_words : List (List ℕ × Variant)
variant_words =
    (codes "sequential", Sequential) ∷ (codes "chunked", Chunked) ∷ (codes "cluster", Cluster) ∷ (codes "lanes", Lanes) ∷ []

-- a part of a cluster call has a rank of its own
abbrev pub most_parts : (ranks : ℕ) → Variant → ℕ
most_parts ranks Sequential = 256
most_parts ranks Chunked = 256
most_parts ranks Cluster = ranks
most_parts ranks Lanes = 256

unfoldable pub skeleton_in : Data → Result Skeleton TableFault
skeleton_in value = word_in field.Skeleton skeleton_words value

unfoldable pub variant_in : Data → Result Variant TableFault
variant_in value = word_in field.Variant variant_words value

abbrev pub parts_in : (ranks : ℕ) → Variant → Data → Result ℕ TableFault
parts_in ranks variant value = number_in field.Parts (most_parts ranks variant) 1 value

-- A rule of a table with this many ranks: an object with the fields `skeleton`, `upto`, `variant` and `parts`, of which
-- the last may be absent. Faults are told in this order.
unfoldable pub rule_of : (ranks : ℕ) → Data → Result Rule TableFault
rule_of ranks value =
    and_then (fields_checked field.Rules (field.Skeleton ∷ field.Upto ∷ field.Variant ∷ field.Parts ∷ []) value) (λ _.
    and_then (skeleton_in value) (λ skeleton.
    and_then (upto_in value) (λ upto.
    and_then (variant_in value) (λ variant.
    and_then (parts_in ranks variant value) (λ parts.
    Ok (record { skeleton = skeleton; upto = upto; variant = variant; parts = parts }))))))

-- ---- the rules

-- each of the values as a rule, or the fault of the first one that is none
unfoldable pub rules_of : (ranks : ℕ) → Items → Result (List Rule) TableFault
rules_of ranks no_items = Ok []
rules_of ranks (item value values) = and_then (rule_of ranks value) (λ rule. and_then (rules_of ranks values) (λ rules. Ok (rule ∷ rules)))

-- a list of at most 1,024 rules, which may be absent
abbrev pub rules_or_none : (ranks : ℕ) → Option Data → Result (List Rule) TableFault
rules_or_none ranks None = Ok []
rules_or_none ranks (Some (array values)) = if nat_lt 1024 (items_len values) then Err (Limit field.Rules (items_len values)) else rules_of ranks values
rules_or_none ranks (Some value) = Err (Field field.Rules)

unfoldable pub rules_in : (ranks : ℕ) → Data → Result (List Rule) TableFault
rules_in ranks value = rules_or_none ranks (field_of field.Rules value)

-- ---- the table

-- A table: an object with the fields `ranks`, `capacity`, `tile`, `lineage` and `rules`, each of which may be absent.
-- Faults are told in this order.
unfoldable pub table_of : Data → Result Tuning TableFault
table_of value =
    and_then (fields_checked field.Table (field.Ranks ∷ field.Capacity ∷ field.Tile ∷ field.Lineage ∷ field.Rules ∷ []) value) (λ _.
    and_then (number_in field.Ranks 16 1 value) (λ ranks.
    and_then (number_in field.Capacity (2 ^ 26) (2 ^ 26) value) (λ capacity.
    and_then (number_in field.Tile 65536 1024 value) (λ tile.
    and_then (number_in field.Lineage 65536 1024 value) (λ lineage.
    and_then (rules_in ranks value) (λ rules.
    Ok (record { ranks = ranks; capacity = capacity; tile = tile; lineage = lineage; rules = rules })))))))
