-- Slots to which a code stores.
use Rattle.std.specs.Prelude.{◌≡◌, ℕ, ◌+◌, ◌-◌, ◌*◌, ◌<◌, ◌≤◌, nat_lt, if◌then◌else◌, List, length, ℤ, pos, Option, Some, slice_set, slice_index_or}
use Rattle.sk_columns.specs.declared.level.Level.{Level}
use Rattle.sk_columns.specs.declared.level.Level.TheVariants.{Here, Column, Number}
use Rattle.sk_columns.specs.Known.{Known}

-- what a slot holds by its level, given the level's rows, where the place lies in them, and what is known of the slots before
-- any of them was stored
abbrev pub kept_at : Level → (rows : List ℤ) → (index : ℕ) → (known : Known) → Option ℤ
kept_at Here rows index known = Some (slice_index_or rows index (pos 0))
kept_at (Column slot) rows index known = known.slots slot
kept_at (Number number) rows index known = Some number

-- the level of a slot, where those from one slot on have levels of their own; every other holds what it held before
abbrev pub level_in : (least : ℕ) → (levels : List Level) → (slot : ℕ) → Level
level_in least levels slot = if nat_lt slot least then Column slot else slice_index_or levels (slot - least) (Column slot)

-- what is known of the slots at a place of a block, where those from one slot on have levels and rows
abbrev pub stored_in : (least : ℕ) → (levels : List Level) → (rows : List ℤ) → (block place : ℕ) → (known : Known) → Known
stored_in least levels rows block place known = record {
  slots = λ slot. kept_at (level_in least levels slot) rows ((slot - least) * block + place) known;
  fields = known.fields;
}

-- One level became another, with these cells in its row where it stands there, and all else is as it was.
pub record IsKept (level : Level) (row : ℕ) (cells : List ℤ) (levels : List Level) (rows : List ℤ) (levels_after : List Level) (rows_after : List ℤ) : Type 0 where
  pub inside : row < length levels
  pub levels_are : levels_after ≡ slice_set levels row level
  pub here : level ≡ Here → (place : ℕ) → place < length cells
      → slice_index_or rows_after (row * length cells + place) (pos 0) ≡ slice_index_or cells place (pos 0)
  pub below : (index : ℕ) → index < row * length cells → slice_index_or rows_after index (pos 0) ≡ slice_index_or rows index (pos 0)
  pub above : (index : ℕ) → row * length cells + length cells ≤ index → slice_index_or rows_after index (pos 0) ≡ slice_index_or rows index (pos 0)
