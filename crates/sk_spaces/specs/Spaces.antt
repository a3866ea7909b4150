-- The memories of a run with their journal.
use Rattle.std.specs.Prelude.{◌≡◌, ℕ, ◌+◌, ◌≤◌, ⊤, Some, None}
use Rattle.std.specs.declared.option.Option.{Option}
use Rattle.sk_spaces.specs.declared.step.Step.{Step}
use Rattle.sk_spaces.specs.Blocks.{BlockView, block_in}
use Rattle.sk_spaces.specs.Journal.{JournalView, Notes, IsSame}
use Rattle.sk_spaces.specs.Memories.{MemoriesView, block_of, used_of, is_far, ChangesOne, AddsBlock, LacksRoom}
use Rattle.sk_spaces.specs.declared.faults.SpaceFault.{SpaceFault}
use Rattle.sk_spaces.specs.declared.faults.SpaceFault.TheVariants.{NoRoom, Memory}

-- the memories; the step as which the next change is noted, where it has a name; and what the journal has
pub record SpacesView : Type 0 where
  pub memories : MemoriesView
  pub named : Option Step
  pub journal : JournalView

-- the live block with this number
abbrev pub block_at : SpacesView → ℕ → Option BlockView
block_at spaces id = block_of spaces.memories id

-- how many cells of a space are taken
abbrev pub used_at : SpacesView → ℕ → ℕ
used_at spaces space = used_of spaces.memories space

-- the name of the next change, or its own
abbrev pub name_or : Option Step → Step → Step
name_or None step = step
name_or (Some name) step = name

-- exactly this step is noted, and it counts as far where its two copies lie in different spaces
abbrev pub NotesStep : SpacesView → SpacesView → Step → Type 0
NotesStep old new step = Notes old.journal new.journal step (is_far old.memories step)

-- one step is noted, and nothing else changes
pub record OnlyNotes (old new : SpacesView) (step : Step) : Type 0 where
  pub memories : new.memories ≡ old.memories
  pub named : new.named ≡ old.named
  pub noted : NotesStep old new step

-- a new block is there, and its step is noted
pub record Allocates (old new : SpacesView) (id : ℕ) (block : BlockView) (step : Step) : Type 0 where
  pub memories : AddsBlock old.memories new.memories id block
  pub named : new.named ≡ old.named
  pub noted : NotesStep old new step

-- the block with one number changes, and this step is noted; name is what the next change is called then
pub record Changes (old new : SpacesView) (id : ℕ) (block : Option BlockView) (name : Option Step) (step : Step) : Type 0 where
  pub memories : ChangesOne old.memories new.memories id block
  pub named : new.named ≡ name
  pub noted : NotesStep old new step

-- no cell, block or step changed, and no room was lost; name is what the next change is called then
pub record Stays (old new : SpacesView) (name : Option Step) : Type 0 where
  pub memories : new.memories ≡ old.memories
  pub named : new.named ≡ name
  pub journal : IsSame old.journal new.journal
  pub spare : old.journal.spare ≤ new.journal.spare

-- why no block of this range is made in a space: it would be too much there, or memory is wanting
abbrev pub IsSpaceFault : SpacesView → ℕ → ℕ → ℕ → SpaceFault → Type 0
IsSpaceFault spaces space lo hi (NoRoom used len capacity) =
    LacksRoom spaces.memories space len × (lo + len ≡ hi) × (used ≡ used_at spaces space) × (capacity ≡ spaces.memories.capacity)
IsSpaceFault spaces space lo hi Memory = ⊤
