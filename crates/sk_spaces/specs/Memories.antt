-- Memories without a journal.
use Rattle.std.specs.Prelude.{◌≡◌, ℕ, ◌+◌, ◌<◌, ◌≤◌, List, length, slice_index, Some, None, IfSome, pos, replicate, ◌-◌}
use Rattle.std.specs.Prelude.{Bool, false, not, ◌==◌}
use Rattle.std.specs.declared.option.Option.{Option}
use Rattle.sk_spaces.specs.declared.step.Step.{Step}
use Rattle.sk_spaces.specs.declared.step.Step.TheVariants.{Copy, Back, Send}
use Rattle.sk_spaces.specs.Blocks.{BlockView, block_in, used_in, len_in, taken_in, IsWhole, ChangesBlock}

-- the live blocks by number, in order; the number of the next block; and how many ranks there are, with how many cells
-- each in their spaces
pub record MemoriesView : Type 0 where
  pub blocks : List (ℕ × BlockView)
  pub next : ℕ
  pub ranks : ℕ
  pub capacity : ℕ

-- the live block with this number
abbrev pub block_of : MemoriesView → ℕ → Option BlockView
block_of memories id = block_in memories.blocks id

-- how many cells of a space are taken
abbrev pub used_of : MemoriesView → ℕ → ℕ
used_of memories space = used_in memories.blocks space

-- every number that was given is below the next one; what is taken in the space of a rank is counted, and within what
-- there is
pub record AreSound (memories : MemoriesView) (used : List ℕ) : Type 0 where
  pub fresh : (q : ℕ) → memories.next ≤ q → block_of memories q ≡ None
  pub whole : (q : ℕ) → IfSome (block_of memories q) IsWhole
  pub placed : (q : ℕ) → IfSome (block_of memories q) (λ block. block.space ≤ length used)
  pub counted : (k : ℕ) → k < length used → slice_index used k ≡ used_of memories (k + 1)
  pub within : (k : ℕ) → k < length used → slice_index used k ≤ memories.capacity

-- a new block without cells that were written
abbrev pub fresh_block : ℕ → ℕ → ℕ → ℕ → BlockView
fresh_block store space lo hi = record { store = store; space = space; lo = lo; hi = hi; cells = replicate (hi - lo) (pos 0) }

-- the block with one number is this one now, or is none; all else is as before, and so many cells more or fewer are taken
pub record ChangesOne (old new : MemoriesView) (id : ℕ) (block : Option BlockView) : Type 0 where
  pub blocks : ChangesBlock old.blocks new.blocks id block
  pub next : new.next ≡ old.next
  pub ranks : new.ranks ≡ old.ranks
  pub capacity : new.capacity ≡ old.capacity
  pub used : (space : ℕ) → used_of new space + taken_in space (block_of old id) ≡ used_of old space + taken_in space block

-- a new block has the next number; all else is as before
pub record AddsBlock (old new : MemoriesView) (id : ℕ) (block : BlockView) : Type 0 where
  pub number : id ≡ old.next
  pub absent : block_of old id ≡ None
  pub blocks : ChangesBlock old.blocks new.blocks id (Some block)
  pub next : new.next ≡ old.next + 1
  pub ranks : new.ranks ≡ old.ranks
  pub capacity : new.capacity ≡ old.capacity
  pub used : (space : ℕ) → used_of new space ≡ used_of old space + len_in space block

-- with so many cells more there would be more in the space than it has
pub record LacksRoom (memories : MemoriesView) (space len : ℕ) : Type 0 where
  pub limited : 0 < space
  pub full : memories.capacity < used_of memories space + len

-- whether two live blocks lie in different spaces
abbrev pub are_far : Option BlockView → Option BlockView → Bool
are_far (Some one) (Some other) = not (one.space == other.space)
are_far _ _ = false

-- whether a step is a copy, a write-back or a message whose two copies lie in different spaces
abbrev pub is_far : MemoriesView → Step → Bool
is_far memories (Copy source target lo hi) = are_far (block_of memories source) (block_of memories target)
is_far memories (Back source target lo hi) = are_far (block_of memories source) (block_of memories target)
is_far memories (Send message source target lo hi) = are_far (block_of memories source) (block_of memories target)
is_far memories _ = false
