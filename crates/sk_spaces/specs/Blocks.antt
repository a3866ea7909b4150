-- Blocks of cells by number.
use Rattle.std.specs.Prelude.{◌≡◌, ◌≢◌, ℕ, ℤ, ◌+◌, ◌-◌, ◌<◌, ◌≤◌, ◌==◌, List, [], ◌++◌, length, take, drop, slice_index_or, slice_range, sum_by, Option, Some, None, IfSome, if◌then◌else◌, nat_lt, pos}
use Rattle.std.specs.Ordering.{nat_cmp}
use Rattle.std.specs.BTreeMap.{is_at}
use Rattle.std.specs.Map.{lookup}

-- the cells of the indices lo ≤ i < hi of a store, in one space
pub record BlockView : Type 0 where
  pub store : ℕ
  pub space : ℕ
  pub lo : ℕ
  pub hi : ℕ
  pub cells : List ℤ

-- the block with this number
abbrev pub block_in : List (ℕ × BlockView) → ℕ → Option BlockView
block_in blocks id = lookup (is_at (nat_cmp id)) blocks

-- how many cells of a space a block takes
abbrev pub len_in : ℕ → BlockView → ℕ
len_in space block = if block.space == space then block.hi - block.lo else 0

-- the same where there may be no block
abbrev pub taken_in : ℕ → Option BlockView → ℕ
taken_in space None = 0
taken_in space (Some block) = len_in space block

-- how many cells of a space the blocks take together
abbrev pub used_in : List (ℕ × BlockView) → ℕ → ℕ
used_in blocks space = sum_by (λ entry. len_in space entry.1) blocks

-- a block has a cell for each of its indices
pub record IsWhole (block : BlockView) : Type 0 where
  pub ordered : block.lo ≤ block.hi
  pub cells : block.lo + length block.cells ≡ block.hi

-- the cell of an index of the store
abbrev pub cell_of : BlockView → ℕ → ℤ
cell_of block i = if nat_lt i block.lo then pos 0 else slice_index_or block.cells (i - block.lo) (pos 0)

-- the indices from ≤ i < to are among those of the block
pub record Reaches (from to : ℕ) (block : BlockView) : Type 0 where
  pub above : block.lo ≤ from
  pub ordered : from ≤ to
  pub below : to ≤ block.hi

-- xs with ys in the place of its elements from at on
abbrev pub overwritten : List ℤ → ℕ → List ℤ → List ℤ
overwritten xs at ys = take at xs ++ ys ++ drop (at + length ys) xs

-- the block with these cells from an index of the store on
abbrev pub written : ℕ → List ℤ → BlockView → BlockView
written lo cells block = record block { cells = overwritten block.cells (lo - block.lo) cells }

-- the cells of the indices lo ≤ i < hi
abbrev pub cells_at : BlockView → ℕ → ℕ → List ℤ
cells_at block lo hi = slice_range block.cells (lo - block.lo) (hi - block.lo)

-- the block with one number is this one now, or is none; every other block is as before
pub record ChangesBlock (old new : List (ℕ × BlockView)) (id : ℕ) (block : Option BlockView) : Type 0 where
  pub here : block_in new id ≡ block
  pub others : (q : ℕ) → q ≢ id → block_in new q ≡ block_in old q

-- every space has so many cells taken as before
abbrev pub KeepsUsed : List (ℕ × BlockView) → List (ℕ × BlockView) → Type 0
KeepsUsed old new = (space : ℕ) → used_in new space ≡ used_in old space

-- the block with other cells
abbrev pub with_cells : List ℤ → BlockView → BlockView
with_cells cells block = record block { cells = cells }

-- the block whose cells were taken out
abbrev pub without_cells : BlockView → BlockView
without_cells block = with_cells [] block

-- the second block with the cells of the first at the indices lo ≤ i < hi
abbrev pub copied : ℕ → ℕ → Option BlockView → Option BlockView → Option BlockView
copied lo hi (Some source) (Some target) = Some (written lo (cells_at source lo hi) target)
copied lo hi (Some source) None = None
copied lo hi None target = target
