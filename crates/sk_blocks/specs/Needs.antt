-- How many cells a part of a call needs in the memory of its rank, and whether a call fits.
use Rattle.std.specs.Prelude.{ℕ, ◌+◌, ◌-◌, ◌*◌, ◌==◌, ◌&&◌, nat_le, min, Bool, if◌then◌else◌, List, [], ◌∷◌, length, map, flat_map, take, sum, Some, None, slice_index_or, unwrap_or}
use Rattle.std.specs.List.{list_all, list_any}
use Rattle.sk_base.specs.Shape.{cells_of}
use Rattle.sk_base.specs.declared.choice.Variant.TheVariants.{Cluster}
use Rattle.sk_blocks.specs.Calls.{SizedCall, sizes_of, stores_of}
use Rattle.sk_blocks.specs.Kernels.{part_count, units_of, total_count}
use Rattle.sk_blocks.specs.Ranges.{numbers_from, ranges_of}
use Rattle.sk_formula.specs.Calls.{unit_elements}
use Rattle.sk_parts.specs.Cut.{Part}

-- the block of a store that has a range
pub record StoreRange : Type 0 where
  pub store : ℕ
  pub lo : ℕ
  pub hi : ℕ

abbrev pub same_block : StoreRange → StoreRange → Bool
same_block one other = one.store == other.store && one.lo == other.lo && one.hi == other.hi

-- each block once
abbrev pub distinct : List StoreRange → List StoreRange
distinct [] = []
distinct (block ∷ blocks) = if list_any (same_block block) blocks then distinct blocks else block ∷ distinct blocks

abbrev pub block_cells : List StoreRange → ℕ
block_cells blocks = sum (map (λ (block : StoreRange). block.hi - block.lo) blocks)

-- the blocks that some units read, operand by operand
abbrev pub blocks_of : SizedCall → (lo hi : ℕ) → List StoreRange
blocks_of call lo hi = flat_map (λ operand.
    map (λ (part : Part). record { store = slice_index_or (stores_of call.operands) operand 0; lo = part.lo; hi = part.hi })
    (ranges_of call lo hi operand))
    (numbers_from 0 (length call.operands))

-- the result cells of a part, where the result is a container
abbrev pub result_need : SizedCall → (lo hi : ℕ) → ℕ
result_need call lo hi = elim call.result [
  | Some result ↦ (hi - lo) * unit_elements call.skeleton (sizes_of call)
  | None ↦ 0
]

-- what a part, of so many, needs in the memory of its rank: each block once, its results, and all totals
abbrev pub need_of : SizedCall → (count part : ℕ) → ℕ
need_of call count part =
    let units : Part = units_of call count part in
    block_cells (distinct (blocks_of call units.lo units.hi)) + result_need call units.lo units.hi + total_count call count

-- a call that is run at once fits in ranks of this capacity where no part needs more
abbrev pub fits_at_once : SizedCall → (parts capacity : ℕ) → Bool
fits_at_once call parts capacity =
    let count : ℕ = part_count Cluster parts call in
    list_all (λ part. nat_le (need_of call count part) capacity) (numbers_from 0 count)

-- each store once
abbrev pub distinct_stores : List ℕ → List ℕ
distinct_stores [] = []
distinct_stores (store ∷ stores) =
    if list_any (λ other. other == store) stores then distinct_stores stores else store ∷ distinct_stores stores

-- What a recorded Map needs, which is computed tile by tile: a tile of each distinct element argument, and of the result.
abbrev pub tile_need : SizedCall → (tile : ℕ) → ℕ
tile_need call tile =
    (length (distinct_stores (stores_of (take call.elements call.operands))) + 1)
    * min tile (cells_of (unwrap_or call.result []))

-- a call fits in ranks of this capacity: it is run at once in so many parts, or it is recorded and computed tile by tile
abbrev pub fits : (recorded : Bool) → (tile capacity : ℕ) → SizedCall → (parts : ℕ) → Bool
fits recorded tile capacity call parts =
    if recorded then nat_le (tile_need call tile) capacity else fits_at_once call parts capacity
