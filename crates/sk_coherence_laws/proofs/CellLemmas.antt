-- Cells of a block by index.
use Rattle.std.proofs.Common.{◌≡◌, ℕ, ℤ, ◌+◌, ◌-◌, ◌<◌, ◌≤◌, List, length, slice_index_or, pos, arith}
use Rattle.std.proofs.lemmas.Grind.{common_steps}
use Rattle.sk_spaces.specs.Blocks.{overwritten}

pub over_before : (xs ys : List ℤ) (at k : ℕ) → at + length ys ≤ length xs → k < at
    → slice_index_or (overwritten xs at ys) k (pos 0) ≡ slice_index_or xs k (pos 0)
over_before xs ys at k fits below = grind (arith, common_steps)

pub over_inside : (xs ys : List ℤ) (at k : ℕ) → at + length ys ≤ length xs → at ≤ k → k < at + length ys
    → slice_index_or (overwritten xs at ys) k (pos 0) ≡ slice_index_or ys (k - at) (pos 0)
over_inside xs ys at k fits above below = grind (arith, common_steps)

pub over_after : (xs ys : List ℤ) (at k : ℕ) → at + length ys ≤ length xs → at + length ys ≤ k
    → slice_index_or (overwritten xs at ys) k (pos 0) ≡ slice_index_or xs k (pos 0)
over_after xs ys at k fits above = grind (arith, common_steps)
