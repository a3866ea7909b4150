use Rattle.std.proofs.Common.{◌≡◌, ℕ, ◌+◌, ◌<◌, pos, slice_index_or}
use Rattle.sk_columns.proofs.loops.count.Given as goal

abbrev pub invariant-loop-k : goal.invariant-loop-k
invariant-loop-k l = (place : ℕ) → place < l.k → slice_index_or l.to place (pos 0) ≡ pos (l.from + place)
