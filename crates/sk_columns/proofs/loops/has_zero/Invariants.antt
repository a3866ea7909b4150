use Rattle.std.proofs.Common.{◌≡◌, ◌≢◌, ℕ, ◌<◌, false, pos, slice_index_or}
use Rattle.sk_columns.proofs.loops.has_zero.Given as goal

abbrev pub invariant-loop-k : goal.invariant-loop-k
invariant-loop-k l = l.found ≡ false → (place : ℕ) → place < l.k → slice_index_or l.row place (pos 0) ≢ pos 0
