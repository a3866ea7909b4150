use Rattle.std.proofs.Common.{◌≡◌, ℕ, ◌<◌, true, pos, slice_index_or}
use Rattle.sk_base.specs.Arithmetic.{InRange}
use Rattle.sk_columns.proofs.loops.are_of.Given as goal

abbrev pub invariant-loop-k : goal.invariant-loop-k
invariant-loop-k l = l.all ≡ true → (place : ℕ) → place < l.k → InRange l.ty (slice_index_or l.row place (pos 0))
