use Rattle.std.proofs.Common.{◌≡◌, ℕ, ◌<◌, ◌≤◌, pos, slice_index_or}
use Rattle.std.specs.Prelude.{if◌then◌else◌}
use Rattle.sk_meaning.specs.Expressions.{holds}
use Rattle.sk_columns.proofs.loops.select.Given as goal

abbrev pub invariant-loop-k : goal.invariant-loop-k
invariant-loop-k l =
    ((place : ℕ) → l.k ≤ place → slice_index_or l.to place (pos 0) ≡ slice_index_or l.initial.to place (pos 0))
    × ((place : ℕ) → place < l.k → slice_index_or l.to place (pos 0) ≡ (if holds (slice_index_or l.initial.to place (pos 0)) then slice_index_or l.one place (pos 0) else slice_index_or l.two place (pos 0)))
