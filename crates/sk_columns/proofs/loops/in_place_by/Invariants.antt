use Rattle.std.proofs.Common.{◌≡◌, ℕ, ◌<◌, ◌≤◌, Ok, pos, slice_index_or}
use Rattle.sk_columns.proofs.loops.in_place_by.Given as goal

abbrev pub invariant-loop-k : goal.invariant-loop-k
invariant-loop-k g l =
    ((place : ℕ) → l.k ≤ place → slice_index_or l.to place (pos 0) ≡ slice_index_or l.initial.to place (pos 0))
    × ((place : ℕ) → place < l.k → g.F.Cellwise.takes (slice_index_or l.initial.to place (pos 0)) l.right → g.F.Cellwise.makes (slice_index_or l.initial.to place (pos 0)) l.right ≡ Ok (slice_index_or l.to place (pos 0)))
