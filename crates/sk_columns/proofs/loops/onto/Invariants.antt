use Rattle.std.proofs.Common.{◌≡◌, ℕ, ◌<◌, Ok, pos, slice_index_or}
use Rattle.sk_columns.proofs.loops.onto.Given as goal

abbrev pub invariant-loop-k : goal.invariant-loop-k
invariant-loop-k g l =
    ((place : ℕ) → place < l.k → g.F.Cellwise.takes (slice_index_or l.left place (pos 0)) (slice_index_or l.right place (pos 0)) → g.F.Cellwise.makes (slice_index_or l.left place (pos 0)) (slice_index_or l.right place (pos 0)) ≡ Ok (slice_index_or l.to place (pos 0)))
