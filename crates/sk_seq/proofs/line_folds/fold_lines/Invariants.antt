use Rattle.std.proofs.Common.{◌≡◌, ◌+◌, ◌<◌, ℕ, ℤ, pos, Ok, length}
use Rattle.std.specs.Prelude.{slice_index_or}
use Rattle.sk_kernel.specs.Kernels.{IsJoined}
use Rattle.sk_seq.proofs.line_folds.fold_lines.Given as goal
use Rattle.sk_seq.specs.Given.{AgreeAll, functions_over}
use Rattle.sk_seq.specs.Lines.{line_fold}

abbrev pub invariant-loop-k : goal.invariant-loop-k
invariant-loop-k g l =
    (g.K.Kernel.means l.kernel ≡ g.K.Kernel.means l.fn.kernel)
    × (length l.out ≡ length l.fn.out)
    × ((cells : ℕ → ℕ → ℤ) → AgreeAll (g.D.Data.means l.fn.source) cells → (j : ℕ) → j < l.k
    → line_fold l.fn.lines (functions_over (g.K.Kernel.means l.fn.kernel) (g.D.Data.means l.fn.source) cells) l.fn.front l.fn.operands (l.fn.units.lo + j) ≡ Ok (slice_index_or l.out j (pos 0)))
    × ((j : ℕ) → j < l.k → IsJoined (g.K.Kernel.means l.fn.kernel) (slice_index_or l.out j (pos 0)))
