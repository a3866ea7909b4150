use Rattle.std.proofs.Common.{◌≡◌, ◌<◌, ◌≤◌, ℕ, pos, Ok, length}
use Rattle.std.specs.Prelude.{slice_index_or}
use Rattle.sk_formula.specs.Elements.{folded}
use Rattle.sk_kernel.specs.Kernels.{IsJoined}
use Rattle.sk_seq.proofs.scans.scan_upto.Given as goal
use Rattle.sk_seq.specs.Joinings.{MayStand, cell_in, fold_upto}

abbrev pub invariant-loop-k : goal.invariant-loop-k
invariant-loop-k g l =
    (g.K.Kernel.means l.kernel ≡ g.K.Kernel.means l.fn.kernel)
    × (length l.out ≡ length l.fn.out)
    × (folded (g.K.Kernel.means l.fn.kernel).join (cell_in l.fn.out) l.fn.front 0 l.k ≡ Ok l.folded)
    × MayStand (g.K.Kernel.means l.fn.kernel) l.folded
    × ((j : ℕ) → j < l.k → fold_upto (g.K.Kernel.means l.fn.kernel) l.fn.front l.fn.out j ≡ Ok (slice_index_or l.out j (pos 0)))
    × ((j : ℕ) → l.k ≤ j → slice_index_or l.out j (pos 0) ≡ slice_index_or l.fn.out j (pos 0))
    × ((j : ℕ) → j < l.k → IsJoined (g.K.Kernel.means l.fn.kernel) (slice_index_or l.out j (pos 0)))
