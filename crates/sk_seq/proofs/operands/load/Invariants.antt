use Rattle.std.proofs.Common.{◌≡◌, ◌-◌, ◌+◌, ◌<◌, ◌≤◌, ℕ, pos, length}
use Rattle.std.specs.Prelude.{Some, slice_index_or}
use Rattle.sk_seq.proofs.operands.load.Given as goal

abbrev pub invariant-loop-done : goal.invariant-loop-done
invariant-loop-done g l =
    (l.done ≤ length l.fn.out) × (length l.out ≡ length l.fn.out)
    × ((behind : ℕ) → behind < l.done → (g.D.Data.means l.fn.source).held 0 (l.fn.first + behind) ≡ Some (slice_index_or l.out behind (pos 0)))

abbrev pub decreases-loop-done : goal.decreases-loop-done
decreases-loop-done g l = length l.fn.out - l.done
