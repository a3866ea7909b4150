use Rattle.std.proofs.Common.{◌≡◌, ◌≤◌, ◌-◌, length}
use Rattle.sk_kernel.specs.Instances.{function_meaning}
use Rattle.sk_vm.proofs.Ran.{Ran}
use Rattle.sk_vm.proofs.frame.Frame.run_blocks.Given as goal

abbrev pub invariant-loop-done : goal.invariant-loop-done
invariant-loop-done g l =
    (l.self ≡ l.fn.self) × (l.done ≤ length l.fn.out) × (length l.out ≡ length l.fn.out)
    × Ran (function_meaning l.fn.object l.fn.self.function l.fn.self.reading) (g.D.Data.means l.fn.source) l.fn.at.place l.fn.at.pair (length l.fn.out) l.out l.done

abbrev pub decreases-loop-done : goal.decreases-loop-done
decreases-loop-done g l = length l.fn.out - l.done
