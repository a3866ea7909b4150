use Rattle.std.proofs.Common.{◌≡◌, length}
use Rattle.sk_kernel.specs.Instances.{function_meaning}
use Rattle.sk_vm.proofs.Ran.{Ran}
use Rattle.sk_vm.proofs.frame.Frame.run_places.Given as goal

abbrev pub invariant-loop-k : goal.invariant-loop-k
invariant-loop-k g l =
    (l.self ≡ l.fn.self)
    × Ran (function_meaning l.fn.object l.fn.self.function l.fn.self.reading) (g.D.Data.means l.fn.source) l.fn.at.place l.fn.at.pair (length l.fn.out) l.out l.k
