use Rattle.std.proofs.Common.{length}
use Rattle.sk_vm.proofs.parts.+leading_in.Given as goal

abbrev pub decreases-leading_in : goal.decreases-leading_in
decreases-leading_in l = length l.kinds.now
