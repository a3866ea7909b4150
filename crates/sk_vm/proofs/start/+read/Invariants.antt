use Rattle.std.proofs.Common.{length}
use Rattle.sk_vm.proofs.start.+read.Given as goal

abbrev pub decreases-read : goal.decreases-read
decreases-read g l = length l.params.now
