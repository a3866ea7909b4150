use Rattle.std.proofs.Common.{length}
use Rattle.sk_types.proofs.function.+params_fault.Given as goal

abbrev pub decreases-params_fault : goal.decreases-params_fault
decreases-params_fault l = length l.params.now
