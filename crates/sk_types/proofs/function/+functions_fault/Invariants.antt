use Rattle.std.proofs.Common.{length}
use Rattle.sk_types.proofs.function.+functions_fault.Given as goal

abbrev pub decreases-functions_fault : goal.decreases-functions_fault
decreases-functions_fault l = length l.functions.now
