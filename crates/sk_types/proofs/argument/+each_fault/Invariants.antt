use Rattle.std.proofs.Common.{length}
use Rattle.sk_types.proofs.argument.+each_fault.Given as goal

abbrev pub decreases-each_fault : goal.decreases-each_fault
decreases-each_fault l = length l.expected.now
