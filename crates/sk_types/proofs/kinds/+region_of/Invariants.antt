use Rattle.std.proofs.Common.{length}
use Rattle.sk_types.proofs.kinds.+region_of.Given as goal

abbrev pub decreases-region_of : goal.decreases-region_of
decreases-region_of l = length l.params.now
