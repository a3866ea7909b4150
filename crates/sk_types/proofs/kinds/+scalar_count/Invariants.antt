use Rattle.std.proofs.Common.{length}
use Rattle.sk_types.proofs.kinds.+scalar_count.Given as goal

abbrev pub decreases-scalar_count : goal.decreases-scalar_count
decreases-scalar_count l = length l.params.now
