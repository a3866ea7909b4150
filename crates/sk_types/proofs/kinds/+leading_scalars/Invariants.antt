use Rattle.std.proofs.Common.{length}
use Rattle.sk_types.proofs.kinds.+leading_scalars.Given as goal

abbrev pub decreases-leading_scalars : goal.decreases-leading_scalars
decreases-leading_scalars l = length l.params.now
