use Rattle.std.proofs.Common.{length}
use Rattle.sk_types.proofs.kinds.+scalars_only.Given as goal

abbrev pub decreases-scalars_only : goal.decreases-scalars_only
decreases-scalars_only l = length l.params.now
