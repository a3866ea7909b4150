use Rattle.std.proofs.Common.{length}
use Rattle.sk_types.proofs.kinds.+has_region.Given as goal

abbrev pub decreases-has_region : goal.decreases-has_region
decreases-has_region l = length l.params.now
