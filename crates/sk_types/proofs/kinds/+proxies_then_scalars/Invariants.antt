use Rattle.std.proofs.Common.{length}
use Rattle.sk_types.proofs.kinds.+proxies_then_scalars.Given as goal

abbrev pub decreases-proxies_then_scalars : goal.decreases-proxies_then_scalars
decreases-proxies_then_scalars l = length l.params.now
