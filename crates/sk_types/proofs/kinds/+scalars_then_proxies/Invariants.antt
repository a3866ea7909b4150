use Rattle.std.proofs.Common.{length}
use Rattle.sk_types.proofs.kinds.+scalars_then_proxies.Given as goal

abbrev pub decreases-scalars_then_proxies : goal.decreases-scalars_then_proxies
decreases-scalars_then_proxies l = length l.params.now
