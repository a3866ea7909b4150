use Rattle.std.proofs.Common.{length}
use Rattle.sk_types.proofs.places.+push_proxies.Given as goal

abbrev pub decreases-push_proxies : goal.decreases-push_proxies
decreases-push_proxies l = length l.params.now
