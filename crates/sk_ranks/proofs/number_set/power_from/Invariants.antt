use Rattle.std.proofs.Common.{◌-◌, ◌<◌}
use Rattle.sk_ranks.specs.Sums.{IsPower}
use Rattle.sk_ranks.proofs.number_set.power_from.Given as goal

abbrev pub invariant-powers : goal.invariant-powers
invariant-powers l = IsPower l.power × (l.power < 4294967296)

abbrev pub decreases-powers : goal.decreases-powers
decreases-powers l = l.n - l.power
