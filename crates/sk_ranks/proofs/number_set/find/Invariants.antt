use Rattle.std.proofs.Common.{◌-◌}
use Rattle.sk_ranks.proofs.FindLemmas.{Finds}
use Rattle.sk_ranks.proofs.number_set.find.Given as goal

abbrev pub invariant-levels : goal.invariant-levels
invariant-levels l = Finds l.sums l.leaves l.rank l.width l.at l.rest

abbrev pub decreases-levels : goal.decreases-levels
decreases-levels l = l.leaves - l.width
