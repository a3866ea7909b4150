use Rattle.std.proofs.Common.{set, drop}
use Rattle.sk_ranks.proofs.SetLemmas.{Rises}
use Rattle.sk_ranks.proofs.number_set.set.Given as goal

abbrev pub invariant-levels : goal.invariant-levels
invariant-levels l = Rises l.sums l.leaves (set (drop l.leaves l.fn.sums) l.number l.mark) l.width l.at

abbrev pub decreases-levels : goal.decreases-levels
decreases-levels l = l.width
