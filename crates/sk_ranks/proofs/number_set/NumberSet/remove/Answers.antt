use Rattle.std.proofs.Common.{arith}
use Rattle.sk_ranks.proofs.CountLemmas.{mark-fits}
use Rattle.sk_ranks.proofs.number_set.NumberSet.remove.Goals as goal

pub set-requires-clause-fits : goal.set-requires-clause-fits
set-requires-clause-fits c = mark-fits c.self.inside _ c.args.number 0 c.self.invariant c.deref_mut.ensures.value (omega arith)
