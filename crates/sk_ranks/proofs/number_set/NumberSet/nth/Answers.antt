use Rattle.sk_ranks.proofs.CountLemmas.{rank-below, found-at}
use Rattle.sk_ranks.proofs.number_set.NumberSet.nth.Goals as goal

pub find-requires-clause-below : goal.find-requires-clause-below
find-requires-clause-below c = rank-below c.self.inside _ c.args.rank c.self.invariant c.deref.ensures.value (rw c.self.view_is c.requires)

pub returns : goal.returns
returns c = rw (← c.self.view_is) (found-at c.self.inside _ c.args.rank _ c.self.invariant c.deref.ensures.value c.find.ensures.before c.find.ensures.within)
