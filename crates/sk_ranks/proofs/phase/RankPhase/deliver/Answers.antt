use Rattle.std.proofs.Common.{refl}
use Rattle.sk_ranks.proofs.ActLemmas.{kept-deliver}
use Rattle.sk_ranks.proofs.ThereLemmas.{deliver-there, deliver-enough, counted-vec}
use Rattle.sk_ranks.proofs.phase.RankPhase.deliver.Goals as goal

pub count_down-requires-clause-there : goal.count_down-requires-clause-there
count_down-requires-clause-there c =
    let there = rw (← c.self.view_is) at c.requires.there in
    deliver-there c.self.inside c.args.message _ _ c.self.invariant there c.of-waiting.ensures c.deref_mut.ensures.value

pub count_down-requires-clause-enough : goal.count_down-requires-clause-enough
count_down-requires-clause-enough c =
    let there = rw (← c.self.view_is) at c.requires.there in
    let can = rw (← c.self.view_is) at c.requires.can in
    deliver-enough c.self.inside c.args.message _ _ c.self.invariant there can c.of-waiting.ensures c.deref_mut.ensures.value

pub invariant_of-self : goal.invariant_of-self
invariant_of-self c =
    let there = rw (← c.self.view_is) at c.requires.there in
    let can = rw (← c.self.view_is) at c.requires.can in
    kept-deliver c.self.inside c.args.message _ _ _ _ c.self.invariant there can refl c.remove.ensures
    (counted-vec c.self.inside.runs.lacks _ _ _ _ _ _ c.deref_mut.ensures.value c.of-waiting.ensures c.count_down.ensures)
