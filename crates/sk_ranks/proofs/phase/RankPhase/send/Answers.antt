use Rattle.std.proofs.Common.{refl}
use Rattle.sk_ranks.proofs.ActLemmas.{kept-send}
use Rattle.sk_ranks.proofs.phase.RankPhase.send.Goals as goal

pub invariant_of-self : goal.invariant_of-self
invariant_of-self c =
    let there = rw (← c.self.view_is) at c.requires.there in
    let can = rw (← c.self.view_is) at c.requires.can in
    kept-send c.self.inside c.args.message _ _ _ c.self.invariant there can refl c.remove.ensures c.insert.ensures
