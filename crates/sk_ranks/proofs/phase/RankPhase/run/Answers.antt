use Rattle.std.proofs.Common.{refl, List, ℕ, subst}
use Rattle.sk_ranks.specs.Numbers.{Inserts, CountsDown}
use Rattle.sk_ranks.proofs.ActLemmas.{kept-run}
use Rattle.sk_ranks.proofs.ThereLemmas.{run-there, run-enough, sends-there, counted-vec, job-there}
use Rattle.sk_ranks.proofs.phase.RankPhase.run.Goals as goal

pub insert_all-requires : goal.insert_all-requires
insert_all-requires c =
    let there = rw (← c.self.view_is) at c.requires.there in
    sends-there c.self.inside c.args.job _ c.self.invariant (job-there c.self.inside c.args.job there) c.of.ensures

pub count_down-requires-clause-there : goal.count_down-requires-clause-there
count_down-requires-clause-there c =
    let there = rw (← c.self.view_is) at c.requires.there in
    run-there c.self.inside c.args.job _ _ c.self.invariant (job-there c.self.inside c.args.job there) c.of-waiting.ensures c.deref_mut.ensures.value

pub count_down-requires-clause-enough : goal.count_down-requires-clause-enough
count_down-requires-clause-enough c =
    let there = rw (← c.self.view_is) at c.requires.there in
    let can = rw (← c.self.view_is) at c.requires.can in
    run-enough c.self.inside c.args.job _ _ c.self.invariant (job-there c.self.inside c.args.job there) can c.of-waiting.ensures c.deref_mut.ensures.value

pub invariant_of-self : goal.invariant_of-self
invariant_of-self c =
    let there = rw (← c.self.view_is) at c.requires.there in
    let can = rw (← c.self.view_is) at c.requires.can in
    kept-run c.self.inside c.args.job _ _ _ _ c.self.invariant (job-there c.self.inside c.args.job there) can refl
    (subst (λ (xs : List ℕ). Inserts c.self.inside.sends.ready c.insert_all.new.self xs) c.of.ensures c.insert_all.ensures)
    (counted-vec c.self.inside.runs.lacks _ _ _ _ _ _ c.deref_mut.ensures.value c.of-waiting.ensures
    (subst (λ (xs : List ℕ). CountsDown c.deref_mut.result.now xs c.count_down.new.lacks c.count_down.new.ready c.of-waiting.result.now) c.remove.ensures c.count_down.ensures))
