use Rattle.std.proofs.Common.{arith}
use Rattle.sk_ranks.proofs.EnabledLemmas.{none-finished, finished-none}
use Rattle.sk_ranks.proofs.ChosenLemmas.{enabled-count, enabled-bound}
use Rattle.sk_ranks.specs.Kept.{phase_of}
use Rattle.sk_ranks.proofs.phase.RankPhase.enabled.Goals as goal

pub overflow_add-result : goal.overflow_add-result
overflow_add-result c = let bound = enabled-bound c.self.inside c.self.invariant in search arith

pub overflow_add-result-2 : goal.overflow_add-result-2
overflow_add-result-2 c = let bound = enabled-bound c.self.inside c.self.invariant in search arith

pub returns-clause-count : goal.returns-clause-count
returns-clause-count c = rw (← c.self.view_is) (let count = enabled-count c.self.inside c.self.invariant in omega arith)

pub returns-clause-never_stuck : goal.returns-clause-never_stuck
returns-clause-never_stuck c =
    let count = enabled-count c.self.inside c.self.invariant in
    rw (← c.self.view_is) (
      λ none. none-finished (phase_of c.self.inside) c.self.invariant.plan (omega arith),
      λ finished. let nothing = finished-none (phase_of c.self.inside) finished in omega arith,
    )
