use Rattle.sk_ranks.proofs.EnabledLemmas.{counted-enabled}
use Rattle.sk_ranks.proofs.StepLemmas.{performed-step}
use Rattle.sk_ranks.proofs.phase.RankPhase.step.Goals as goal

pub perform-requires : goal.perform-requires
perform-requires c = counted-enabled c.args.self.now c.args.choice _ c.chosen-act.ensures

pub returns-clause-left : goal.returns-clause-left
returns-clause-left c =
    rw c.perform.ensures (performed-step c.args.self.now _ (counted-enabled c.args.self.now c.args.choice _ c.chosen-act.ensures))
