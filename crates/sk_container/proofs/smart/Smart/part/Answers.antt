use Rattle.std.proofs.Common.{sym, subst}
use Rattle.sk_coherence_laws.specs.Owned.{IsOwned}
use Rattle.sk_container.specs.Smart.{SmartView}
use Rattle.sk_container.proofs.smart.Smart.part.Goals as goal

pub acquire_part-requires-clause-owned : goal.acquire_part-requires-clause-owned
acquire_part-requires-clause-owned g c = λ i above below.
    subst (λ (v : SmartView). IsOwned c.args.dir.now v.store i) (sym c.self.view_is) (c.requires.owned i above below)
