use Rattle.std.proofs.Common.{sym, subst}
use Rattle.sk_coherence_laws.specs.Directory.{store_at}
use Rattle.sk_container.specs.Smart.{SmartView, HasStore}
use Rattle.sk_container.proofs.FlatLemmas.{flat-inside}
use Rattle.sk_container.proofs.smart.Smart.write.Goals as goal

pub write_at-requires : goal.write_at-requires
write_at-requires g c = let d = c.args.dir.now in record {
  inside = flat-inside (store_at d c.self.inside.store.id) c.self.inside.shape c.args.place.now c.in-Some.index
      (subst (λ (v : SmartView). HasStore d v) (sym c.self.view_is) c.requires.store) (sym c.in-Some.ensures);
}
