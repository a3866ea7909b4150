use Rattle.std.proofs.Common.{◌≤◌, ◌+◌, length}
use Rattle.sk_copy_states.specs.Stores.{copies_in}
use Rattle.sk_coherence_laws.specs.Directory.{store_at}
use Rattle.sk_coherence_laws.specs.Retires.{Thins, IsFreeing, IsLikeBut, Leads}
use Rattle.sk_coherence.proofs.directory.Directory.free_among.Given as goal

abbrev pub invariant-copies : goal.invariant-copies
invariant-copies g l = record {
  thins : Thins l.fn.self l.self l.store.id l.range.lo l.range.hi;
  ready : l.self.owed + length (copies_in (store_at l.self l.store.id)) ≤ l.self.ready;
  traced : Leads (IsFreeing l.store.id l.range.lo l.range.hi) (λ m. IsLikeBut l.store.id l.range.lo l.range.hi m l.fn.self)
      (λ m. IsLikeBut l.store.id l.range.lo l.range.hi m l.self) l.fn.self l.self;
}

abbrev pub decreases-copies : goal.decreases-copies
decreases-copies g l = length (copies_in (store_at l.self l.store.id))
