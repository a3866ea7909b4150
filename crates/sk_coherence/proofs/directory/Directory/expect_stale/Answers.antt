use Rattle.std.proofs.Common.{refl}
use Rattle.sk_coherence_laws.specs.Directory.{DirectoryView}
use Rattle.sk_coherence_laws.proofs.KeptLemmas.{sound-kept}
use Rattle.sk_coherence.proofs.directory.Directory.expect_stale.Goals as goal

pub invariant_of-self : goal.invariant_of-self
invariant_of-self g c =
    let d : DirectoryView = record { spaces = c.self.inside.spaces; copies = c.self.inside.copies.entries; stores = c.self.inside.stores.entries; next = c.self.inside.next; ready = c.self.inside.ready; owed = c.self.inside.owed; named = c.self.inside.named; messages = c.self.inside.messages; aside = c.self.inside.aside } in
    let n : DirectoryView = record d { copies = c.reserve_listed.new.copies.entries } in
    sound-kept d n c.reserve_listed.ensures.states c.self.invariant refl (λ t. refl) refl refl refl c.self.invariant.owed c.self.invariant.ready
