use Rattle.std.proofs.Common.{refl, subst}
use Rattle.sk_spaces.specs.Machine.{Machine}
use Rattle.sk_coherence_laws.specs.Directory.{DirectoryView, copy_at}
use Rattle.sk_coherence_laws.specs.Traced.{IsLike}
use Rattle.sk_coherence_laws.proofs.KeptLemmas.{keeps_all, sound-kept, like-kept}
use Rattle.sk_coherence.proofs.directory.Directory.unpin.Goals as goal

pub invariant_of-self : goal.invariant_of-self
invariant_of-self g c =
    let d : DirectoryView = record { spaces = c.self.inside.spaces; copies = c.self.inside.copies.entries; stores = c.self.inside.stores.entries; next = c.self.inside.next; ready = c.self.inside.ready; owed = c.self.inside.owed; named = c.self.inside.named; messages = c.self.inside.messages; aside = c.self.inside.aside } in
    let n : DirectoryView = record d { copies = c.unpin.new.copies.entries } in
    sound-kept d n (keeps_all (copy_at d) (copy_at n) c.args.copy.id c.unpin.ensures.states c.unpin.ensures.others) c.self.invariant refl (λ t. refl) refl refl refl c.self.invariant.owed c.self.invariant.ready

pub returns-clause-traced : goal.returns-clause-traced
returns-clause-traced g c =
    let d : DirectoryView = record { spaces = c.self.inside.spaces; copies = c.self.inside.copies.entries; stores = c.self.inside.stores.entries; next = c.self.inside.next; ready = c.self.inside.ready; owed = c.self.inside.owed; named = c.self.inside.named; messages = c.self.inside.messages; aside = c.self.inside.aside } in
    let n : DirectoryView = record d { copies = c.unpin.new.copies.entries } in
    subst (λ (d : DirectoryView). (m : Machine) → IsLike m d → IsLike m n) c.self.view_is
    (λ m l. like-kept d n (keeps_all (copy_at d) (copy_at n) c.args.copy.id c.unpin.ensures.states c.unpin.ensures.others) m refl (λ t. refl) refl refl l)
