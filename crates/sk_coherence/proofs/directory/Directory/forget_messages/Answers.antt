use Rattle.std.proofs.Common.{◌≢◌, ℕ, Some, subst}
use Rattle.sk_spaces.specs.Machine.{Machine}
use Rattle.sk_copy_states.specs.Copies.{store_in}
use Rattle.sk_coherence_laws.specs.Directory.{DirectoryView, copy_at}
use Rattle.sk_coherence_laws.specs.Traced.{IsLike}
use Rattle.sk_coherence_laws.proofs.CloseLemmas.{sound-forgetting, like-forgetting}
use Rattle.sk_coherence.proofs.directory.Directory.forget_messages.Goals as goal

pub invariant_of-self : goal.invariant_of-self
invariant_of-self g c =
    let d : DirectoryView = record { spaces = c.self.inside.spaces; copies = c.self.inside.copies.entries; stores = c.self.inside.stores.entries; next = c.self.inside.next; ready = c.self.inside.ready; owed = c.self.inside.owed; named = c.self.inside.named; messages = c.self.inside.messages; aside = c.self.inside.aside } in
    sound-forgetting d c.spoil.new.self c.args.store.id c.args.range.lo c.args.range.hi c.spoil.ensures c.self.invariant

pub returns-clause-traced : goal.returns-clause-traced
returns-clause-traced g c =
    let d : DirectoryView = record { spaces = c.self.inside.spaces; copies = c.self.inside.copies.entries; stores = c.self.inside.stores.entries; next = c.self.inside.next; ready = c.self.inside.ready; owed = c.self.inside.owed; named = c.self.inside.named; messages = c.self.inside.messages; aside = c.self.inside.aside } in
    let n : DirectoryView = record d { messages = c.spoil.new.self } in
    subst (λ (x : DirectoryView). ((q : ℕ) → store_in (copy_at x q) ≢ Some c.args.store.id) → (m : Machine) → IsLike m x → IsLike m n) c.self.view_is
    (like-forgetting d c.spoil.new.self c.args.store.id c.args.range.lo c.args.range.hi c.spoil.ensures c.self.invariant)
