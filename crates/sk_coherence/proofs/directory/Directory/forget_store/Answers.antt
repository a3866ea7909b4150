use Rattle.std.proofs.Common.{◌≢◌, ℕ, ◌≤◌, Some, rules, sym, subst}
use Rattle.sk_copy_states.specs.Copies.{store_in}
use Rattle.sk_coherence_laws.specs.Directory.{DirectoryView, copy_at}
use Rattle.sk_coherence_laws.proofs.CloseLemmas.{sound-without}
use Rattle.sk_coherence.proofs.directory.Directory.forget_store.Goals as goal

pub invariant_of-self : goal.invariant_of-self
invariant_of-self g c =
    let d : DirectoryView = record { spaces = c.self.inside.spaces; copies = c.self.inside.copies.entries; stores = c.self.inside.stores.entries; next = c.self.inside.next; ready = c.self.inside.ready; owed = c.self.inside.owed; named = c.self.inside.named; messages = c.self.inside.messages; aside = c.self.inside.aside } in
    let s = c.args.store.id in
    let none : (q : ℕ) → store_in (copy_at d q) ≢ Some s = subst (λ (x : DirectoryView). (q : ℕ) → store_in (copy_at x q) ≢ Some s) (sym c.self.view_is) c.requires.none in
    let less : c.saturating_sub-self-inside.result ≤ d.owed = search rules in
    sound-without d s c.remove.new.stores.entries c.saturating_sub-self-inside.result none c.remove.ensures.here c.remove.ensures.others c.self.invariant less
