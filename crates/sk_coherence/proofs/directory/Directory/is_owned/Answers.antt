use Rattle.std.proofs.Common.{◌≡◌, ℕ, ◌<◌, List, length, slice_index, Some, subst, ap, ◌∙◌, sym}
use Rattle.sk_ranges.specs.declared.state.State.TheVariants.{Owner}
use Rattle.sk_copy_states.specs.Copies.{store_in, state_in}
use Rattle.sk_copy_states.specs.Stores.{copies_in}
use Rattle.sk_coherence_laws.specs.Directory.{DirectoryView, copy_at, store_at}
use Rattle.sk_coherence.proofs.directory.Directory.is_owned.Goals as goal

pub returns-in-Some-clause-some : goal.returns-in-Some-clause-some
returns-in-Some-clause-some g c is =
    let d : DirectoryView = record { spaces = c.self.inside.spaces; copies = c.self.inside.copies.entries; stores = c.self.inside.stores.entries; next = c.self.inside.next; ready = c.self.inside.ready; owed = c.self.inside.owed; named = c.self.inside.named; messages = c.self.inside.messages; aside = c.self.inside.aside } in
    let s = c.args.store.id in
    let ids : copies_in (store_at d s) ≡ c.copies.result.now = ap copies_in (sym c.in-Some.ensures.value) ∙ sym c.copies.ensures in
    let found = c.is_owned.ensures.some is in
    let q = slice_index c.copies.result.now found.0 in
    let of : store_in (copy_at d q) ≡ Some s
    = subst (λ (ids : List ℕ). (k : ℕ) → k < length ids → store_in (copy_at d (slice_index ids k)) ≡ Some s) ids (c.self.invariant.listed s) found.0 found.1 in
    subst (λ (x : DirectoryView). (q : ℕ) × (i : ℕ) × (store_in (copy_at x q) ≡ Some s) × (state_in (copy_at x q) i ≡ Owner)) c.self.view_is
    (q, found.2.0, of, found.2.1)
