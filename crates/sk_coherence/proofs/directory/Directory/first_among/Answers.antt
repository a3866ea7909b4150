use Rattle.std.proofs.Common.{◌≡◌, ℕ, ◌<◌, List, length, slice_index, sym, subst, ap, ◌∙◌}
use Rattle.sk_copy_states.specs.Copies.{LiesAmong, home_in}
use Rattle.sk_copy_states.specs.Stores.{copies_in}
use Rattle.sk_coherence_laws.specs.Directory.{DirectoryView, copy_at, store_at}
use Rattle.sk_coherence_laws.proofs.NamedMoves.{if_none_any}
use Rattle.sk_coherence.proofs.LeaveSums.{none_among}
use Rattle.sk_coherence.proofs.directory.Directory.first_among.Goals as goal

pub returns-in_err-id-clause-none : goal.returns-in_err-id-clause-none
returns-in_err-id-clause-none g c =
    let d : DirectoryView = record { spaces = c.self.inside.spaces; copies = c.self.inside.copies.entries; stores = c.self.inside.stores.entries; next = c.self.inside.next; ready = c.self.inside.ready; owed = c.self.inside.owed; named = c.self.inside.named; messages = c.self.inside.messages; aside = c.self.inside.aside } in
    let s = c.args.store.id in
    let lo = c.args.range.lo in
    let hi = c.args.range.hi in
    let ids : copies_in (store_at d s) ≡ c.copies.result.now = ap copies_in (sym c.in_ok-listed.ensures.value) ∙ sym c.copies.ensures in
    let none : (k : ℕ) → k < length (copies_in (store_at d s)) → LiesAmong s lo hi (home_in (copy_at d (slice_index (copies_in (store_at d s)) k))) → ⊥
    = subst (λ (ids : List ℕ). (k : ℕ) → k < length ids → LiesAmong s lo hi (home_in (copy_at d (slice_index ids k))) → ⊥) (sym ids) c.in_err-id.ensures.none in
    if_none_any c.from_residual-in_err-id.result
    (subst (λ (x : DirectoryView). (q : ℕ) → LiesAmong s lo hi (home_in (copy_at x q)) → ⊥) c.self.view_is
    (none_among d s lo hi c.self.invariant none))
