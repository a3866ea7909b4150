use Rattle.std.proofs.Common.{◌≡◌, ◌≢◌, ℕ, ◌<◌, List, length, slice_index, Some, sym, subst, ap, ◌∙◌}
use Rattle.sk_copy_states.specs.Copies.{home_in}
use Rattle.sk_copy_states.specs.Stores.{copies_in}
use Rattle.sk_coherence_laws.specs.Directory.{DirectoryView, copy_at, store_at}
use Rattle.sk_coherence_laws.specs.HostBlocks.{HasBlock}
use Rattle.sk_coherence_laws.proofs.BlockLemmas.{none_listed}
use Rattle.sk_coherence_laws.proofs.NamedMoves.{if_none_any}
use Rattle.sk_coherence.proofs.directory.Directory.find.Goals as goal

pub returns-in_err-id-clause-none : goal.returns-in_err-id-clause-none
returns-in_err-id-clause-none g c =
    let d : DirectoryView = record { spaces = c.self.inside.spaces; copies = c.self.inside.copies.entries; stores = c.self.inside.stores.entries; next = c.self.inside.next; ready = c.self.inside.ready; owed = c.self.inside.owed; named = c.self.inside.named; messages = c.self.inside.messages; aside = c.self.inside.aside } in
    let s = c.args.store.id in
    let ids : copies_in (store_at d s) ≡ c.copies.result.now = ap copies_in (sym c.in_ok-listed.ensures.value) ∙ sym c.copies.ensures in
    let none : (k : ℕ) → k < length (copies_in (store_at d s)) → home_in (copy_at d (slice_index (copies_in (store_at d s)) k)) ≢ Some (record { store = s; space = c.args.space; lo = c.args.block.lo; hi = c.args.block.hi })
    = subst (λ (ids : List ℕ). (k : ℕ) → k < length ids → home_in (copy_at d (slice_index ids k)) ≢ Some (record { store = s; space = c.args.space; lo = c.args.block.lo; hi = c.args.block.hi })) (sym ids) c.in_err-id.ensures.none in
    if_none_any c.from_residual-in_err-id.result
    (subst (λ (x : DirectoryView). HasBlock x s c.args.space c.args.block.lo c.args.block.hi → ⊥) c.self.view_is
    (none_listed d s c.args.space c.args.block.lo c.args.block.hi c.self.invariant none))
