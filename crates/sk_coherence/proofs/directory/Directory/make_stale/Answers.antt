use Rattle.std.proofs.Common.{◌≡◌, ◌≢◌, ℕ, ◌+◌, ◌-◌, ◌<◌, ◌≤◌, List, length, slice_index, Some, IsSome, arith, refl, sym, subst, ap, ◌∙◌}
use Rattle.sk_spaces.specs.declared.step.Step.TheVariants.{Stale}
use Rattle.sk_copy_states.specs.Copies.{IsReady, HasRoomIn, store_in}
use Rattle.sk_copy_states.specs.Stores.{copies_in, changes_in, len_in}
use Rattle.sk_coherence_laws.specs.Directory.{DirectoryView, copy_at, store_at}
use Rattle.sk_coherence_laws.specs.Retires.{Stales}
use Rattle.sk_coherence_laws.specs.Traced.{TracesStep}
use Rattle.sk_coherence_laws.proofs.SoundWrite.{distinct_all}
use Rattle.sk_coherence_laws.proofs.StaleLemmas.{sound-staled, traced-staled}
use Rattle.sk_coherence.proofs.LeaveSums.{ready_listed}
use Rattle.sk_coherence.proofs.directory.Directory.make_stale.Goals as goal

pub stale_all-requires-clause-ready : goal.stale_all-requires-clause-ready
stale_all-requires-clause-ready g c =
    let d : DirectoryView = record { spaces = c.self.inside.spaces; copies = c.self.inside.copies.entries; stores = c.self.inside.stores.entries; next = c.self.inside.next; ready = c.self.inside.ready; owed = c.self.inside.owed; named = c.self.inside.named; messages = c.self.inside.messages; aside = c.self.inside.aside } in
    let s = c.args.store.id in
    let ids : copies_in (store_at d s) ≡ c.copies.result.now = ap copies_in (sym c.in-Some.ensures.value) ∙ sym c.copies.ensures in
    let room : (q : ℕ) → store_in (copy_at d q) ≡ Some s → HasRoomIn (changes_in (store_at d s) + 1) (copy_at d q)
    = subst (λ (x : DirectoryView). (q : ℕ) → store_in (copy_at x q) ≡ Some s → HasRoomIn (changes_in (store_at x s) + 1) (copy_at x q)) (sym c.self.view_is) c.requires.room in
    subst (λ (ids : List ℕ). (k : ℕ) → k < length ids → IsReady 1 (copy_at d (slice_index ids k))) ids (ready_listed d s c.self.invariant room)

pub stale_all-requires-clause-distinct : goal.stale_all-requires-clause-distinct
stale_all-requires-clause-distinct g c =
    let d : DirectoryView = record { spaces = c.self.inside.spaces; copies = c.self.inside.copies.entries; stores = c.self.inside.stores.entries; next = c.self.inside.next; ready = c.self.inside.ready; owed = c.self.inside.owed; named = c.self.inside.named; messages = c.self.inside.messages; aside = c.self.inside.aside } in
    let s = c.args.store.id in
    let ids : copies_in (store_at d s) ≡ c.copies.result.now = ap copies_in (sym c.in-Some.ensures.value) ∙ sym c.copies.ensures in
    subst (λ (ids : List ℕ). (j k : ℕ) → j < k → k < length ids → slice_index ids j ≢ slice_index ids k) ids (distinct_all d s c.self.invariant)

pub stale_all-requires-clause-listed : goal.stale_all-requires-clause-listed
stale_all-requires-clause-listed g c =
    let d : DirectoryView = record { spaces = c.self.inside.spaces; copies = c.self.inside.copies.entries; stores = c.self.inside.stores.entries; next = c.self.inside.next; ready = c.self.inside.ready; owed = c.self.inside.owed; named = c.self.inside.named; messages = c.self.inside.messages; aside = c.self.inside.aside } in
    let s = c.args.store.id in
    let ids : copies_in (store_at d s) ≡ c.copies.result.now = ap copies_in (sym c.in-Some.ensures.value) ∙ sym c.copies.ensures in
    subst (λ (ids : List ℕ). (k : ℕ) → k < length ids → store_in (copy_at d (slice_index ids k)) ≡ Some s) ids (c.self.invariant.listed s)

pub invariant_of-self : goal.invariant_of-self
invariant_of-self g c =
    let d : DirectoryView = record { spaces = c.self.inside.spaces; copies = c.self.inside.copies.entries; stores = c.self.inside.stores.entries; next = c.self.inside.next; ready = c.self.inside.ready; owed = c.self.inside.owed; named = c.self.inside.named; messages = c.self.inside.messages; aside = c.self.inside.aside } in
    let n : DirectoryView = record { spaces = c.note_ready.new.spaces; copies = c.stale_all.new.copies.entries; stores = c.self.inside.stores.entries; next = c.self.inside.next; ready = c.self.inside.ready - 1; owed = c.self.inside.owed; named = c.self.inside.named; messages = c.spoil.new.self; aside = c.self.inside.aside } in
    let s = c.args.store.id in
    let lo = c.args.range.lo in
    let hi = c.args.range.hi in
    let more : d.owed + 1 ≤ d.ready = subst (λ (x : DirectoryView). x.owed + 1 ≤ x.ready) (sym c.self.view_is) c.requires.ready in
    let room : (q : ℕ) → store_in (copy_at d q) ≡ Some s → HasRoomIn (changes_in (store_at d s) + 1) (copy_at d q)
    = subst (λ (x : DirectoryView). (q : ℕ) → store_in (copy_at x q) ≡ Some s → HasRoomIn (changes_in (store_at x s) + 1) (copy_at x q)) (sym c.self.view_is) c.requires.room in
    let r : Stales d n s lo hi = record { states = c.stale_all.ensures; stores = refl; next = refl; owed = refl; named = refl; messages = c.spoil.ensures; aside = refl; spaces = c.note_ready.ensures } in
    sound-staled d n s lo hi c.self.invariant r room (omega (arith, more)) (omega (arith, more, c.self.invariant.ready, c.note_ready.ensures.noted.spare))

pub returns-clause-staled : goal.returns-clause-staled
returns-clause-staled g c =
    let d : DirectoryView = record { spaces = c.self.inside.spaces; copies = c.self.inside.copies.entries; stores = c.self.inside.stores.entries; next = c.self.inside.next; ready = c.self.inside.ready; owed = c.self.inside.owed; named = c.self.inside.named; messages = c.self.inside.messages; aside = c.self.inside.aside } in
    let n : DirectoryView = record { spaces = c.note_ready.new.spaces; copies = c.stale_all.new.copies.entries; stores = c.self.inside.stores.entries; next = c.self.inside.next; ready = c.self.inside.ready - 1; owed = c.self.inside.owed; named = c.self.inside.named; messages = c.spoil.new.self; aside = c.self.inside.aside } in
    let s = c.args.store.id in
    let lo = c.args.range.lo in
    let hi = c.args.range.hi in
    let more : d.owed + 1 ≤ d.ready = subst (λ (x : DirectoryView). x.owed + 1 ≤ x.ready) (sym c.self.view_is) c.requires.ready in
    let room : (q : ℕ) → store_in (copy_at d q) ≡ Some s → HasRoomIn (changes_in (store_at d s) + 1) (copy_at d q)
    = subst (λ (x : DirectoryView). (q : ℕ) → store_in (copy_at x q) ≡ Some s → HasRoomIn (changes_in (store_at x s) + 1) (copy_at x q)) (sym c.self.view_is) c.requires.room in
    let r : Stales d n s lo hi = record { states = c.stale_all.ensures; stores = refl; next = refl; owed = refl; named = refl; messages = c.spoil.ensures; aside = refl; spaces = c.note_ready.ensures } in
    subst (λ (x : DirectoryView). Stales x n s lo hi) c.self.view_is r

pub returns-clause-traced : goal.returns-clause-traced
returns-clause-traced g c =
    let d : DirectoryView = record { spaces = c.self.inside.spaces; copies = c.self.inside.copies.entries; stores = c.self.inside.stores.entries; next = c.self.inside.next; ready = c.self.inside.ready; owed = c.self.inside.owed; named = c.self.inside.named; messages = c.self.inside.messages; aside = c.self.inside.aside } in
    let n : DirectoryView = record { spaces = c.note_ready.new.spaces; copies = c.stale_all.new.copies.entries; stores = c.self.inside.stores.entries; next = c.self.inside.next; ready = c.self.inside.ready - 1; owed = c.self.inside.owed; named = c.self.inside.named; messages = c.spoil.new.self; aside = c.self.inside.aside } in
    let s = c.args.store.id in
    let lo = c.args.range.lo in
    let hi = c.args.range.hi in
    let more : d.owed + 1 ≤ d.ready = subst (λ (x : DirectoryView). x.owed + 1 ≤ x.ready) (sym c.self.view_is) c.requires.ready in
    let room : (q : ℕ) → store_in (copy_at d q) ≡ Some s → HasRoomIn (changes_in (store_at d s) + 1) (copy_at d q)
    = subst (λ (x : DirectoryView). (q : ℕ) → store_in (copy_at x q) ≡ Some s → HasRoomIn (changes_in (store_at x s) + 1) (copy_at x q)) (sym c.self.view_is) c.requires.room in
    let r : Stales d n s lo hi = record { states = c.stale_all.ensures; stores = refl; next = refl; owed = refl; named = refl; messages = c.spoil.ensures; aside = refl; spaces = c.note_ready.ensures } in
    subst (λ (x : DirectoryView). TracesStep x n (Stale s lo hi)) c.self.view_is
    (traced-staled d n s lo hi c.self.invariant r room (subst (λ (x : DirectoryView). IsSome (store_at x s)) (sym c.self.view_is) c.requires.there)
    c.args.range.ordered (subst (λ (x : DirectoryView). hi ≤ len_in (store_at x s)) (sym c.self.view_is) c.requires.inside))
