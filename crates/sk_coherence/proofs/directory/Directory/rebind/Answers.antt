use Rattle.std.proofs.Common.{◌≡◌, ◌≢◌, ℕ, ◌-◌, ◌<◌, List, length, slice_index, Some, IsSome, arith, rules, refl, sym, subst, ap, ◌∙◌}
use Rattle.sk_spaces.specs.declared.step.Step.TheVariants.{Stale}
use Rattle.sk_spaces.specs.Spaces.{OnlyNotes}
use Rattle.sk_copy_states.specs.Copies.{IsReady, StalesAll, store_in}
use Rattle.sk_copy_states.specs.Stores.{copies_in, changes_in, len_in}
use Rattle.sk_messages.specs.Messages.{Spoils}
use Rattle.sk_coherence_laws.specs.Directory.{DirectoryView, copy_at, store_at}
use Rattle.sk_coherence_laws.specs.Rebinds.{Rebinds}
use Rattle.sk_coherence_laws.specs.Traced.{TracesStep}
use Rattle.sk_coherence_laws.proofs.SoundWrite.{ready_all, distinct_all}
use Rattle.sk_coherence_laws.proofs.RebindLemmas.{sound-rebound, traced-rebound}
use Rattle.sk_coherence.proofs.directory.Directory.rebind.Goals as goal

pub stale_all-requires-clause-ready : goal.stale_all-requires-clause-ready
stale_all-requires-clause-ready g c =
    let d : DirectoryView = record { spaces = c.self.inside.spaces; copies = c.self.inside.copies.entries; stores = c.self.inside.stores.entries; next = c.self.inside.next; ready = c.self.inside.ready; owed = c.self.inside.owed; named = c.self.inside.named; messages = c.self.inside.messages; aside = c.self.inside.aside } in
    let s = c.args.store.id in
    let ids : copies_in (store_at d s) ≡ c.copies.result.now = ap copies_in (sym c.in-Some.ensures.value) ∙ sym c.copies.ensures in
    let some : 0 < changes_in (store_at d s) = subst (λ (x : DirectoryView). 0 < changes_in (store_at x s)) (sym c.self.view_is) c.requires.acquired in
    subst (λ (ids : List ℕ). (k : ℕ) → k < length ids → IsReady 1 (copy_at d (slice_index ids k))) ids (ready_all d s c.self.invariant some)

pub stale_all-requires-clause-distinct : goal.stale_all-requires-clause-distinct
stale_all-requires-clause-distinct g c =
    let d : DirectoryView = record { spaces = c.self.inside.spaces; copies = c.self.inside.copies.entries; stores = c.self.inside.stores.entries; next = c.self.inside.next; ready = c.self.inside.ready; owed = c.self.inside.owed; named = c.self.inside.named; messages = c.self.inside.messages; aside = c.self.inside.aside } in
    let s = c.args.store.id in
    let ids : copies_in (store_at d s) ≡ c.copies.result.now = ap copies_in (sym c.in-Some.ensures.value) ∙ sym c.copies.ensures in
    subst (λ (ids : List ℕ). (j k : ℕ) → j < k → k < length ids → slice_index ids j ≢ slice_index ids k) ids (distinct_all d s c.self.invariant)

pub stale_all-requires-clause-listed : goal.stale_all-requires-clause-listed
stale_all-requires-clause-listed g c =
    let d : DirectoryView = record { spaces = c.self.inside.spaces; copies = c.self.inside.copies.entries; stores = c.self.inside.stores.entries; next = c.self.inside.next; ready = c.self.inside.ready; owed = c.self.inside.owed; named = c.self.inside.named; messages = c.self.inside.messages; aside = c.self.inside.aside } in
    let s = c.args.store.id in
    let ids : copies_in (store_at d s) ≡ c.copies.result.now = ap copies_in (sym c.in-Some.ensures.value) ∙ sym c.copies.ensures in
    subst (λ (ids : List ℕ). (k : ℕ) → k < length ids → store_in (copy_at d (slice_index ids k)) ≡ Some s) ids (c.self.invariant.listed s)

pub invariant_of-self : goal.invariant_of-self
invariant_of-self g c =
    let d : DirectoryView = record { spaces = c.self.inside.spaces; copies = c.self.inside.copies.entries; stores = c.self.inside.stores.entries; next = c.self.inside.next; ready = c.self.inside.ready; owed = c.self.inside.owed; named = c.self.inside.named; messages = c.self.inside.messages; aside = c.self.inside.aside } in
    let n : DirectoryView = record { spaces = c.note_ready.new.spaces; copies = c.stale_all.new.copies.entries; stores = c.rebind.new.stores.entries; next = c.self.inside.next; ready = c.self.inside.ready - 1; owed = c.self.inside.owed - 1; named = c.self.inside.named; messages = c.spoil.new.self; aside = c.self.inside.aside } in
    let s = c.args.store.id in
    let len : len_in (store_at d s) ≡ c.cells.result = ap len_in (sym c.in-Some.ensures.value) ∙ search rules in
    let owed : 0 < d.owed = subst (λ (x : DirectoryView). 0 < x.owed) (sym c.self.view_is) c.requires.owed in
    let some : 0 < changes_in (store_at d s) = subst (λ (x : DirectoryView). 0 < changes_in (store_at x s)) (sym c.self.view_is) c.requires.acquired in
    let r : Rebinds d n s = record {
      states = subst (λ (h : ℕ). StalesAll (copy_at d) (copy_at n) s 0 h) (sym len) c.stale_all.ensures;
      stores = c.rebind.ensures;
      owed = omega (arith, owed);
      ready = omega (arith, owed, c.self.invariant.owed);
      next = refl;
      named = refl;
      messages = subst (λ (h : ℕ). Spoils d.messages n.messages s 0 h) (sym len) c.spoil.ensures;
      aside = refl;
      spaces = subst (λ (h : ℕ). OnlyNotes d.spaces n.spaces (Stale s 0 h)) (sym len) c.note_ready.ensures;
    } in
    sound-rebound d n s c.self.invariant r some

pub returns-clause-rebound : goal.returns-clause-rebound
returns-clause-rebound g c =
    let d : DirectoryView = record { spaces = c.self.inside.spaces; copies = c.self.inside.copies.entries; stores = c.self.inside.stores.entries; next = c.self.inside.next; ready = c.self.inside.ready; owed = c.self.inside.owed; named = c.self.inside.named; messages = c.self.inside.messages; aside = c.self.inside.aside } in
    let n : DirectoryView = record { spaces = c.note_ready.new.spaces; copies = c.stale_all.new.copies.entries; stores = c.rebind.new.stores.entries; next = c.self.inside.next; ready = c.self.inside.ready - 1; owed = c.self.inside.owed - 1; named = c.self.inside.named; messages = c.spoil.new.self; aside = c.self.inside.aside } in
    let s = c.args.store.id in
    let len : len_in (store_at d s) ≡ c.cells.result = ap len_in (sym c.in-Some.ensures.value) ∙ search rules in
    let owed : 0 < d.owed = subst (λ (x : DirectoryView). 0 < x.owed) (sym c.self.view_is) c.requires.owed in
    let some : 0 < changes_in (store_at d s) = subst (λ (x : DirectoryView). 0 < changes_in (store_at x s)) (sym c.self.view_is) c.requires.acquired in
    let r : Rebinds d n s = record {
      states = subst (λ (h : ℕ). StalesAll (copy_at d) (copy_at n) s 0 h) (sym len) c.stale_all.ensures;
      stores = c.rebind.ensures;
      owed = omega (arith, owed);
      ready = omega (arith, owed, c.self.invariant.owed);
      next = refl;
      named = refl;
      messages = subst (λ (h : ℕ). Spoils d.messages n.messages s 0 h) (sym len) c.spoil.ensures;
      aside = refl;
      spaces = subst (λ (h : ℕ). OnlyNotes d.spaces n.spaces (Stale s 0 h)) (sym len) c.note_ready.ensures;
    } in
    subst (λ (x : DirectoryView). Rebinds x n s) c.self.view_is r

pub returns-clause-traced : goal.returns-clause-traced
returns-clause-traced g c =
    let d : DirectoryView = record { spaces = c.self.inside.spaces; copies = c.self.inside.copies.entries; stores = c.self.inside.stores.entries; next = c.self.inside.next; ready = c.self.inside.ready; owed = c.self.inside.owed; named = c.self.inside.named; messages = c.self.inside.messages; aside = c.self.inside.aside } in
    let n : DirectoryView = record { spaces = c.note_ready.new.spaces; copies = c.stale_all.new.copies.entries; stores = c.rebind.new.stores.entries; next = c.self.inside.next; ready = c.self.inside.ready - 1; owed = c.self.inside.owed - 1; named = c.self.inside.named; messages = c.spoil.new.self; aside = c.self.inside.aside } in
    let s = c.args.store.id in
    let len : len_in (store_at d s) ≡ c.cells.result = ap len_in (sym c.in-Some.ensures.value) ∙ search rules in
    let owed : 0 < d.owed = subst (λ (x : DirectoryView). 0 < x.owed) (sym c.self.view_is) c.requires.owed in
    let some : 0 < changes_in (store_at d s) = subst (λ (x : DirectoryView). 0 < changes_in (store_at x s)) (sym c.self.view_is) c.requires.acquired in
    let r : Rebinds d n s = record {
      states = subst (λ (h : ℕ). StalesAll (copy_at d) (copy_at n) s 0 h) (sym len) c.stale_all.ensures;
      stores = c.rebind.ensures;
      owed = omega (arith, owed);
      ready = omega (arith, owed, c.self.invariant.owed);
      next = refl;
      named = refl;
      messages = subst (λ (h : ℕ). Spoils d.messages n.messages s 0 h) (sym len) c.spoil.ensures;
      aside = refl;
      spaces = subst (λ (h : ℕ). OnlyNotes d.spaces n.spaces (Stale s 0 h)) (sym len) c.note_ready.ensures;
    } in
    subst (λ (x : DirectoryView). TracesStep x n (Stale s 0 (len_in (store_at x s)))) c.self.view_is
    (traced-rebound d n s c.self.invariant r some (subst (λ (x : DirectoryView). IsSome (store_at x s)) (sym c.self.view_is) c.requires.there))
