use Rattle.std.proofs.Common.{◌≡◌, ◌≢◌, ℕ, ◌+◌, ◌-◌, ◌<◌, List, length, slice_index, min, Option, Some, None, IfSome, IsSome, arith, rules, sym, subst, ap, ◌∙◌, refl}
use Rattle.sk_copy_states.specs.declared.held.Held.{Held}
use Rattle.sk_copy_states.specs.Copies.{IsReady, OwnsAlone, ReachesIn, store_in, cell_in}
use Rattle.sk_copy_states.specs.Stores.{StoreView, copies_in, changes_in, UsesWrite}
use Rattle.sk_messages.specs.Messages.{Spoils}
use Rattle.sk_coherence_laws.specs.Directory.{DirectoryView, copy_at, store_at, cells_of_copy}
use Rattle.sk_spaces.specs.declared.step.Step.{Step}
use Rattle.sk_spaces.specs.Spaces.{NotesStep}
use Rattle.sk_coherence_laws.specs.Writes.{WritesCopy, WritesIn, SameRoom}
use Rattle.sk_spaces.proofs.CopyLemmas.{taken-written}
use Rattle.sk_coherence_laws.proofs.SoundWrite.{ready_all, distinct_all, sound-write, values}
use Rattle.sk_coherence_laws.proofs.KeptLemmas.{sound-kept, keeps_same}
use Rattle.sk_coherence_laws.specs.Traced.{TracesWrite}
use Rattle.sk_coherence_laws.proofs.TracedWrite.{like-write}
use Rattle.sk_coherence.proofs.LegalWrites.{traced-said}
use Rattle.sk_coherence.proofs.directory.Directory.release_write.Goals as goal

pub own_alone-requires-clause-ready : goal.own_alone-requires-clause-ready
own_alone-requires-clause-ready g c =
    let d : DirectoryView = record { spaces = c.self.inside.spaces; copies = c.self.inside.copies.entries; stores = c.self.inside.stores.entries; next = c.self.inside.next; ready = c.self.inside.ready; owed = c.self.inside.owed; named = c.self.inside.named; messages = c.self.inside.messages; aside = c.self.inside.aside } in
    let s = c.in-Some.held.now.store in
    let ids : copies_in (store_at d s) ≡ c.copies.result.now = ap copies_in (sym c.in-Some-get.ensures.value) ∙ sym c.copies.ensures in
    let room : IfSome (copy_at d c.args.copy.id) (λ held. 0 < changes_in (store_at d held.store)) = subst (λ (d : DirectoryView). IfSome (copy_at d c.args.copy.id) (λ held. 0 < changes_in (store_at d held.store))) (sym c.self.view_is) c.requires.room in
    let some : 0 < changes_in (store_at d s) = subst (λ (o : Option Held). IfSome o (λ held. 0 < changes_in (store_at d held.store))) (sym c.in-Some.ensures.value) room in
    subst (λ (ids : List ℕ). (k : ℕ) → k < length ids → IsReady 1 (copy_at d (slice_index ids k))) ids (ready_all d s c.self.invariant some)

pub own_alone-requires-clause-distinct : goal.own_alone-requires-clause-distinct
own_alone-requires-clause-distinct g c =
    let d : DirectoryView = record { spaces = c.self.inside.spaces; copies = c.self.inside.copies.entries; stores = c.self.inside.stores.entries; next = c.self.inside.next; ready = c.self.inside.ready; owed = c.self.inside.owed; named = c.self.inside.named; messages = c.self.inside.messages; aside = c.self.inside.aside } in
    let s = c.in-Some.held.now.store in
    let ids : copies_in (store_at d s) ≡ c.copies.result.now = ap copies_in (sym c.in-Some-get.ensures.value) ∙ sym c.copies.ensures in
    subst (λ (ids : List ℕ). (j k : ℕ) → j < k → k < length ids → slice_index ids j ≢ slice_index ids k) ids (distinct_all d s c.self.invariant)

pub invariant_of-self : goal.invariant_of-self
invariant_of-self g c =
    let d : DirectoryView = record { spaces = c.self.inside.spaces; copies = c.self.inside.copies.entries; stores = c.self.inside.stores.entries; next = c.self.inside.next; ready = c.self.inside.ready; owed = c.self.inside.owed; named = c.self.inside.named; messages = c.self.inside.messages; aside = c.self.inside.aside } in
    let n : DirectoryView = record d { named = c.take.new.self } in
    sound-kept d n (λ q. keeps_same (copy_at d q)) c.self.invariant refl (λ t. refl) refl refl refl c.self.invariant.owed c.self.invariant.ready

pub invariant_of-self-2 : goal.invariant_of-self-2
invariant_of-self-2 g c =
    let d : DirectoryView = record { spaces = c.self.inside.spaces; copies = c.self.inside.copies.entries; stores = c.self.inside.stores.entries; next = c.self.inside.next; ready = c.self.inside.ready; owed = c.self.inside.owed; named = c.self.inside.named; messages = c.self.inside.messages; aside = c.self.inside.aside } in
    let n : DirectoryView = record { spaces = c.put.new.spaces; copies = c.own_alone.new.copies.entries; stores = c.use_write.new.stores.entries; next = c.self.inside.next; ready = c.self.inside.ready - 1; owed = c.saturating_sub-self-inside.result; named = c.take.new.self; messages = c.spoil.new.self; aside = c.self.inside.aside } in
    let s = c.in-Some.held.now.store in
    let id = c.args.copy.id in
    let here : copy_at d id ≡ Some c.in-Some.held.now = sym c.in-Some.ensures.value in
    let room : IfSome (copy_at d id) (λ held. 0 < changes_in (store_at d held.store)) = subst (λ (d : DirectoryView). IfSome (copy_at d id) (λ held. 0 < changes_in (store_at d held.store))) (sym c.self.view_is) c.requires.room in
    let some : 0 < changes_in (store_at d s) = subst (λ (o : Option Held). IfSome o (λ held. 0 < changes_in (store_at d held.store))) here room in
    let step = c.in-Some-take.step in
    let change = c.put.ensures in
    let owed : 0 < d.owed = subst (λ (d : DirectoryView). 0 < d.owed) (sym c.self.view_is) c.requires.owed in
    sound-write d n id c.args.range.lo c.args.cells.now s step c.self.invariant (ap store_in here)
    (subst (λ (h : ℕ). OwnsAlone (copy_at d) (copy_at n) id c.args.range.lo h) (sym c.requires.len) c.own_alone.ensures) change c.use_write.ensures
    (subst (λ (d : DirectoryView). IsSome (copy_at d id)) (sym c.self.view_is) c.requires.there)
    (subst (λ (h : ℕ). ReachesIn (copy_at d id) c.args.range.lo h) (sym c.requires.len) (subst (λ (d : DirectoryView). ReachesIn (copy_at d id) c.args.range.lo c.args.range.hi) (sym c.self.view_is) c.requires.reaches))
    some owed (omega (arith, owed, some, ap changes_in c.in-Some-get.ensures.value, c.used_by_write-used.ensures.some, c.saturating_sub-self-inside.ensures)) refl refl
    (subst (λ (h : ℕ). Spoils d.messages n.messages s c.args.range.lo h) (sym c.requires.len) c.spoil.ensures) refl

pub returns-clause-written : goal.returns-clause-written
returns-clause-written g c =
    let d : DirectoryView = record { spaces = c.self.inside.spaces; copies = c.self.inside.copies.entries; stores = c.self.inside.stores.entries; next = c.self.inside.next; ready = c.self.inside.ready; owed = c.self.inside.owed; named = c.self.inside.named; messages = c.self.inside.messages; aside = c.self.inside.aside } in
    let n : DirectoryView = record { spaces = c.put.new.spaces; copies = c.own_alone.new.copies.entries; stores = c.use_write.new.stores.entries; next = c.self.inside.next; ready = c.self.inside.ready - 1; owed = c.saturating_sub-self-inside.result; named = c.take.new.self; messages = c.spoil.new.self; aside = c.self.inside.aside } in
    let s = c.in-Some.held.now.store in
    let id = c.args.copy.id in
    let here : copy_at d id ≡ Some c.in-Some.held.now = sym c.in-Some.ensures.value in
    let step = c.in-Some-take.step in
    let change = c.put.ensures in
    let name : d.named ≡ Some step = search rules in
    let none : c.take.new.self ≡ None = search rules in
    let w : OwnsAlone (copy_at d) (copy_at n) id c.args.range.lo (c.args.range.lo + length c.args.cells.now) = subst (λ (h : ℕ). OwnsAlone (copy_at d) (copy_at n) id c.args.range.lo h) (sym c.requires.len) c.own_alone.ensures in
    let v = values d n id c.args.range.lo c.args.cells.now s step c.self.invariant (ap store_in here) w change c.use_write.ensures
    (subst (λ (d : DirectoryView). IsSome (copy_at d id)) (sym c.self.view_is) c.requires.there)
    (subst (λ (h : ℕ). ReachesIn (copy_at d id) c.args.range.lo h) (sym c.requires.len) (subst (λ (d : DirectoryView). ReachesIn (copy_at d id) c.args.range.lo c.args.range.hi) (sym c.self.view_is) c.requires.reaches)) in
    subst (λ (d : DirectoryView). WritesCopy d n id c.args.range.lo c.args.range.hi c.args.cells.now) c.self.view_is
    (record {
      states = c.own_alone.ensures;
      values = subst (λ (h : ℕ). WritesIn (cell_in (cells_of_copy d id)) (cell_in (cells_of_copy n id)) c.args.range.lo h c.args.cells.now) c.requires.len v;
      others = change.memories.blocks.others;
      noted = subst (λ (o : Option Step). IfSome o (λ step. NotesStep d.spaces n.spaces step)) (sym name) change.noted;
      named = none;
      messages = subst (λ (o : Option Held). IfSome o (λ held. Spoils d.messages n.messages held.store c.args.range.lo c.args.range.hi)) (sym here) c.spoil.ensures;
      aside = refl;
    })

pub returns-clause-traced : goal.returns-clause-traced
returns-clause-traced g c =
    let d : DirectoryView = record { spaces = c.self.inside.spaces; copies = c.self.inside.copies.entries; stores = c.self.inside.stores.entries; next = c.self.inside.next; ready = c.self.inside.ready; owed = c.self.inside.owed; named = c.self.inside.named; messages = c.self.inside.messages; aside = c.self.inside.aside } in
    let n : DirectoryView = record { spaces = c.put.new.spaces; copies = c.own_alone.new.copies.entries; stores = c.use_write.new.stores.entries; next = c.self.inside.next; ready = c.self.inside.ready - 1; owed = c.saturating_sub-self-inside.result; named = c.take.new.self; messages = c.spoil.new.self; aside = c.self.inside.aside } in
    let s = c.in-Some.held.now.store in
    let id = c.args.copy.id in
    let here : copy_at d id ≡ Some c.in-Some.held.now = sym c.in-Some.ensures.value in
    let step = c.in-Some-take.step in
    let change = c.put.ensures in
    let w : OwnsAlone (copy_at d) (copy_at n) id c.args.range.lo (c.args.range.lo + length c.args.cells.now) = subst (λ (h : ℕ). OwnsAlone (copy_at d) (copy_at n) id c.args.range.lo h) (sym c.requires.len) c.own_alone.ensures in
    subst (λ (d : DirectoryView). TracesWrite d n id c.args.range.lo c.args.range.hi c.args.cells.now) c.self.view_is
    (subst (λ (h : ℕ). TracesWrite d n id c.args.range.lo h c.args.cells.now) c.requires.len
    (λ m l. like-write d n id c.args.range.lo c.args.cells.now s step c.self.invariant (ap store_in here) w change c.use_write.ensures
    (subst (λ (d : DirectoryView). IsSome (copy_at d id)) (sym c.self.view_is) c.requires.there)
    (subst (λ (h : ℕ). ReachesIn (copy_at d id) c.args.range.lo h) (sym c.requires.len) (subst (λ (d : DirectoryView). ReachesIn (copy_at d id) c.args.range.lo c.args.range.hi) (sym c.self.view_is) c.requires.reaches))
    m l refl (subst (λ (h : ℕ). Spoils d.messages n.messages s c.args.range.lo h) (sym c.requires.len) c.spoil.ensures)))

pub returns-clause-stores : goal.returns-clause-stores
returns-clause-stores g c =
    let d : DirectoryView = record { spaces = c.self.inside.spaces; copies = c.self.inside.copies.entries; stores = c.self.inside.stores.entries; next = c.self.inside.next; ready = c.self.inside.ready; owed = c.self.inside.owed; named = c.self.inside.named; messages = c.self.inside.messages; aside = c.self.inside.aside } in
    subst (λ (x : DirectoryView). IfSome (copy_at x c.args.copy.id) (λ held. UsesWrite x.stores c.use_write.new.stores.entries held.store)) c.self.view_is
    (subst (λ (o : Option Held). IfSome o (λ held. UsesWrite d.stores c.use_write.new.stores.entries held.store)) c.in-Some.ensures.value c.use_write.ensures)

pub returns-clause-used : goal.returns-clause-used
returns-clause-used g c =
    let d : DirectoryView = record { spaces = c.self.inside.spaces; copies = c.self.inside.copies.entries; stores = c.self.inside.stores.entries; next = c.self.inside.next; ready = c.self.inside.ready; owed = c.self.inside.owed; named = c.self.inside.named; messages = c.self.inside.messages; aside = c.self.inside.aside } in
    let s = c.in-Some.held.now.store in
    let left : c.saturating_sub-self-inside.result ≡ d.owed - min (changes_in (store_at d s)) 2
    = c.saturating_sub-self-inside.ensures ∙ ap (λ (u : ℕ). d.owed - u) (c.used_by_write-used.ensures.used ∙ ap (λ (o : Option StoreView). min (changes_in o) 2) c.in-Some-get.ensures.value) in
    subst (λ (x : DirectoryView). IfSome (copy_at x c.args.copy.id) (λ held. c.saturating_sub-self-inside.result ≡ x.owed - min (changes_in (store_at x held.store)) 2)) c.self.view_is
    (subst (λ (o : Option Held). IfSome o (λ held. c.saturating_sub-self-inside.result ≡ d.owed - min (changes_in (store_at d held.store)) 2)) c.in-Some.ensures.value left)

pub returns-clause-ready : goal.returns-clause-ready
returns-clause-ready g c =
    let owed : 0 < c.self.inside.owed = subst (λ (d : DirectoryView). 0 < d.owed) (sym c.self.view_is) c.requires.owed in
    subst (λ (x : DirectoryView). c.self.inside.ready - 1 + 1 ≡ x.ready) c.self.view_is (omega (arith, owed, c.self.invariant.owed))

pub returns-clause-legal : goal.returns-clause-legal
returns-clause-legal g c =
    let n : DirectoryView = record { spaces = c.put.new.spaces; copies = c.own_alone.new.copies.entries; stores = c.use_write.new.stores.entries; next = c.self.inside.next; ready = c.self.inside.ready - 1; owed = c.saturating_sub-self-inside.result; named = c.take.new.self; messages = c.spoil.new.self; aside = c.self.inside.aside } in
    λ step is host says. traced-said c.args.self.now n c.args.copy.id c.args.range.lo c.args.range.hi c.args.cells.now c.requires.there host c.requires.reaches c.requires.len
    (returns-clause-traced g c) step says

pub returns-clause-same : goal.returns-clause-same
returns-clause-same g c =
    let d : DirectoryView = record { spaces = c.self.inside.spaces; copies = c.self.inside.copies.entries; stores = c.self.inside.stores.entries; next = c.self.inside.next; ready = c.self.inside.ready; owed = c.self.inside.owed; named = c.self.inside.named; messages = c.self.inside.messages; aside = c.self.inside.aside } in
    let n : DirectoryView = record { spaces = c.put.new.spaces; copies = c.own_alone.new.copies.entries; stores = c.use_write.new.stores.entries; next = c.self.inside.next; ready = c.self.inside.ready - 1; owed = c.saturating_sub-self-inside.result; named = c.take.new.self; messages = c.spoil.new.self; aside = c.self.inside.aside } in
    let change = c.put.ensures.memories in
    subst (λ (x : DirectoryView). SameRoom x n) c.self.view_is
    (record {
      next_copy = change.next;
      ranks = change.ranks;
      capacity = change.capacity;
      used = λ space. omega (arith, change.used space, taken-written (cells_of_copy d c.args.copy.id) space c.args.range.lo c.args.cells.now);
    })
