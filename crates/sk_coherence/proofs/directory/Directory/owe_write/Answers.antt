use Rattle.std.proofs.Common.{◌≡◌, ℕ, ◌+◌, ◌<◌, ◌≤◌, List, length, slice_index, Option, IsSome, option_map, arith, rules, refl, sym, subst, ap, ◌∙◌}
use Rattle.sk_spaces.specs.Machine.{Machine}
use Rattle.sk_copy_states.specs.declared.held.Held.{Held}
use Rattle.sk_copy_states.specs.Copies.{KeepsStates, held_in, pins_in}
use Rattle.sk_copy_states.specs.Stores.{copies_in, changes_in}
use Rattle.sk_coherence_laws.specs.Directory.{DirectoryView, copy_at, store_at}
use Rattle.sk_coherence_laws.specs.Traced.{IsLike}
use Rattle.sk_copy_states.specs.Copies.{HasRoomIn}
use Rattle.sk_copy_states.specs.Stores.{before_write}
use Rattle.sk_coherence_laws.specs.Owes.{OwesWrite}
use Rattle.sk_coherence_laws.proofs.TracedWrite.{some_home}
use Rattle.sk_coherence_laws.proofs.KeptLemmas.{sound-kept, keeps_all}
use Rattle.sk_coherence_laws.proofs.OweLemmas.{sound-owed, like-owed, pinned-more}
use Rattle.sk_copy_states.proofs.RoomLemmas.{kept-trans, room_kept}
use Rattle.sk_coherence.proofs.directory.Directory.owe_write.Goals as goal

pub invariant_of-self : goal.invariant_of-self
invariant_of-self g c =
    let d : DirectoryView = record { spaces = c.self.inside.spaces; copies = c.self.inside.copies.entries; stores = c.self.inside.stores.entries; next = c.self.inside.next; ready = c.self.inside.ready; owed = c.self.inside.owed; named = c.self.inside.named; messages = c.self.inside.messages; aside = c.self.inside.aside } in
    let n : DirectoryView = record d { copies = c.reserve_listed.new.copies.entries } in
    sound-kept d n c.reserve_listed.ensures.states c.self.invariant refl (λ t. refl) refl refl refl c.self.invariant.owed c.self.invariant.ready

pub invariant_of-self-in_err-pin : goal.invariant_of-self-in_err-pin
invariant_of-self-in_err-pin g c =
    let d : DirectoryView = record { spaces = c.self.inside.spaces; copies = c.self.inside.copies.entries; stores = c.self.inside.stores.entries; next = c.self.inside.next; ready = c.self.inside.ready; owed = c.self.inside.owed; named = c.self.inside.named; messages = c.self.inside.messages; aside = c.self.inside.aside } in
    let n : DirectoryView = record d { copies = c.pin.new.copies.entries } in
    let mid : ℕ → Option Held = held_in c.reserve_listed.new.copies.entries in
    sound-kept d n (λ q. kept-trans (copy_at d q) (mid q) (copy_at n q) (c.reserve_listed.ensures.states q)
    (keeps_all mid (copy_at n) c.args.copy.id c.pin.ensures.states c.pin.ensures.others q))
    c.self.invariant refl (λ t. refl) refl refl refl c.self.invariant.owed c.self.invariant.ready

pub invariant_of-self-2 : goal.invariant_of-self-2
invariant_of-self-2 g c =
    let d : DirectoryView = record { spaces = c.self.inside.spaces; copies = c.self.inside.copies.entries; stores = c.self.inside.stores.entries; next = c.self.inside.next; ready = c.self.inside.ready; owed = c.self.inside.owed; named = c.self.inside.named; messages = c.self.inside.messages; aside = c.self.inside.aside } in
    let n : DirectoryView = record d { copies = c.pin.new.copies.entries; stores = c.expect_write.new.stores.entries; owed = c.self.inside.owed + 2 } in
    let s = c.args.store.id in
    let copy = c.args.copy.id in
    let mid : ℕ → Option Held = held_in c.reserve_listed.new.copies.entries in
    let r = c.in_ok-reserve_listed.ensures in
    let p = c.in_ok-pin.ensures in
    let pinned_all : (q : ℕ) → KeepsStates (mid q) (copy_at n q) = keeps_all mid (copy_at n) copy p.states p.others in
    let there : IsSome (mid copy) = some_home (copy_at d copy) (mid copy) (sym (r.states copy).home) (subst (λ (x : DirectoryView). IsSome (copy_at x copy)) (sym c.self.view_is) c.requires.copy) in
    let o : OwesWrite d n s copy = record {
      copies = λ q. kept-trans (copy_at d q) (mid q) (copy_at n q) (r.states q) (pinned_all q);
      pinned = pinned-more (mid copy) (copy_at n copy) there p.here ∙ ap (λ x. x + 1) (r.pins copy);
      others = λ q ne. ap pins_in (p.others q ne) ∙ r.pins q;
      stores = c.expect_write.ensures;
      owed = refl;
      ready = refl;
      spaces = refl;
      next = refl;
      named = refl;
      messages = refl;
      aside = refl;
    } in
    let room = c.in-Some-checked_add.room in
    let sum : room ≡ c.in-Some.listed.now.room + 2 = search rules in
    let changes : changes_in (store_at n s) ≡ c.in-Some.listed.now.room + 2 = ap changes_in (c.expect_write.ensures.here ∙ ap (option_map before_write) (sym c.in-Some.ensures.value)) in
    let ids : copies_in (store_at d s) ≡ c.copies.result.now = ap copies_in (sym c.in-Some.ensures.value) ∙ sym c.copies.ensures in
    let made : (k : ℕ) → k < length (copies_in (store_at d s)) → HasRoomIn room (copy_at n (slice_index (copies_in (store_at d s)) k))
    = subst (λ (l : List ℕ). (k : ℕ) → k < length l → HasRoomIn room (copy_at n (slice_index l k))) (sym ids)
    (λ k below. room_kept room (mid (slice_index c.copies.result.now k)) (copy_at n (slice_index c.copies.result.now k)) (pinned_all (slice_index c.copies.result.now k)) (r.ok k below)) in
    sound-owed d n s copy room c.self.invariant o (omega (arith, sum, changes)) made (subst (λ (x : DirectoryView). x.owed + 2 ≤ x.ready) (sym c.self.view_is) c.requires.ready)

pub returns-clause-ok : goal.returns-clause-ok
returns-clause-ok g c =
    let d : DirectoryView = record { spaces = c.self.inside.spaces; copies = c.self.inside.copies.entries; stores = c.self.inside.stores.entries; next = c.self.inside.next; ready = c.self.inside.ready; owed = c.self.inside.owed; named = c.self.inside.named; messages = c.self.inside.messages; aside = c.self.inside.aside } in
    let n : DirectoryView = record d { copies = c.pin.new.copies.entries; stores = c.expect_write.new.stores.entries; owed = c.self.inside.owed + 2 } in
    let s = c.args.store.id in
    let copy = c.args.copy.id in
    let mid : ℕ → Option Held = held_in c.reserve_listed.new.copies.entries in
    let r = c.in_ok-reserve_listed.ensures in
    let p = c.in_ok-pin.ensures in
    let pinned_all : (q : ℕ) → KeepsStates (mid q) (copy_at n q) = keeps_all mid (copy_at n) copy p.states p.others in
    let there : IsSome (mid copy) = some_home (copy_at d copy) (mid copy) (sym (r.states copy).home) (subst (λ (x : DirectoryView). IsSome (copy_at x copy)) (sym c.self.view_is) c.requires.copy) in
    let o : OwesWrite d n s copy = record {
      copies = λ q. kept-trans (copy_at d q) (mid q) (copy_at n q) (r.states q) (pinned_all q);
      pinned = pinned-more (mid copy) (copy_at n copy) there p.here ∙ ap (λ x. x + 1) (r.pins copy);
      others = λ q ne. ap pins_in (p.others q ne) ∙ r.pins q;
      stores = c.expect_write.ensures;
      owed = refl;
      ready = refl;
      spaces = refl;
      next = refl;
      named = refl;
      messages = refl;
      aside = refl;
    } in
    subst (λ (x : DirectoryView). OwesWrite x n s copy) c.self.view_is o

pub returns-clause-traced : goal.returns-clause-traced
returns-clause-traced g c =
    let d : DirectoryView = record { spaces = c.self.inside.spaces; copies = c.self.inside.copies.entries; stores = c.self.inside.stores.entries; next = c.self.inside.next; ready = c.self.inside.ready; owed = c.self.inside.owed; named = c.self.inside.named; messages = c.self.inside.messages; aside = c.self.inside.aside } in
    let n : DirectoryView = record d { copies = c.pin.new.copies.entries; stores = c.expect_write.new.stores.entries; owed = c.self.inside.owed + 2 } in
    let s = c.args.store.id in
    let copy = c.args.copy.id in
    let mid : ℕ → Option Held = held_in c.reserve_listed.new.copies.entries in
    let r = c.in_ok-reserve_listed.ensures in
    let p = c.in_ok-pin.ensures in
    let pinned_all : (q : ℕ) → KeepsStates (mid q) (copy_at n q) = keeps_all mid (copy_at n) copy p.states p.others in
    let there : IsSome (mid copy) = some_home (copy_at d copy) (mid copy) (sym (r.states copy).home) (subst (λ (x : DirectoryView). IsSome (copy_at x copy)) (sym c.self.view_is) c.requires.copy) in
    let o : OwesWrite d n s copy = record {
      copies = λ q. kept-trans (copy_at d q) (mid q) (copy_at n q) (r.states q) (pinned_all q);
      pinned = pinned-more (mid copy) (copy_at n copy) there p.here ∙ ap (λ x. x + 1) (r.pins copy);
      others = λ q ne. ap pins_in (p.others q ne) ∙ r.pins q;
      stores = c.expect_write.ensures;
      owed = refl;
      ready = refl;
      spaces = refl;
      next = refl;
      named = refl;
      messages = refl;
      aside = refl;
    } in
    let room = c.in-Some-checked_add.room in
    let sum : room ≡ c.in-Some.listed.now.room + 2 = search rules in
    let changes : changes_in (store_at n s) ≡ c.in-Some.listed.now.room + 2 = ap changes_in (c.expect_write.ensures.here ∙ ap (option_map before_write) (sym c.in-Some.ensures.value)) in
    let ids : copies_in (store_at d s) ≡ c.copies.result.now = ap copies_in (sym c.in-Some.ensures.value) ∙ sym c.copies.ensures in
    let made : (k : ℕ) → k < length (copies_in (store_at d s)) → HasRoomIn room (copy_at n (slice_index (copies_in (store_at d s)) k))
    = subst (λ (l : List ℕ). (k : ℕ) → k < length l → HasRoomIn room (copy_at n (slice_index l k))) (sym ids)
    (λ k below. room_kept room (mid (slice_index c.copies.result.now k)) (copy_at n (slice_index c.copies.result.now k)) (pinned_all (slice_index c.copies.result.now k)) (r.ok k below)) in
    subst (λ (x : DirectoryView). (m : Machine) → IsLike m x → IsLike m n) c.self.view_is
    (like-owed d n s copy room c.self.invariant o (omega (arith, sum, changes)) made)
