use Rattle.std.proofs.Common.{◌≡◌, ℕ, ◌+◌, ◌-◌, ◌≤◌, Option, None, IfSome, IsSome, arith, refl, sym, subst, ◌∙◌}
use Rattle.sk_spaces.specs.Memories.{AddsBlock, fresh_block}
use Rattle.sk_copy_states.specs.declared.held.Held.{Held}
use Rattle.sk_copy_states.specs.Copies.{KeepsStates}
use Rattle.sk_copy_states.specs.Stores.{IsBlockOf}
use Rattle.sk_coherence_laws.specs.Directory.{DirectoryView, copy_at, store_at}
use Rattle.sk_copy_states.specs.Entries.{Enters}
use Rattle.sk_coherence_laws.specs.Traced.{IsLike}
use Rattle.sk_coherence_laws.proofs.KeptLemmas.{sound-kept, keeps_same}
use Rattle.sk_coherence_laws.specs.Moves.{Idles}
use Rattle.sk_coherence_laws.proofs.AddLemmas.{idle_at, take_store, if_some, adds_of, legal-add, sound-add, like-added, copies_undone, stores_undone}
use Rattle.sk_coherence_laws.proofs.NamedMoves.{on_err_any}
use Rattle.sk_coherence.proofs.directory.Directory.add_copy.Goals as goal

pub invariant_of-self : goal.invariant_of-self
invariant_of-self g c =
    let d : DirectoryView = record { spaces = c.self.inside.spaces; copies = c.self.inside.copies.entries; stores = c.self.inside.stores.entries; next = c.self.inside.next; ready = c.self.inside.ready; owed = c.self.inside.owed; named = c.self.inside.named; messages = c.self.inside.messages; aside = c.self.inside.aside } in
    let n : DirectoryView = record d { copies = c.enter.new.held.entries; stores = c.enter.new.all.entries } in
    sound-kept d n (λ q. subst (λ (o : Option Held). KeepsStates (copy_at d q) o) (sym (c.in_err-enter.ensures.held q)) (keeps_same (copy_at d q)))
    c.self.invariant refl c.in_err-enter.ensures.stores refl refl refl c.self.invariant.owed c.self.invariant.ready

pub invariant_of-self-in-Ok : goal.invariant_of-self-in-Ok
invariant_of-self-in-Ok g c =
    let d : DirectoryView = record { spaces = c.self.inside.spaces; copies = c.self.inside.copies.entries; stores = c.self.inside.stores.entries; next = c.self.inside.next; ready = c.self.inside.ready; owed = c.self.inside.owed; named = c.self.inside.named; messages = c.self.inside.messages; aside = c.self.inside.aside } in
    let n : DirectoryView = record { spaces = c.alloc.new.self; copies = c.enter.new.held.entries; stores = c.enter.new.all.entries; next = c.self.inside.next; ready = c.self.inside.ready - 1; owed = c.self.inside.owed; named = c.self.inside.named; messages = c.self.inside.messages; aside = c.self.inside.aside } in
    let p = c.args.place in
    let same = c.self.view_is in
    let there : IsSome (store_at d p.store) = subst (λ (x : DirectoryView). IsSome (store_at x p.store)) (sym same) c.requires.there in
    let st = take_store (store_at d p.store) there in
    let block : IsBlockOf p.block.lo p.block.hi st.0 = if_some (store_at d p.store) st.0 (IsBlockOf p.block.lo p.block.hi) st.1 (subst (λ (x : DirectoryView). IfSome (store_at x p.store) (IsBlockOf p.block.lo p.block.hi)) (sym same) c.requires.block) in
    let enters = if_some (store_at d p.store) st.0 (Enters d.copies n.copies d.stores n.stores c.next-id.result p.store p.space p.block.lo p.block.hi) st.1 c.in_ok-enter.ensures.ok in
    let more : d.owed + 1 ≤ d.ready = subst (λ (x : DirectoryView). x.owed + 1 ≤ x.ready) (sym c.self.view_is) c.requires.ready in
    let made = c.in-Ok.ensures.made in
    let adds : AddsBlock d.spaces.memories n.spaces.memories c.next-id.result (fresh_block p.store p.space p.block.lo p.block.hi)
    = subst (λ (x : ℕ). AddsBlock d.spaces.memories n.spaces.memories x (fresh_block p.store p.space p.block.lo p.block.hi)) (made.memories.number ∙ sym c.next-id.ensures) made.memories in
    let a = adds_of d n c.next-id.result p.store p.space p.block.lo p.block.hi st.0 st.1 enters adds refl refl refl in
    sound-add d n c.next-id.result p.store p.space p.block.lo p.block.hi st.0 a.0 c.self.invariant a.1 block (omega (arith, more))
    (omega (arith, more, c.self.invariant.ready, made.noted.spare))

pub invariant_of-self-in-Err : goal.invariant_of-self-in-Err
invariant_of-self-in-Err g c =
    let d : DirectoryView = record { spaces = c.self.inside.spaces; copies = c.self.inside.copies.entries; stores = c.self.inside.stores.entries; next = c.self.inside.next; ready = c.self.inside.ready; owed = c.self.inside.owed; named = c.self.inside.named; messages = c.self.inside.messages; aside = c.self.inside.aside } in
    let e : DirectoryView = record d { copies = c.enter.new.held.entries; stores = c.enter.new.all.entries } in
    let n : DirectoryView = record d { spaces = c.alloc.new.self; copies = c.leave.new.held.entries; stores = c.leave.new.all.entries } in
    let p = c.args.place in
    let same = c.self.view_is in
    let there : IsSome (store_at d p.store) = subst (λ (x : DirectoryView). IsSome (store_at x p.store)) (sym same) c.requires.there in
    let st = take_store (store_at d p.store) there in
    let enters = if_some (store_at d p.store) st.0 (Enters d.copies e.copies d.stores e.stores c.next-id.result p.store p.space p.block.lo p.block.hi) st.1 c.in_ok-enter.ensures.ok in
    let absent : copy_at d c.next-id.result ≡ None = c.self.invariant.new_copies c.next-id.result (omega (arith, c.next-id.ensures)) in
    let back = c.leave.ensures.store c.next-id.result st.0 enters.stores.here in
    sound-kept d n (λ q. subst (λ (o : Option Held). KeepsStates (copy_at d q) o)
    (sym (copies_undone d e n c.next-id.result p.store p.space p.block.lo p.block.hi st.0 absent st.1 enters c.leave.ensures.copy back q)) (keeps_same (copy_at d q)))
    c.self.invariant c.in-Err.ensures.err.memories (stores_undone d e n c.next-id.result p.store p.space p.block.lo p.block.hi st.0 absent st.1 enters c.leave.ensures.copy back) refl refl refl c.self.invariant.owed
    (omega (arith, c.self.invariant.ready, c.in-Err.ensures.err.spare))

pub returns-in-Ok-clause-traced : goal.returns-in-Ok-clause-traced
returns-in-Ok-clause-traced g c = λ m like.
    let d : DirectoryView = record { spaces = c.self.inside.spaces; copies = c.self.inside.copies.entries; stores = c.self.inside.stores.entries; next = c.self.inside.next; ready = c.self.inside.ready; owed = c.self.inside.owed; named = c.self.inside.named; messages = c.self.inside.messages; aside = c.self.inside.aside } in
    let n : DirectoryView = record { spaces = c.alloc.new.self; copies = c.enter.new.held.entries; stores = c.enter.new.all.entries; next = c.self.inside.next; ready = c.self.inside.ready - 1; owed = c.self.inside.owed; named = c.self.inside.named; messages = c.self.inside.messages; aside = c.self.inside.aside } in
    let p = c.args.place in
    let same = c.self.view_is in
    let l : IsLike m d = subst (λ (x : DirectoryView). IsLike m x) (sym c.self.view_is) like in
    let there : IsSome (store_at d p.store) = subst (λ (x : DirectoryView). IsSome (store_at x p.store)) (sym same) c.requires.there in
    let st = take_store (store_at d p.store) there in
    let block : IsBlockOf p.block.lo p.block.hi st.0 = if_some (store_at d p.store) st.0 (IsBlockOf p.block.lo p.block.hi) st.1 (subst (λ (x : DirectoryView). IfSome (store_at x p.store) (IsBlockOf p.block.lo p.block.hi)) (sym same) c.requires.block) in
    let enters = if_some (store_at d p.store) st.0 (Enters d.copies n.copies d.stores n.stores c.next-id.result p.store p.space p.block.lo p.block.hi) st.1 c.in_ok-enter.ensures.ok in
    let made = c.in-Ok.ensures.made in
    let adds : AddsBlock d.spaces.memories n.spaces.memories c.next-id.result (fresh_block p.store p.space p.block.lo p.block.hi)
    = subst (λ (x : ℕ). AddsBlock d.spaces.memories n.spaces.memories x (fresh_block p.store p.space p.block.lo p.block.hi)) (made.memories.number ∙ sym c.next-id.ensures) made.memories in
    let a = adds_of d n c.next-id.result p.store p.space p.block.lo p.block.hi st.0 st.1 enters adds refl refl refl in
    let ranks : p.space ≤ d.spaces.memories.ranks = subst (λ (x : DirectoryView). p.space ≤ x.spaces.memories.ranks) (sym c.self.view_is) c.requires.ranks in (
      legal-add d c.next-id.result p.store p.space p.block.lo p.block.hi st.0 m l st.1 c.next-id.ensures block ranks c.in-Ok.ensures.room,
      like-added d n c.next-id.result p.store p.space p.block.lo p.block.hi st.0 a.0 c.self.invariant a.1 m l,
    )

pub returns-in_err-enter-clause-idle : goal.returns-in_err-enter-clause-idle
returns-in_err-enter-clause-idle g c =
    let d : DirectoryView = record { spaces = c.self.inside.spaces; copies = c.self.inside.copies.entries; stores = c.self.inside.stores.entries; next = c.self.inside.next; ready = c.self.inside.ready; owed = c.self.inside.owed; named = c.self.inside.named; messages = c.self.inside.messages; aside = c.self.inside.aside } in
    let n : DirectoryView = record d { copies = c.enter.new.held.entries; stores = c.enter.new.all.entries } in
    on_err_any c.from_residual.result (subst (λ (x : DirectoryView). Idles x n) c.self.view_is
    (idle_at d n c.in_err-enter.ensures.held c.in_err-enter.ensures.stores (record { memories = refl; named = refl; journal = record { steps = refl; totals = refl }; spare = omega arith }) refl refl refl refl refl refl))

pub returns-in-Err-clause-idle : goal.returns-in-Err-clause-idle
returns-in-Err-clause-idle g c =
    let d : DirectoryView = record { spaces = c.self.inside.spaces; copies = c.self.inside.copies.entries; stores = c.self.inside.stores.entries; next = c.self.inside.next; ready = c.self.inside.ready; owed = c.self.inside.owed; named = c.self.inside.named; messages = c.self.inside.messages; aside = c.self.inside.aside } in
    let e : DirectoryView = record d { copies = c.enter.new.held.entries; stores = c.enter.new.all.entries } in
    let n : DirectoryView = record d { spaces = c.alloc.new.self; copies = c.leave.new.held.entries; stores = c.leave.new.all.entries } in
    let p = c.args.place in
    let there : IsSome (store_at d p.store) = subst (λ (x : DirectoryView). IsSome (store_at x p.store)) (sym c.self.view_is) c.requires.there in
    let st = take_store (store_at d p.store) there in
    let enters = if_some (store_at d p.store) st.0 (Enters d.copies e.copies d.stores e.stores c.next-id.result p.store p.space p.block.lo p.block.hi) st.1 c.in_ok-enter.ensures.ok in
    let absent : copy_at d c.next-id.result ≡ None = c.self.invariant.new_copies c.next-id.result (omega (arith, c.next-id.ensures)) in
    let back = c.leave.ensures.store c.next-id.result st.0 enters.stores.here in
    subst (λ (x : DirectoryView). Idles x n) c.self.view_is
    (idle_at d n (copies_undone d e n c.next-id.result p.store p.space p.block.lo p.block.hi st.0 absent st.1 enters c.leave.ensures.copy back)
    (stores_undone d e n c.next-id.result p.store p.space p.block.lo p.block.hi st.0 absent st.1 enters c.leave.ensures.copy back)
    c.in-Err.ensures.err refl refl refl refl refl refl)
