use Rattle.std.proofs.Common.{◌≡◌, ◌+◌, ◌-◌, ◌≤◌, Some, arith, refl, sym, subst, ap}
use Rattle.sk_copy_states.specs.Copies.{store_in}
use Rattle.sk_copy_states.specs.Stores.{StoreView, PutsStore}
use Rattle.sk_coherence_laws.specs.Directory.{DirectoryView, copy_at, store_at}
use Rattle.sk_coherence_laws.specs.Frees.{FreesCopy, FreesSome}
use Rattle.sk_copy_states.specs.Stores.{LosesCopy}
use Rattle.sk_coherence_laws.proofs.AddLemmas.{take_store, if_some}
use Rattle.sk_coherence_laws.proofs.FreeLemmas.{store_listed, sound-free}
use Rattle.sk_coherence.proofs.directory.Directory.let_go.Goals as goal

pub forget-requires-clause-there : goal.forget-requires-clause-there
forget-requires-clause-there g c =
    let d : DirectoryView = record { spaces = c.self.inside.spaces; copies = c.self.inside.copies.entries; stores = c.self.inside.stores.entries; next = c.self.inside.next; ready = c.self.inside.ready; owed = c.self.inside.owed; named = c.self.inside.named; messages = c.self.inside.messages; aside = c.self.inside.aside } in
    let home : store_in (copy_at d c.args.copy.id) ≡ Some c.in-Some.held.now.store = ap store_in (sym c.in-Some.ensures.value) in
    store_listed d c.args.copy.id c.in-Some.held.now.store c.self.invariant home

pub invariant_of-self : goal.invariant_of-self
invariant_of-self g c =
    let d : DirectoryView = record { spaces = c.self.inside.spaces; copies = c.self.inside.copies.entries; stores = c.self.inside.stores.entries; next = c.self.inside.next; ready = c.self.inside.ready; owed = c.self.inside.owed; named = c.self.inside.named; messages = c.self.inside.messages; aside = c.self.inside.aside } in
    let n : DirectoryView = record { spaces = c.free_ready.new.spaces; copies = c.remove.new.copies.entries; stores = c.forget.new.stores.entries; next = c.self.inside.next; ready = c.self.inside.ready - 1; owed = c.self.inside.owed; named = c.self.inside.named; messages = c.self.inside.messages; aside = c.self.inside.aside } in
    let id = c.args.copy.id in
    let s = c.in-Some.held.now.store in
    let home : store_in (copy_at d id) ≡ Some s = ap store_in (sym c.in-Some.ensures.value) in
    let st = take_store (store_at d s) (store_listed d id s c.self.invariant home) in
    let lost : (now : StoreView) × PutsStore d.stores n.stores s now × LosesCopy id st.0 now = if_some (store_at d s) st.0 (λ store. (now : StoreView) × PutsStore d.stores n.stores s now × LosesCopy id store now) st.1 c.forget.ensures in
    let more : d.owed + 1 ≤ d.ready = subst (λ (x : DirectoryView). x.owed + 1 ≤ x.ready) (sym c.self.view_is) c.requires.ready in
    let change = c.free_ready.ensures in
    let f : FreesCopy d n id s st.0 lost.0 = record { memories = change.memories; copies = c.remove.ensures; home = home; store = st.1; stores = lost.1; loses = lost.2; next = refl; owed = refl; named = refl; messages = refl; aside = refl; noted = change.noted } in
    sound-free d n id s st.0 lost.0 c.self.invariant f (omega (arith, more)) (omega (arith, more, c.self.invariant.ready, change.noted.spare))

pub returns-clause-freed : goal.returns-clause-freed
returns-clause-freed g c =
    let d : DirectoryView = record { spaces = c.self.inside.spaces; copies = c.self.inside.copies.entries; stores = c.self.inside.stores.entries; next = c.self.inside.next; ready = c.self.inside.ready; owed = c.self.inside.owed; named = c.self.inside.named; messages = c.self.inside.messages; aside = c.self.inside.aside } in
    let n : DirectoryView = record { spaces = c.free_ready.new.spaces; copies = c.remove.new.copies.entries; stores = c.forget.new.stores.entries; next = c.self.inside.next; ready = c.self.inside.ready - 1; owed = c.self.inside.owed; named = c.self.inside.named; messages = c.self.inside.messages; aside = c.self.inside.aside } in
    let id = c.args.copy.id in
    let s = c.in-Some.held.now.store in
    let home : store_in (copy_at d id) ≡ Some s = ap store_in (sym c.in-Some.ensures.value) in
    let st = take_store (store_at d s) (store_listed d id s c.self.invariant home) in
    let lost : (now : StoreView) × PutsStore d.stores n.stores s now × LosesCopy id st.0 now = if_some (store_at d s) st.0 (λ store. (now : StoreView) × PutsStore d.stores n.stores s now × LosesCopy id store now) st.1 c.forget.ensures in
    let change = c.free_ready.ensures in
    let f : FreesCopy d n id s st.0 lost.0 = record { memories = change.memories; copies = c.remove.ensures; home = home; store = st.1; stores = lost.1; loses = lost.2; next = refl; owed = refl; named = refl; messages = refl; aside = refl; noted = change.noted } in
    subst (λ (x : DirectoryView). FreesSome x n id) c.self.view_is (s, st.0, lost.0, f)
