use Rattle.std.proofs.Common.{◌≡◌, ℕ, List, Option, Some, IsSome, arith, rules, refl, inl, sym, subst, ap, ◌∙◌}
use Rattle.sk_copy_states.specs.Copies.{store_in, ReachesIn}
use Rattle.sk_copy_states.specs.Stores.{copies_in}
use Rattle.sk_copy_states.specs.Sources.{LiesIn, IsNear, NoneNear}
use Rattle.sk_coherence_laws.specs.Directory.{DirectoryView, copy_at, store_at}
use Rattle.sk_coherence_laws.specs.Moves.{CanMove, IsStaleAt, IsSourceAt}
use Rattle.sk_coherence_laws.proofs.SourceLemmas.{move-of-source, reaches_less, source-of}
use Rattle.sk_coherence.proofs.LaterLemmas.{if-none-map, lies-in, alone-near}
use Rattle.sk_coherence.specs.Evicts.{IsIn}
use Rattle.sk_coherence.specs.Later.{LieTogether, IsAlone}
use Rattle.sk_copy_states.specs.declared.held.Held.{Held}
use Rattle.sk_coherence_laws.proofs.HostLemmas.{if_some_map}
use Rattle.sk_coherence.proofs.directory.Directory.near.Goals as goal

pub returns-in-Some-clause-can : goal.returns-in-Some-clause-can
returns-in-Some-clause-can g c =
    let d : DirectoryView = record { spaces = c.self.inside.spaces; copies = c.self.inside.copies.entries; stores = c.self.inside.stores.entries; next = c.self.inside.next; ready = c.self.inside.ready; owed = c.self.inside.owed; named = c.self.inside.named; messages = c.self.inside.messages; aside = c.self.inside.aside } in
    let s = c.store_of-store.result.id in
    let to = c.args.copy.id in
    let lo = c.args.run.lo in
    let hi = c.near.result.hi in
    let space = c.unwrap.result.now.space in
    let home : store_in (copy_at d to) ≡ Some s = subst (λ (x : DirectoryView). store_in (copy_at x to) ≡ Some s) (sym c.self.view_is) c.store_of-store.ensures in
    let ids : copies_in (store_at d s) ≡ c.copies.result.now = ap copies_in (sym c.in-Some.ensures.value) ∙ sym c.copies.ensures in
    let there : IsSome (copy_at d to) = subst (λ (x : DirectoryView). IsSome (copy_at x to)) (sym c.self.view_is) c.requires.there in
    let reaches : ReachesIn (copy_at d to) lo c.args.run.hi = subst (λ (x : DirectoryView). ReachesIn (copy_at x to) lo c.args.run.hi) (sym c.self.view_is) c.requires.reaches in
    let missing : IsStaleAt d to lo c.args.run.hi = subst (λ (x : DirectoryView). IsStaleAt x to lo c.args.run.hi) (sym c.self.view_is) c.requires.stale in
    if_some_map c.near.result.id (IsNear (copy_at d) c.copies.result.now space lo hi) (λ from. CanMove c.args.self.now from to lo hi)
    (λ from found. subst (λ (x : DirectoryView). CanMove x from to lo hi) c.self.view_is
    (move-of-source d s space to lo hi from c.self.invariant c.near.ensures.above home there
    (reaches_less (copy_at d to) lo hi c.args.run.hi c.near.ensures.below reaches)
    (λ i above below. missing i above (omega (arith, below, c.near.ensures.below)))
    (inl (subst (λ (l : List ℕ). IsNear (copy_at d) l space lo hi from) (sym ids) found))))
    c.near.ensures.found

pub returns-in-Some-clause-source : goal.returns-in-Some-clause-source
returns-in-Some-clause-source g c =
    let d : DirectoryView = record { spaces = c.self.inside.spaces; copies = c.self.inside.copies.entries; stores = c.self.inside.stores.entries; next = c.self.inside.next; ready = c.self.inside.ready; owed = c.self.inside.owed; named = c.self.inside.named; messages = c.self.inside.messages; aside = c.self.inside.aside } in
    let s = c.store_of-store.result.id in
    let to = c.args.copy.id in
    let lo = c.args.run.lo in
    let hi = c.near.result.hi in
    let space = c.unwrap.result.now.space in
    let home : store_in (copy_at d to) ≡ Some s = subst (λ (x : DirectoryView). store_in (copy_at x to) ≡ Some s) (sym c.self.view_is) c.store_of-store.ensures in
    let ids : copies_in (store_at d s) ≡ c.copies.result.now = ap copies_in (sym c.in-Some.ensures.value) ∙ sym c.copies.ensures in
    let here : copy_at d to ≡ Some c.unwrap.result.now = search rules in
    let lies : LiesIn space (copy_at d to) = subst (λ (o : Option Held). LiesIn space o) (sym here) refl in
    if_some_map c.near.result.id (IsNear (copy_at d) c.copies.result.now space lo hi) (λ from. IsSourceAt c.args.self.now from to lo hi)
    (λ from found. subst (λ (x : DirectoryView). IsSourceAt x from to lo hi) c.self.view_is
    (source-of d s space to lo hi from c.self.invariant home lies (inl (subst (λ (l : List ℕ). IsNear (copy_at d) l space lo hi from) (sym ids) found))))
    c.near.ensures.found

pub returns-in-Some-clause-near : goal.returns-in-Some-clause-near
returns-in-Some-clause-near g c =
    let d : DirectoryView = record { spaces = c.self.inside.spaces; copies = c.self.inside.copies.entries; stores = c.self.inside.stores.entries; next = c.self.inside.next; ready = c.self.inside.ready; owed = c.self.inside.owed; named = c.self.inside.named; messages = c.self.inside.messages; aside = c.self.inside.aside } in
    let to = c.args.copy.id in
    let space = c.unwrap.result.now.space in
    let here : copy_at d to ≡ Some c.unwrap.result.now = search rules in
    let mine : IsIn space (copy_at d to) = subst (λ (o : Option Held). IsIn space o) (sym here) refl in
    if_some_map c.near.result.id (IsNear (copy_at d) c.copies.result.now space c.args.run.lo c.near.result.hi) (λ from. LieTogether (copy_at c.args.self.now from) (copy_at c.args.self.now to))
    (λ from found. subst (λ (x : DirectoryView). LieTogether (copy_at x from) (copy_at x to)) c.self.view_is (space, lies-in (copy_at d from) space found.lies, mine))
    c.near.ensures.found

pub returns-in-Some-clause-none : goal.returns-in-Some-clause-none
returns-in-Some-clause-none g c =
    let d : DirectoryView = record { spaces = c.self.inside.spaces; copies = c.self.inside.copies.entries; stores = c.self.inside.stores.entries; next = c.self.inside.next; ready = c.self.inside.ready; owed = c.self.inside.owed; named = c.self.inside.named; messages = c.self.inside.messages; aside = c.self.inside.aside } in
    let s = c.store_of-store.result.id in
    let to = c.args.copy.id in
    let lo = c.args.run.lo in
    let hi = c.near.result.hi in
    let space = c.unwrap.result.now.space in
    let home : store_in (copy_at d to) ≡ Some s = subst (λ (x : DirectoryView). store_in (copy_at x to) ≡ Some s) (sym c.self.view_is) c.store_of-store.ensures in
    let ids : copies_in (store_at d s) ≡ c.copies.result.now = ap copies_in (sym c.in-Some.ensures.value) ∙ sym c.copies.ensures in
    let there : IsSome (copy_at d to) = subst (λ (x : DirectoryView). IsSome (copy_at x to)) (sym c.self.view_is) c.requires.there in
    let here : copy_at d to ≡ Some c.unwrap.result.now = search rules in
    let mine : IsIn space (copy_at d to) = subst (λ (o : Option Held). IsIn space o) (sym here) refl in
    if-none-map c.near.result.id (NoneNear (copy_at d) c.copies.result.now space lo hi) (IsAlone c.args.self.now to lo hi)
    (λ none. subst (λ (x : DirectoryView). IsAlone x to lo hi) c.self.view_is
    (alone-near d s space to lo hi c.self.invariant home there mine (subst (λ (l : List ℕ). NoneNear (copy_at d) l space lo hi) (sym ids) none)))
    c.near.ensures.none
