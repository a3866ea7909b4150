use Rattle.std.proofs.Common.{◌≡◌, ℕ, List, Option, Some, IsSome, arith, refl, sym, subst, ap, ◌∙◌}
use Rattle.sk_copy_states.specs.declared.held.Held.{Held}
use Rattle.sk_copy_states.specs.Copies.{store_in, ReachesIn}
use Rattle.sk_copy_states.specs.Stores.{copies_in}
use Rattle.sk_coherence_laws.specs.Directory.{DirectoryView, copy_at, store_at}
use Rattle.sk_coherence_laws.specs.Moves.{CanMove, IsStaleAt, IsSourceAt}
use Rattle.sk_copy_states.specs.Sources.{LiesIn, IsSourceOf}
use Rattle.sk_coherence_laws.proofs.AddLemmas.{if_some}
use Rattle.sk_coherence_laws.proofs.SourceLemmas.{move-of-source, reaches_less, source-of}
use Rattle.sk_coherence.proofs.directory.Directory.source.Goals as goal

pub returns-clause-can : goal.returns-clause-can
returns-clause-can g c =
    let d : DirectoryView = record { spaces = c.self.inside.spaces; copies = c.self.inside.copies.entries; stores = c.self.inside.stores.entries; next = c.self.inside.next; ready = c.self.inside.ready; owed = c.self.inside.owed; named = c.self.inside.named; messages = c.self.inside.messages; aside = c.self.inside.aside } in
    let s = c.in_ok-held.held.now.store in
    let to = c.args.to.id in
    let lo = c.args.run.lo in
    let hi = c.best-best.result.hi in
    let space = c.in_ok-held.held.now.space in
    let home : store_in (copy_at d to) ≡ Some s = ap store_in (sym c.in_ok-held.ensures.value) in
    let ids : copies_in (store_at d s) ≡ c.copies.result.now = ap copies_in (sym c.in_ok-store.ensures.value) ∙ sym c.copies.ensures in
    let found : IsSourceOf (copy_at d) c.copies.result.now space lo hi c.in_ok-from.from
    = if_some c.best-best.result.id c.in_ok-from.from (IsSourceOf (copy_at d) c.copies.result.now space lo hi) c.in_ok-from.was c.best-best.ensures.found in
    let there : IsSome (copy_at d to) = subst (λ (x : DirectoryView). IsSome (copy_at x to)) (sym c.self.view_is) c.requires.there in
    let reaches : ReachesIn (copy_at d to) lo c.args.run.hi = subst (λ (x : DirectoryView). ReachesIn (copy_at x to) lo c.args.run.hi) (sym c.self.view_is) c.requires.reaches in
    let missing : IsStaleAt d to lo c.args.run.hi = subst (λ (x : DirectoryView). IsStaleAt x to lo c.args.run.hi) (sym c.self.view_is) c.requires.stale in
    subst (λ (x : DirectoryView). CanMove x c.in_ok-from.from to lo hi) c.self.view_is
    (move-of-source d s space to lo hi c.in_ok-from.from c.self.invariant c.best-best.ensures.above home there
    (reaches_less (copy_at d to) lo hi c.args.run.hi c.best-best.ensures.below reaches)
    (λ i above below. missing i above (omega (arith, below, c.best-best.ensures.below)))
    (subst (λ (l : List ℕ). IsSourceOf (copy_at d) l space lo hi c.in_ok-from.from) (sym ids) found))

pub returns-clause-source : goal.returns-clause-source
returns-clause-source g c =
    let d : DirectoryView = record { spaces = c.self.inside.spaces; copies = c.self.inside.copies.entries; stores = c.self.inside.stores.entries; next = c.self.inside.next; ready = c.self.inside.ready; owed = c.self.inside.owed; named = c.self.inside.named; messages = c.self.inside.messages; aside = c.self.inside.aside } in
    let s = c.in_ok-held.held.now.store in
    let to = c.args.to.id in
    let lo = c.args.run.lo in
    let hi = c.best-best.result.hi in
    let space = c.in_ok-held.held.now.space in
    let home : store_in (copy_at d to) ≡ Some s = ap store_in (sym c.in_ok-held.ensures.value) in
    let lies : LiesIn space (copy_at d to) = subst (λ (o : Option Held). LiesIn space o) c.in_ok-held.ensures.value refl in
    let ids : copies_in (store_at d s) ≡ c.copies.result.now = ap copies_in (sym c.in_ok-store.ensures.value) ∙ sym c.copies.ensures in
    let found : IsSourceOf (copy_at d) c.copies.result.now space lo hi c.in_ok-from.from
    = if_some c.best-best.result.id c.in_ok-from.from (IsSourceOf (copy_at d) c.copies.result.now space lo hi) c.in_ok-from.was c.best-best.ensures.found in
    subst (λ (x : DirectoryView). IsSourceAt x c.in_ok-from.from to lo hi) c.self.view_is
    (source-of d s space to lo hi c.in_ok-from.from c.self.invariant home lies
    (subst (λ (l : List ℕ). IsSourceOf (copy_at d) l space lo hi c.in_ok-from.from) (sym ids) found))
