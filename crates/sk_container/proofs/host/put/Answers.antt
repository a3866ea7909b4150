use Rattle.std.proofs.Common.{◌≡◌, ◌-◌, min, Some, IfSome, refl, subst}
use Rattle.sk_spaces.specs.declared.step.Step.{Step}
use Rattle.sk_copy_states.specs.Stores.{UsesWrite, changes_in}
use Rattle.sk_coherence_laws.specs.Directory.{DirectoryView, copy_at, store_at}
use Rattle.sk_coherence_laws.specs.Traced.{TracesStep}
use Rattle.sk_coherence_laws.specs.Writes.{WritesCopy}
use Rattle.sk_coherence.specs.Evicts.{IsOnHost}
use Rattle.sk_coherence.specs.Named.{SaysWrite}
use Rattle.sk_container.proofs.SaysLemmas.{says-named}
use Rattle.sk_container.proofs.PutLemmas.{puts, puts-line, named_as}
use Rattle.sk_container.proofs.host.put.Goals as goal

pub returns-clause-puts : goal.returns-clause-puts
returns-clause-puts g c =
    let d = c.args.dir.now in let w = c.release_write.new.self in let id = c.args.copy.id in let e = c.release_write.ensures in
    let written : WritesCopy (named_as d c.args.line) w id c.args.range.lo c.args.range.hi c.args.cells.now
    = subst (λ (v : DirectoryView). WritesCopy v w id c.args.range.lo c.args.range.hi c.args.cells.now) c.named.ensures e.written in
    puts d w c.unpin.new.self c.args.line id c.args.range.lo c.args.range.hi c.args.cells.now c.requires.there c.requires.pinned written
    c.unpin.ensures.unpinned c.unpin.ensures.others c.unpin.ensures.same
    (subst (λ (v : DirectoryView). IfSome (copy_at v id) (λ held. UsesWrite v.stores w.stores held.store)) c.named.ensures e.stores)
    (subst (λ (v : DirectoryView). IfSome (copy_at v id) (λ held. w.owed ≡ v.owed - min (changes_in (store_at v held.store)) 2)) c.named.ensures e.used)
    (subst (λ (v : DirectoryView). w.next ≡ v.next) c.named.ensures e.next)
    (subst (λ (v : DirectoryView). w.spaces.memories.next ≡ v.spaces.memories.next) c.named.ensures e.same.next_copy)
    (subst (λ (v : DirectoryView). w.spaces.memories.ranks ≡ v.spaces.memories.ranks) c.named.ensures e.same.ranks)
    (subst (λ (v : DirectoryView). w.spaces.memories.capacity ≡ v.spaces.memories.capacity) c.named.ensures e.same.capacity)

pub returns-clause-noted : goal.returns-clause-noted
returns-clause-noted g c =
    let d = c.args.dir.now in let w = c.release_write.new.self in let id = c.args.copy.id in let e = c.release_write.ensures in
    let written : WritesCopy (named_as d c.args.line) w id c.args.range.lo c.args.range.hi c.args.cells.now
    = subst (λ (v : DirectoryView). WritesCopy v w id c.args.range.lo c.args.range.hi c.args.cells.now) c.named.ensures e.written in
    let legal : (step : Step) → Some c.args.line ≡ Some step → IsOnHost (copy_at d id) → SaysWrite (named_as d c.args.line) id c.args.range.lo c.args.range.hi c.args.cells.now step → TracesStep (named_as d c.args.line) w step
    = subst (λ (v : DirectoryView). (step : Step) → v.named ≡ Some step → IsOnHost (copy_at v id) → SaysWrite v id c.args.range.lo c.args.range.hi c.args.cells.now step → TracesStep v w step) c.named.ensures e.legal in
    puts-line d w c.unpin.new.self c.args.line id c.args.range.lo c.args.range.hi c.args.cells.now c.requires.there c.requires.pinned written
    c.unpin.ensures.unpinned c.unpin.ensures.others c.unpin.ensures.same
    (legal c.args.line refl c.requires.host (says-named d c.args.line id c.args.range.lo c.args.range.hi c.args.cells.now c.args.line c.requires.says)) c.unpin.ensures.traced
