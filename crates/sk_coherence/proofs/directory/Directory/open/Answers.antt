use Rattle.std.proofs.Common.{◌≡◌, ℕ, ◌+◌, ◌-◌, ◌≤◌, List, arith, rules, refl, sym, subst}
use Rattle.sk_spaces.specs.declared.step.Step.TheVariants.{Store}
use Rattle.sk_spaces.specs.Spaces.{OnlyNotes}
use Rattle.sk_copy_states.specs.Stores.{PutsStore, opened}
use Rattle.sk_coherence_laws.specs.Directory.{DirectoryView}
use Rattle.sk_coherence_laws.specs.Traced.{Opens}
use Rattle.sk_coherence_laws.proofs.OpenLemmas.{sound-open}
use Rattle.sk_coherence.proofs.directory.Directory.open.Goals as goal

pub invariant_of-self-2 : goal.invariant_of-self-2
invariant_of-self-2 g c =
    let d : DirectoryView = record { spaces = c.self.inside.spaces; copies = c.self.inside.copies.entries; stores = c.self.inside.stores.entries; next = c.self.inside.next; ready = c.self.inside.ready; owed = c.self.inside.owed; named = c.self.inside.named; messages = c.self.inside.messages; aside = c.self.inside.aside } in
    let n : DirectoryView = record { spaces = c.note_ready.new.spaces; copies = c.self.inside.copies.entries; stores = c.insert.new.stores.entries; next = c.self.inside.next + 1; ready = c.self.inside.ready - 1; owed = c.self.inside.owed; named = c.self.inside.named; messages = c.self.inside.messages; aside = c.self.inside.aside } in
    let id = c.self.inside.next in
    let made : c.new-store.result ≡ opened c.args.ty c.args.shape.now c.args.tile = search rules in
    let more : d.owed + 1 ≤ d.ready = subst (λ (d : DirectoryView). d.owed + 1 ≤ d.ready) (sym c.self.view_is) c.in_ok-reserve.ensures.ok in
    let o : Opens d n id (opened c.args.ty c.args.shape.now c.args.tile) = record {
      number = refl;
      stores = subst (PutsStore d.stores n.stores id) made c.in_ok-insert.ensures.ok;
      next = refl;
      copies = refl;
      owed = refl;
      ready = omega arith;
      named = refl;
      messages = refl;
      aside = refl;
      spaces = subst (λ (sh : List ℕ). OnlyNotes d.spaces n.spaces (Store id c.args.ty sh)) c.again-2.ensures c.note_ready.ensures;
    } in
    sound-open d n id c.args.ty c.args.shape.now c.args.tile o c.self.invariant c.requires.tile (omega (arith, more))
    (omega (arith, more, c.self.invariant.ready, c.note_ready.ensures.noted.spare))
