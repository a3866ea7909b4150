use Rattle.std.proofs.Common.{◌+◌, ◌-◌, ◌≤◌, arith, refl, sym, subst}
use Rattle.sk_coherence_laws.specs.Directory.{DirectoryView, copy_at}
use Rattle.sk_coherence_laws.proofs.KeptLemmas.{keeps_same, sound-kept}
use Rattle.sk_coherence.proofs.directory.Directory.note.Goals as goal

pub invariant_of-self-2 : goal.invariant_of-self-2
invariant_of-self-2 g c =
    let d : DirectoryView = record { spaces = c.self.inside.spaces; copies = c.self.inside.copies.entries; stores = c.self.inside.stores.entries; next = c.self.inside.next; ready = c.self.inside.ready; owed = c.self.inside.owed; named = c.self.inside.named; messages = c.self.inside.messages; aside = c.self.inside.aside } in
    let n : DirectoryView = record d { spaces = c.note.new.self; ready = c.self.inside.ready - 1 } in
    let more : d.owed + 1 ≤ d.ready = subst (λ (x : DirectoryView). x.owed + 1 ≤ x.ready) (sym c.self.view_is) c.in_ok-reserve.ensures.ok in
    let noted = c.in_ok-note.ensures.ok in
    sound-kept d n (λ q. keeps_same (copy_at d q)) c.self.invariant noted.memories (λ t. refl) refl refl refl
    (omega (arith, more)) (omega (arith, more, c.self.invariant.ready, noted.noted.spare))
