use Rattle.std.proofs.Common.{◌≡◌, ◌-◌, [], ◌∷◌, Some, arith, rules, refl, sym, subst, ap}
use Rattle.sk_spaces.specs.declared.step.Step.TheVariants.{Send}
use Rattle.sk_copy_states.specs.Copies.{store_in}
use Rattle.sk_coherence_laws.specs.Directory.{DirectoryView, copy_at}
use Rattle.sk_coherence_laws.specs.Moves.{CanMove}
use Rattle.sk_coherence_laws.specs.Sends.{HasSends, LieApart, Sends}
use Rattle.sk_coherence_laws.specs.Traced.{TracesStep}
use Rattle.sk_coherence_laws.proofs.SendLemmas.{sends-so, sound-sent, traced-sent}
use Rattle.sk_coherence.proofs.directory.Directory.send.Goals as goal

pub invariant_of-self : goal.invariant_of-self
invariant_of-self g c =
    let d : DirectoryView = record { spaces = c.self.inside.spaces; copies = c.self.inside.copies.entries; stores = c.self.inside.stores.entries; next = c.self.inside.next; ready = c.self.inside.ready; owed = c.self.inside.owed; named = c.self.inside.named; messages = c.self.inside.messages; aside = c.self.inside.aside } in
    let n : DirectoryView = record d { spaces = c.note_ready.new.spaces; messages = c.put_from-message.new.messages; aside = c.self.inside.aside - 1 } in
    let t = c.args.transfer.now in
    let number = c.put_from-message.result in
    let can : CanMove d t.from.id t.to.id t.range.lo t.range.hi = subst (λ (x : DirectoryView). CanMove x t.from.id t.to.id t.range.lo t.range.hi) (sym c.self.view_is) c.requires.can in
    let room : HasSends d (t.to.id ∷ []) (t.range.hi - t.range.lo) = subst (λ (x : DirectoryView). HasSends x (t.to.id ∷ []) (t.range.hi - t.range.lo)) (sym c.self.view_is) c.requires.room in
    let held : copy_at d t.from.id ≡ Some c.unwrap-held.result.now = search rules in
    let sent : Sends d n number t.from.id t.to.id t.range.lo t.range.hi = sends-so d n number t.from.id t.to.id t.range.lo t.range.hi c.unwrap-held.result.now.store c.self.invariant can
    (omega arith) (ap store_in held) c.put_from-message.ensures refl refl refl refl refl refl (omega (arith, room.steps)) c.note_ready.ensures in
    sound-sent d n number t.from.id t.to.id t.range.lo t.range.hi c.self.invariant can sent (t.range.hi - t.range.lo) room

pub returns-clause-sent : goal.returns-clause-sent
returns-clause-sent g c =
    let d : DirectoryView = record { spaces = c.self.inside.spaces; copies = c.self.inside.copies.entries; stores = c.self.inside.stores.entries; next = c.self.inside.next; ready = c.self.inside.ready; owed = c.self.inside.owed; named = c.self.inside.named; messages = c.self.inside.messages; aside = c.self.inside.aside } in
    let n : DirectoryView = record d { spaces = c.note_ready.new.spaces; messages = c.put_from-message.new.messages; aside = c.self.inside.aside - 1 } in
    let t = c.args.transfer.now in
    let number = c.put_from-message.result in
    let can : CanMove d t.from.id t.to.id t.range.lo t.range.hi = subst (λ (x : DirectoryView). CanMove x t.from.id t.to.id t.range.lo t.range.hi) (sym c.self.view_is) c.requires.can in
    let room : HasSends d (t.to.id ∷ []) (t.range.hi - t.range.lo) = subst (λ (x : DirectoryView). HasSends x (t.to.id ∷ []) (t.range.hi - t.range.lo)) (sym c.self.view_is) c.requires.room in
    let held : copy_at d t.from.id ≡ Some c.unwrap-held.result.now = search rules in
    let sent : Sends d n number t.from.id t.to.id t.range.lo t.range.hi = sends-so d n number t.from.id t.to.id t.range.lo t.range.hi c.unwrap-held.result.now.store c.self.invariant can
    (omega arith) (ap store_in held) c.put_from-message.ensures refl refl refl refl refl refl (omega (arith, room.steps)) c.note_ready.ensures in
    subst (λ (x : DirectoryView). Sends x n number t.from.id t.to.id t.range.lo t.range.hi) c.self.view_is sent

pub returns-clause-traced : goal.returns-clause-traced
returns-clause-traced g c =
    let d : DirectoryView = record { spaces = c.self.inside.spaces; copies = c.self.inside.copies.entries; stores = c.self.inside.stores.entries; next = c.self.inside.next; ready = c.self.inside.ready; owed = c.self.inside.owed; named = c.self.inside.named; messages = c.self.inside.messages; aside = c.self.inside.aside } in
    let n : DirectoryView = record d { spaces = c.note_ready.new.spaces; messages = c.put_from-message.new.messages; aside = c.self.inside.aside - 1 } in
    let t = c.args.transfer.now in
    let number = c.put_from-message.result in
    let can : CanMove d t.from.id t.to.id t.range.lo t.range.hi = subst (λ (x : DirectoryView). CanMove x t.from.id t.to.id t.range.lo t.range.hi) (sym c.self.view_is) c.requires.can in
    let room : HasSends d (t.to.id ∷ []) (t.range.hi - t.range.lo) = subst (λ (x : DirectoryView). HasSends x (t.to.id ∷ []) (t.range.hi - t.range.lo)) (sym c.self.view_is) c.requires.room in
    let held : copy_at d t.from.id ≡ Some c.unwrap-held.result.now = search rules in
    let sent : Sends d n number t.from.id t.to.id t.range.lo t.range.hi = sends-so d n number t.from.id t.to.id t.range.lo t.range.hi c.unwrap-held.result.now.store c.self.invariant can
    (omega arith) (ap store_in held) c.put_from-message.ensures refl refl refl refl refl refl (omega (arith, room.steps)) c.note_ready.ensures in
    let apart : LieApart d t.from.id t.to.id = subst (λ (x : DirectoryView). LieApart x t.from.id t.to.id) (sym c.self.view_is) c.requires.apart in
    subst (λ (x : DirectoryView). TracesStep x n (Send number t.from.id t.to.id t.range.lo t.range.hi)) c.self.view_is
    (traced-sent d n number t.from.id t.to.id t.range.lo t.range.hi c.self.invariant can sent (omega arith) apart)
