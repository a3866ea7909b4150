use Rattle.std.proofs.Common.{◌≡◌, ◌+◌, ◌-◌, ◌≤◌, Option, IfSome, arith, refl, sym, subst, ◌∙◌}
use Rattle.sk_ranges.specs.declared.state.State.TheVariants.{Valid}
use Rattle.sk_spaces.specs.declared.step.Step.TheVariants.{Copy}
use Rattle.sk_spaces.proofs.CopyLemmas.{taken-copied}
use Rattle.sk_copy_states.specs.declared.held.Held.{Held}
use Rattle.sk_copy_states.specs.Copies.{SetsAt, KeepsStates, held_in}
use Rattle.sk_copy_states.specs.Stores.{changes_in}
use Rattle.sk_coherence_laws.specs.Directory.{DirectoryView, copy_at, store_at, cells_of_copy}
use Rattle.sk_coherence_laws.specs.Moves.{CanMove, Fills, IsStaleAt}
use Rattle.sk_coherence_laws.specs.Traced.{TracesStep}
use Rattle.sk_coherence_laws.proofs.KeptLemmas.{sound-kept, keeps_same}
use Rattle.sk_coherence_laws.proofs.NamedMoves.{room_left, sets_after}
use Rattle.sk_coherence_laws.proofs.FillSteps.{values, sound-fill, traced-fill}
use Rattle.sk_coherence.proofs.directory.Directory.fill.Goals as goal

pub invariant_of-self : goal.invariant_of-self
invariant_of-self g c =
    let d : DirectoryView = record { spaces = c.self.inside.spaces; copies = c.self.inside.copies.entries; stores = c.self.inside.stores.entries; next = c.self.inside.next; ready = c.self.inside.ready; owed = c.self.inside.owed; named = c.self.inside.named; messages = c.self.inside.messages; aside = c.self.inside.aside } in
    let n : DirectoryView = record d { copies = c.reserve_one.new.copies.entries } in
    sound-kept d n (λ q. subst (λ (o : Option Held). KeepsStates (copy_at d q) o) (sym (c.in_err-reserve_one.ensures.err q)) (keeps_same (copy_at d q)))
    c.self.invariant refl (λ t. refl) refl refl refl c.self.invariant.owed c.self.invariant.ready

pub invariant_of-self-2 : goal.invariant_of-self-2
invariant_of-self-2 g c =
    let d : DirectoryView = record { spaces = c.self.inside.spaces; copies = c.self.inside.copies.entries; stores = c.self.inside.stores.entries; next = c.self.inside.next; ready = c.self.inside.ready; owed = c.self.inside.owed; named = c.self.inside.named; messages = c.self.inside.messages; aside = c.self.inside.aside } in
    let n : DirectoryView = record { spaces = c.move_as.new.spaces; copies = c.set_one.new.copies.entries; stores = c.self.inside.stores.entries; next = c.self.inside.next; ready = c.self.inside.ready - 1; owed = c.self.inside.owed; named = c.self.inside.named; messages = c.self.inside.messages; aside = c.self.inside.aside } in
    let t = c.args.transfer in
    let can : CanMove d t.from.id t.to.id t.range.lo t.range.hi = subst (λ (x : DirectoryView). CanMove x t.from.id t.to.id t.range.lo t.range.hi) (sym c.self.view_is) c.requires.can in
    let missing : IsStaleAt d t.to.id t.range.lo t.range.hi = subst (λ (x : DirectoryView). IsStaleAt x t.to.id t.range.lo t.range.hi) (sym c.self.view_is) c.requires.missing in
    let room : IfSome (copy_at d t.to.id) (λ held. c.in_ok-room.room ≡ changes_in (store_at d held.store) + 1) = subst (λ (x : DirectoryView). IfSome (copy_at x t.to.id) (λ held. c.in_ok-room.room ≡ changes_in (store_at x held.store) + 1)) (sym c.self.view_is) c.in_ok-room.ensures in
    let more : d.owed + 1 ≤ d.ready = subst (λ (x : DirectoryView). x.owed + 1 ≤ x.ready) (sym c.self.view_is) c.requires.ready in
    let mid = held_in c.reserve_one.new.copies.entries t.to.id in
    let r = c.in_ok-reserve_one.ensures in
    let s = c.set_one.ensures.set in
    sound-fill d n t.from.id t.to.id t.range.lo t.range.hi c.self.invariant can (omega arith) missing c.move_as.ensures
    (sets_after (copy_at d t.to.id) mid (copy_at n t.to.id) t.range.lo t.range.hi Valid r.states r.pins s)
    (λ q ne. c.set_one.ensures.others q ne ∙ r.others q ne)
    (room_left d (copy_at d t.to.id) mid (copy_at n t.to.id) c.in_ok-room.room can.target room r.ok r.home s.home s.expected s.room)
    refl refl refl refl (omega (arith, more)) (omega (arith, more, c.self.invariant.ready, c.move_as.ensures.noted.spare))

pub returns-clause-ok : goal.returns-clause-ok
returns-clause-ok g c =
    let d : DirectoryView = record { spaces = c.self.inside.spaces; copies = c.self.inside.copies.entries; stores = c.self.inside.stores.entries; next = c.self.inside.next; ready = c.self.inside.ready; owed = c.self.inside.owed; named = c.self.inside.named; messages = c.self.inside.messages; aside = c.self.inside.aside } in
    let n : DirectoryView = record { spaces = c.move_as.new.spaces; copies = c.set_one.new.copies.entries; stores = c.self.inside.stores.entries; next = c.self.inside.next; ready = c.self.inside.ready - 1; owed = c.self.inside.owed; named = c.self.inside.named; messages = c.self.inside.messages; aside = c.self.inside.aside } in
    let t = c.args.transfer in
    let can : CanMove d t.from.id t.to.id t.range.lo t.range.hi = subst (λ (x : DirectoryView). CanMove x t.from.id t.to.id t.range.lo t.range.hi) (sym c.self.view_is) c.requires.can in
    let missing : IsStaleAt d t.to.id t.range.lo t.range.hi = subst (λ (x : DirectoryView). IsStaleAt x t.to.id t.range.lo t.range.hi) (sym c.self.view_is) c.requires.missing in
    let room : IfSome (copy_at d t.to.id) (λ held. c.in_ok-room.room ≡ changes_in (store_at d held.store) + 1) = subst (λ (x : DirectoryView). IfSome (copy_at x t.to.id) (λ held. c.in_ok-room.room ≡ changes_in (store_at x held.store) + 1)) (sym c.self.view_is) c.in_ok-room.ensures in
    let mid = held_in c.reserve_one.new.copies.entries t.to.id in
    let r = c.in_ok-reserve_one.ensures in
    let s = c.set_one.ensures.set in
    let target : SetsAt (copy_at d t.to.id) (copy_at n t.to.id) t.range.lo t.range.hi Valid = sets_after (copy_at d t.to.id) mid (copy_at n t.to.id) t.range.lo t.range.hi Valid r.states r.pins s in
    subst (λ (x : DirectoryView). Fills x n t.from.id t.to.id t.range.lo t.range.hi) c.self.view_is
    (record {
      target = target;
      others = λ q ne. c.set_one.ensures.others q ne ∙ r.others q ne;
      values = values d n t.from.id t.to.id t.range.lo t.range.hi c.self.invariant can (omega arith) missing c.move_as.ensures target
          (λ q ne. c.set_one.ensures.others q ne ∙ r.others q ne)
          (room_left d (copy_at d t.to.id) mid (copy_at n t.to.id) c.in_ok-room.room can.target room r.ok r.home s.home s.expected s.room) refl refl refl refl;
      other_values = c.move_as.ensures.memories.blocks.others;
      rest = record {
        stores = refl;
        next = refl;
        owed = refl;
        named = refl;
        messages = refl;
        aside = refl;
        next_copy = c.move_as.ensures.memories.next;
        ranks = c.move_as.ensures.memories.ranks;
        capacity = c.move_as.ensures.memories.capacity;
        used = λ space. omega (arith, c.move_as.ensures.memories.used space, taken-copied (cells_of_copy d t.from.id) (cells_of_copy d t.to.id) space t.range.lo t.range.hi);
        noted = c.move_as.ensures.noted;
      };
    })

pub returns-clause-traced : goal.returns-clause-traced
returns-clause-traced g c =
    let d : DirectoryView = record { spaces = c.self.inside.spaces; copies = c.self.inside.copies.entries; stores = c.self.inside.stores.entries; next = c.self.inside.next; ready = c.self.inside.ready; owed = c.self.inside.owed; named = c.self.inside.named; messages = c.self.inside.messages; aside = c.self.inside.aside } in
    let n : DirectoryView = record { spaces = c.move_as.new.spaces; copies = c.set_one.new.copies.entries; stores = c.self.inside.stores.entries; next = c.self.inside.next; ready = c.self.inside.ready - 1; owed = c.self.inside.owed; named = c.self.inside.named; messages = c.self.inside.messages; aside = c.self.inside.aside } in
    let t = c.args.transfer in
    let can : CanMove d t.from.id t.to.id t.range.lo t.range.hi = subst (λ (x : DirectoryView). CanMove x t.from.id t.to.id t.range.lo t.range.hi) (sym c.self.view_is) c.requires.can in
    let missing : IsStaleAt d t.to.id t.range.lo t.range.hi = subst (λ (x : DirectoryView). IsStaleAt x t.to.id t.range.lo t.range.hi) (sym c.self.view_is) c.requires.missing in
    let room : IfSome (copy_at d t.to.id) (λ held. c.in_ok-room.room ≡ changes_in (store_at d held.store) + 1) = subst (λ (x : DirectoryView). IfSome (copy_at x t.to.id) (λ held. c.in_ok-room.room ≡ changes_in (store_at x held.store) + 1)) (sym c.self.view_is) c.in_ok-room.ensures in
    let mid = held_in c.reserve_one.new.copies.entries t.to.id in
    let r = c.in_ok-reserve_one.ensures in
    let s = c.set_one.ensures.set in
    subst (λ (x : DirectoryView). TracesStep x n (Copy t.from.id t.to.id t.range.lo t.range.hi)) c.self.view_is
    (traced-fill d n t.from.id t.to.id t.range.lo t.range.hi c.self.invariant can (omega arith) missing c.move_as.ensures
    (sets_after (copy_at d t.to.id) mid (copy_at n t.to.id) t.range.lo t.range.hi Valid r.states r.pins s)
    (λ q ne. c.set_one.ensures.others q ne ∙ r.others q ne)
    (room_left d (copy_at d t.to.id) mid (copy_at n t.to.id) c.in_ok-room.room can.target room r.ok r.home s.home s.expected s.room)
    refl refl refl refl)
