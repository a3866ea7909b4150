use Rattle.std.proofs.Common.{◌≡◌, ◌+◌, ◌-◌, ◌≤◌, IfSome, arith, refl, sym, subst}
use Rattle.sk_spaces.specs.declared.step.Step.TheVariants.{Back}
use Rattle.sk_spaces.proofs.CopyLemmas.{taken-copied}
use Rattle.sk_copy_states.specs.Stores.{changes_in}
use Rattle.sk_coherence_laws.specs.Directory.{DirectoryView, copy_at, store_at, cells_of_copy}
use Rattle.sk_coherence_laws.specs.Moves.{CanMove, HandsBack, OwnsAt}
use Rattle.sk_coherence_laws.specs.Traced.{TracesStep}
use Rattle.sk_coherence_laws.proofs.KeptLemmas.{sound-kept}
use Rattle.sk_coherence_laws.proofs.NamedMoves.{room_left_too}
use Rattle.sk_coherence_laws.proofs.BackSteps.{values, sound-back, traced-back}
use Rattle.sk_coherence.proofs.directory.Directory.hand_back.Goals as goal

pub invariant_of-self : goal.invariant_of-self
invariant_of-self g c =
    let d : DirectoryView = record { spaces = c.self.inside.spaces; copies = c.self.inside.copies.entries; stores = c.self.inside.stores.entries; next = c.self.inside.next; ready = c.self.inside.ready; owed = c.self.inside.owed; named = c.self.inside.named; messages = c.self.inside.messages; aside = c.self.inside.aside } in
    let n : DirectoryView = record d { copies = c.hand_over.new.copies.entries } in
    sound-kept d n c.in_err-hand_over.ensures.err c.self.invariant refl (λ t. refl) refl refl refl c.self.invariant.owed c.self.invariant.ready

pub invariant_of-self-2 : goal.invariant_of-self-2
invariant_of-self-2 g c =
    let d : DirectoryView = record { spaces = c.self.inside.spaces; copies = c.self.inside.copies.entries; stores = c.self.inside.stores.entries; next = c.self.inside.next; ready = c.self.inside.ready; owed = c.self.inside.owed; named = c.self.inside.named; messages = c.self.inside.messages; aside = c.self.inside.aside } in
    let n : DirectoryView = record { spaces = c.move_as.new.spaces; copies = c.hand_over.new.copies.entries; stores = c.self.inside.stores.entries; next = c.self.inside.next; ready = c.self.inside.ready - 1; owed = c.self.inside.owed; named = c.self.inside.named; messages = c.self.inside.messages; aside = c.self.inside.aside } in
    let t = c.args.transfer in
    let can : CanMove d t.from.id t.to.id t.range.lo t.range.hi = subst (λ (x : DirectoryView). CanMove x t.from.id t.to.id t.range.lo t.range.hi) (sym c.self.view_is) c.requires.can in
    let owns : OwnsAt d t.from.id t.range.lo t.range.hi = subst (λ (x : DirectoryView). OwnsAt x t.from.id t.range.lo t.range.hi) (sym c.self.view_is) c.requires.owns in
    let room : IfSome (copy_at d t.to.id) (λ held. c.in_ok-room.room ≡ changes_in (store_at d held.store) + 1) = subst (λ (x : DirectoryView). IfSome (copy_at x t.to.id) (λ held. c.in_ok-room.room ≡ changes_in (store_at x held.store) + 1)) (sym c.self.view_is) c.in_ok-room.ensures in
    let more : d.owed + 1 ≤ d.ready = subst (λ (x : DirectoryView). x.owed + 1 ≤ x.ready) (sym c.self.view_is) c.requires.ready in
    let e = c.in_ok-hand_over.ensures in
    sound-back d n t.from.id t.to.id t.range.lo t.range.hi c.self.invariant can (omega arith) owns c.move_as.ensures
    e.ok.target e.ok.source e.ok.others
    (room_left_too d (copy_at d t.to.id) (copy_at d t.to.id) (copy_at n t.to.id) c.in_ok-room.room can.target room e.target_left refl e.ok.target.home)
    (room_left_too d (copy_at d t.to.id) (copy_at d t.from.id) (copy_at n t.from.id) c.in_ok-room.room can.target room e.source_left can.store e.ok.source.home)
    refl refl refl refl (omega (arith, more)) (omega (arith, more, c.self.invariant.ready, c.move_as.ensures.noted.spare))

pub returns-clause-ok : goal.returns-clause-ok
returns-clause-ok g c =
    let d : DirectoryView = record { spaces = c.self.inside.spaces; copies = c.self.inside.copies.entries; stores = c.self.inside.stores.entries; next = c.self.inside.next; ready = c.self.inside.ready; owed = c.self.inside.owed; named = c.self.inside.named; messages = c.self.inside.messages; aside = c.self.inside.aside } in
    let n : DirectoryView = record { spaces = c.move_as.new.spaces; copies = c.hand_over.new.copies.entries; stores = c.self.inside.stores.entries; next = c.self.inside.next; ready = c.self.inside.ready - 1; owed = c.self.inside.owed; named = c.self.inside.named; messages = c.self.inside.messages; aside = c.self.inside.aside } in
    let t = c.args.transfer in
    let can : CanMove d t.from.id t.to.id t.range.lo t.range.hi = subst (λ (x : DirectoryView). CanMove x t.from.id t.to.id t.range.lo t.range.hi) (sym c.self.view_is) c.requires.can in
    let owns : OwnsAt d t.from.id t.range.lo t.range.hi = subst (λ (x : DirectoryView). OwnsAt x t.from.id t.range.lo t.range.hi) (sym c.self.view_is) c.requires.owns in
    let room : IfSome (copy_at d t.to.id) (λ held. c.in_ok-room.room ≡ changes_in (store_at d held.store) + 1) = subst (λ (x : DirectoryView). IfSome (copy_at x t.to.id) (λ held. c.in_ok-room.room ≡ changes_in (store_at x held.store) + 1)) (sym c.self.view_is) c.in_ok-room.ensures in
    let e = c.in_ok-hand_over.ensures in
    subst (λ (x : DirectoryView). HandsBack x n t.from.id t.to.id t.range.lo t.range.hi) c.self.view_is
    (record {
      states = e.ok;
      values = values d n t.from.id t.to.id t.range.lo t.range.hi c.self.invariant can (omega arith) owns c.move_as.ensures
          e.ok.target e.ok.source e.ok.others
          (room_left_too d (copy_at d t.to.id) (copy_at d t.to.id) (copy_at n t.to.id) c.in_ok-room.room can.target room e.target_left refl e.ok.target.home)
          (room_left_too d (copy_at d t.to.id) (copy_at d t.from.id) (copy_at n t.from.id) c.in_ok-room.room can.target room e.source_left can.store e.ok.source.home)
          refl refl refl refl;
      other_values = c.move_as.ensures.memories.blocks.others;
      rest = record {
        stores = refl;
        next = refl;
        owed = refl;
        named = refl;
        messages = refl;
        aside = refl;
        next_copy = c.move_as.ensures.memories.next;
        ranks = c.move_as.ensures.memories.ranks;
        capacity = c.move_as.ensures.memories.capacity;
        used = λ space. omega (arith, c.move_as.ensures.memories.used space, taken-copied (cells_of_copy d t.from.id) (cells_of_copy d t.to.id) space t.range.lo t.range.hi);
        noted = c.move_as.ensures.noted;
      };
    })

pub returns-clause-traced : goal.returns-clause-traced
returns-clause-traced g c =
    let d : DirectoryView = record { spaces = c.self.inside.spaces; copies = c.self.inside.copies.entries; stores = c.self.inside.stores.entries; next = c.self.inside.next; ready = c.self.inside.ready; owed = c.self.inside.owed; named = c.self.inside.named; messages = c.self.inside.messages; aside = c.self.inside.aside } in
    let n : DirectoryView = record { spaces = c.move_as.new.spaces; copies = c.hand_over.new.copies.entries; stores = c.self.inside.stores.entries; next = c.self.inside.next; ready = c.self.inside.ready - 1; owed = c.self.inside.owed; named = c.self.inside.named; messages = c.self.inside.messages; aside = c.self.inside.aside } in
    let t = c.args.transfer in
    let can : CanMove d t.from.id t.to.id t.range.lo t.range.hi = subst (λ (x : DirectoryView). CanMove x t.from.id t.to.id t.range.lo t.range.hi) (sym c.self.view_is) c.requires.can in
    let owns : OwnsAt d t.from.id t.range.lo t.range.hi = subst (λ (x : DirectoryView). OwnsAt x t.from.id t.range.lo t.range.hi) (sym c.self.view_is) c.requires.owns in
    let room : IfSome (copy_at d t.to.id) (λ held. c.in_ok-room.room ≡ changes_in (store_at d held.store) + 1) = subst (λ (x : DirectoryView). IfSome (copy_at x t.to.id) (λ held. c.in_ok-room.room ≡ changes_in (store_at x held.store) + 1)) (sym c.self.view_is) c.in_ok-room.ensures in
    let e = c.in_ok-hand_over.ensures in
    subst (λ (x : DirectoryView). TracesStep x n (Back t.from.id t.to.id t.range.lo t.range.hi)) c.self.view_is
    (traced-back d n t.from.id t.to.id t.range.lo t.range.hi c.self.invariant can (omega arith) owns c.move_as.ensures
    e.ok.target e.ok.source e.ok.others
    (room_left_too d (copy_at d t.to.id) (copy_at d t.to.id) (copy_at n t.to.id) c.in_ok-room.room can.target room e.target_left refl e.ok.target.home)
    (room_left_too d (copy_at d t.to.id) (copy_at d t.from.id) (copy_at n t.from.id) c.in_ok-room.room can.target room e.source_left can.store e.ok.source.home)
    refl refl refl refl)
