use Rattle.std.proofs.Common.{◌≡◌, ◌+◌, List, ℤ, Option, length, [], Some, None, arith, ap, ◌∙◌, sym, refl}
use Rattle.sk_messages.specs.declared.slots.Slot.{Slot}
use Rattle.sk_messages.specs.Messages.{Mail}
use Rattle.sk_messages.specs.Slots.{mail_in, slot_of}
use Rattle.sk_messages.proofs.SlotLemmas.{slot_inside, found_mail, whole_mail}
use Rattle.sk_messages.proofs.messages.Messages.cells.Goals as goal

pub cells_of-requires : goal.cells_of-requires
cells_of-requires c =
    let was = c.self.inside in
    let found : slot_of was.slots.items was.first c.args.number ≡ Some c.in-Some.slot =
    ap (λ (xs : List (Option Slot)). slot_of xs was.first c.args.number) (sym c.deref.ensures.value) ∙ sym c.find.ensures ∙ c.in-Some.is in
    omega (arith, slot_inside (length was.pool.items) was.slots.items was.first c.args.number c.in-Some.slot c.self.invariant.inside found, ap length c.deref-in-Some.ensures.value)

pub returns-in-Some : goal.returns-in-Some
returns-in-Some c =
    let was = c.self.inside in
    let found : Some c.in-Some.slot ≡ slot_of was.slots.items was.first c.args.number =
    sym c.in-Some.is ∙ c.find.ensures ∙ ap (λ (xs : List (Option Slot)). slot_of xs was.first c.args.number) c.deref.ensures.value in
    record {
      cells = found_mail c.args.self.now _ was.pool.items was.slots.items c.args.number (Some c.in-Some.slot) (λ (mail : Mail). c.cells_of.result.now ≡ mail.cells)
          c.self.view_is refl found (c.cells_of.ensures ∙ ap (λ (xs : List ℤ). (mail_in xs c.in-Some.slot).cells) c.deref-in-Some.ensures.value);
      whole = found_mail c.args.self.now _ was.pool.items was.slots.items c.args.number (Some c.in-Some.slot) (λ (mail : Mail). mail.lo + length mail.cells ≡ mail.hi)
          c.self.view_is refl found (whole_mail was.pool.items c.in-Some.slot
          (slot_inside (length was.pool.items) was.slots.items was.first c.args.number c.in-Some.slot c.self.invariant.inside (sym found)));
    }

pub returns-in-None : goal.returns-in-None
returns-in-None c =
    let was = c.self.inside in
    let found : None ≡ slot_of was.slots.items was.first c.args.number =
    sym c.in-None.is ∙ c.find.ensures ∙ ap (λ (xs : List (Option Slot)). slot_of xs was.first c.args.number) c.deref.ensures.value in
    record {
      cells = found_mail c.args.self.now _ was.pool.items was.slots.items c.args.number None (λ (mail : Mail). ◌≡◌ {A = List ℤ} [] mail.cells)
          c.self.view_is refl found tt;
      whole = found_mail c.args.self.now _ was.pool.items was.slots.items c.args.number None (λ (mail : Mail). mail.lo + length mail.cells ≡ mail.hi)
          c.self.view_is refl found tt;
    }
