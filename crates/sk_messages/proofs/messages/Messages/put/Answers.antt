use Rattle.std.proofs.Common.{ap, arith, ◌++◌, ◌∷◌, [], Some, ◌∙◌}
use Rattle.sk_messages.specs.declared.slots.Slot.{Slot}
use Rattle.sk_messages.specs.Messages.{MessagesView}
use Rattle.sk_messages.proofs.MailLemmas.{puts}
use Rattle.sk_messages.proofs.SlotLemmas.{extended, flying_le, kept_put, mails_put}
use Rattle.sk_messages.proofs.messages.Messages.put.Goals as goal

pub overflow_add-self : goal.overflow_add-self
overflow_add-self c = omega (arith, flying_le c.self.inside.slots.items, ap (λ (v : MessagesView). v.room) c.self.view_is)

pub invariant_of-self : goal.invariant_of-self
invariant_of-self c =
    let was = c.self.inside in
    let slot : Slot = record { sent = c.args.sent; at = c.len-at.result } in
    kept_put was.first was.flying was.room was.cells was.slots.items c.push_reserved.new.self.items was.pool.items c.extend_from_slice.new.self.items
    c.args.cells.now slot _ _ _ _ c.self.invariant (omega arith) c.requires.whole
    (extended c.extend_from_slice.result _ _ _ (c.extend_from_slice.ensures.succeeds (omega (arith, ap (λ (v : MessagesView). v.cells) c.self.view_is))) c.extend_from_slice.ensures.items)
    c.push_reserved.ensures.items (omega (arith, ap (λ (v : MessagesView). v.room) c.self.view_is))
    (omega (arith, ap (λ (v : MessagesView). v.cells) c.self.view_is)) (omega arith) (omega arith)

pub returns : goal.returns
returns c =
    let was = c.self.inside in
    let slot : Slot = record { sent = c.args.sent; at = c.len-at.result } in
    puts c.args.self.now _ c.next-number.result _ c.next-number.ensures (ap (λ (v : MessagesView). v.first) c.self.view_is)
    (mails_put was.pool.items c.extend_from_slice.new.self.items c.args.cells.now was.slots.items c.push_reserved.new.self.items slot c.self.invariant.inside
    (omega arith) c.requires.whole
    (extended c.extend_from_slice.result _ _ _ (c.extend_from_slice.ensures.succeeds (omega (arith, ap (λ (v : MessagesView). v.cells) c.self.view_is))) c.extend_from_slice.ensures.items)
    c.push_reserved.ensures.items
    ∙ ap (λ (v : MessagesView). v.mails ++ Some (record { store = c.args.sent.store; target = c.args.sent.target; lo = c.args.sent.range.lo; hi = c.args.sent.range.hi; cells = c.args.cells.now }) ∷ []) c.self.view_is)
    (omega (arith, ap (λ (v : MessagesView). v.room) c.self.view_is)) (omega (arith, ap (λ (v : MessagesView). v.cells) c.self.view_is))
