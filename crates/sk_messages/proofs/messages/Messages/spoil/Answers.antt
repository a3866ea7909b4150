use Rattle.std.proofs.Common.{◌≡◌, length, map, sum_by, arith, ap, sym, refl, ◌∙◌}
use Rattle.std.proofs.lemmas.List.{length-map, with_items_is}
use Rattle.std.specs.Vec.{with_items}
use Rattle.sk_messages.specs.Messages.{MessagesView, left_of, flying_in}
use Rattle.sk_messages.specs.Slots.{left_slot, mails_in, flies_slot}
use Rattle.sk_messages.proofs.MailLemmas.{none_left, spoils}
use Rattle.sk_messages.proofs.SlotLemmas.{flying_mails, kept_left, mails_left}
use Rattle.sk_messages.proofs.messages.Messages.spoil.Goals as goal

pub invariant_of-self : goal.invariant_of-self
invariant_of-self c =
    let was = c.self.inside in
    let left = c.spoil-self-inside.new.slots in
    let f = left_slot c.args.store c.args.range.lo c.args.range.hi in
    let is : left ≡ map f was.slots.items = c.spoil-self-inside.ensures.slots ∙ ap (map f) c.deref_mut.ensures.value in
    let same : (with_items was.slots left).items ≡ left = with_items_is was.slots left (omega (arith, ap length is, length-map was.slots.items f)) in
    kept_left was.first was.flying was.room was.cells was.slots.items (with_items was.slots left).items was.pool.items c.args.store c.args.range.lo c.args.range.hi
    c.spoil-self-inside.result _ _ c.self.invariant (same ∙ is) (c.spoil-self-inside.ensures.flying ∙ ap (sum_by flies_slot) (sym same))

pub returns-then-self-gt0 : goal.returns-then-self-gt0
returns-then-self-gt0 c =
    let was = c.self.inside in
    let left = c.spoil-self-inside.new.slots in
    let f = left_slot c.args.store c.args.range.lo c.args.range.hi in
    let is : left ≡ map f was.slots.items = c.spoil-self-inside.ensures.slots ∙ ap (map f) c.deref_mut.ensures.value in
    let same : (with_items was.slots left).items ≡ left = with_items_is was.slots left (omega (arith, ap length is, length-map was.slots.items f)) in
    spoils c.args.self.now _ c.args.store c.args.range.lo c.args.range.hi (ap (λ (v : MessagesView). v.first) c.self.view_is)
    (ap (mails_in was.pool.items) (same ∙ is) ∙ mails_left was.pool.items was.slots.items c.args.store c.args.range.lo c.args.range.hi
    ∙ ap (λ (v : MessagesView). map (left_of c.args.store c.args.range.lo c.args.range.hi) v.mails) c.self.view_is)
    (ap (λ (v : MessagesView). v.room) c.self.view_is) (ap (λ (v : MessagesView). v.cells) c.self.view_is)

pub returns-else-self-gt0 : goal.returns-else-self-gt0
returns-else-self-gt0 c =
    spoils c.args.self.now c.args.self.now c.args.store c.args.range.lo c.args.range.hi refl
    (sym (none_left c.args.store c.args.range.lo c.args.range.hi c.args.self.now.mails
    (omega (arith, ap flying_in c.self.view_is, flying_mails c.self.inside.pool.items c.self.inside.slots.items)))) refl refl
