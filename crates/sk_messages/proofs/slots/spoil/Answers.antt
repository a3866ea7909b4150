use Rattle.std.proofs.Common.{map, take, ◌+◌, refl, ap, ◌∙◌}
use Rattle.std.specs.Int.{from_bool}
use Rattle.sk_messages.specs.Slots.{left_slot}
use Rattle.sk_messages.proofs.SlotLemmas.{looked_at, counted_more}
use Rattle.sk_messages.proofs.slots.spoil.Goals as goal

pub slots-preserved : goal.slots-preserved
slots-preserved c =
    let f = left_slot c.args.store c.args.range.lo c.args.range.hi in
    let all = c.args.slots.now in
    let i = c.slots.invariant in
    let step = looked_at f all c.slots.slots c.slots.at c.index-slots-at.result c.left-slot.result c.slots-test.true i.done c.index-slots-at.is c.left-slot.ensures in
    let more = counted_more (map f (take c.slots.at all)) (map f (take (c.slots.at + 1) all)) c.left-slot.result c.slots.flying c.from-flying.result _ c.slots.at
    step.1 (c.from-flying.ensures ∙ ap from_bool c.is_some.ensures) refl i.counted i.few in
    record { done = step.0; counted = more.0; few = more.1 }
