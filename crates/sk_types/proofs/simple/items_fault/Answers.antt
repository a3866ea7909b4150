use Rattle.std.proofs.Common.{◌∙◌, sym, ap}
use Rattle.sk_typing.specs.TypingFaults.{earlier, least_of}
use Rattle.sk_typing.specs.TypingStatements as statements
use Rattle.sk_types.specs.Told.{seen}
use Rattle.sk_typing_laws.proofs.Least.{told_item, told_end, least_of_flat_map}
use Rattle.sk_types.proofs.simple.items_fault.Goals as goal

pub loop-item-preserved : goal.loop-item-preserved
loop-item-preserved c =
    told_item (λ item. least_of (statements.item_faults (seen c.args.around.now) c.args.scopes.now item))
    c.args.items.now c.loop-item.item-index c.item-item.result c.loop-item.least
    c.earlier-least.result c.item-item.is c.loop-item.invariant
    (c.earlier-least.ensures ∙ ap (earlier c.loop-item.least) c.in_ok-told.ensures)
    c.loop-item-test.true

pub returns : goal.returns
returns c =
    told_end (λ item. least_of (statements.item_faults (seen c.args.around.now) c.args.scopes.now item))
    c.args.items.now c.loop-item.item-index c.loop-item.least c.loop-item.invariant c.loop-item-test.false
    ∙ sym (least_of_flat_map (statements.item_faults (seen c.args.around.now) c.args.scopes.now) c.args.items.now)
