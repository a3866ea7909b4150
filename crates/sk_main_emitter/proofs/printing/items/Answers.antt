use Rattle.std.proofs.Common.{◌≡◌, max, rules}
use Rattle.sk_main_scheme.specs.MainScheme.{item_emitted}
use Rattle.sk_main_emitter.proofs.MainWriters.{written_turn, written_end}
use Rattle.sk_main_emitter.proofs.printing.items.Goals as goal

pub loop-one-preserved : goal.loop-one-preserved
loop-one-preserved c =
    let deepest : c.max-depth.result ≡ max c.loop-one.depth c.in_ok-item.field-0 = search rules in
    written_turn item_emitted c.args.items.now c.args.writer.now c.loop-one.writer c.item.new.writer c.loop-one.one-index c.loop-one.depth
    c.in_ok-item.field-0 c.max-depth.result c.one-item.result c.loop-one.invariant c.one-item.is c.loop-one-test.true
    c.in_ok-item.ensures deepest

pub returns : goal.returns
returns c =
    written_end item_emitted c.args.items.now c.args.writer.now c.loop-one.writer c.loop-one.one-index c.loop-one.depth
    c.loop-one.invariant c.loop-one-test.false
