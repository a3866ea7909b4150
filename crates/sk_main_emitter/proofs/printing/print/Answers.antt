use Rattle.std.proofs.Common.{map, arith}
use Rattle.sk_main_scheme.specs.MainScheme.{all_emitted, item_emitted}
use Rattle.sk_main_emitter.proofs.MainWriters.{writes_then}
use Rattle.sk_main_emitter.proofs.printing.print.Goals as goal
use Rattle.sk_main_emitter.specs.Written.{counting}

pub returns : goal.returns
returns c =
    writes_then (counting c.args.line) (all_emitted (map item_emitted c.args.shown.now)) c.args.writer.now c.count.new.writer c.items.new.writer
    0 c.in_ok-depth.depth c.in_ok-depth.depth c.in_ok-count.ensures c.in_ok-depth.ensures (omega arith)
