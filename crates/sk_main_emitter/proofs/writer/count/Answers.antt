use Rattle.std.proofs.Common.{refl}
use Rattle.sk_main_emitter.proofs.MainWriters.{writes_line}
use Rattle.sk_main_emitter.proofs.writer.count.Goals as goal

pub returns : goal.returns
returns c =
    writes_line c.args.line c.args.writer.now _ c.in_ok-put.ensures (record { names = refl; slots = refl; containers = refl; instances = refl })
