use Rattle.std.proofs.Common.{◌+◌}
use Rattle.sk_coherence_rows.proofs.FullLemmas.{named-any, wrote-keeps}
use Rattle.sk_coherence_rows.proofs.plays.poke.Goals as goal

pub returns : goal.returns
returns c =
    let e = c.in_ok-copy.ensures in
    let v = c.args.vector in
    record {
      keeps = wrote-keeps c.args.dir.now c.acquire_write.new.self c.named.new.self c.release_write.new.self c.unpin.new.self c.in_ok-copy.copy.id v.store.id v.len 0 0 v.len
          c.args.index (c.args.index + 1) _ c.requires.full.cells e.ok e.home (named-any c.acquire_write.new.self c.named.new.self _ c.named.ensures)
          c.release_write.ensures.written c.release_write.ensures.same c.release_write.ensures.stores
          c.unpin.ensures.unpinned c.unpin.ensures.others c.unpin.ensures.same;
    }
