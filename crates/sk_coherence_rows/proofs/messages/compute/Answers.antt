use Rattle.sk_coherence_rows.proofs.FullLemmas.{named-any, wrote-keeps}
use Rattle.sk_coherence_rows.proofs.messages.compute.Goals as goal

pub returns-clause-keeps : goal.returns-clause-keeps
returns-clause-keeps c =
    let e = c.in_ok-out.ensures in
    let t = c.args.target in
    let b = c.args.part.block in
    wrote-keeps c.args.dir.now c.acquire_write.new.self c.named.new.self c.release_write.new.self c.unpin.new.self c.in_ok-out.out.id t.store.id t.len c.args.part.space b.lo b.hi b.lo b.hi _
    c.requires.cells e.ok e.home (named-any c.acquire_write.new.self c.named.new.self _ c.named.ensures)
    c.release_write.ensures.written c.release_write.ensures.same c.release_write.ensures.stores
    c.unpin.ensures.unpinned c.unpin.ensures.others c.unpin.ensures.same
