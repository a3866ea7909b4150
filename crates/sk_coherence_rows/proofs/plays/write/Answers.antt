use Rattle.std.proofs.Common.{◌≡◌, ℕ, length, arith, rules, sym, subst}
use Rattle.sk_coherence_rows.specs.Full.{HasCells, IsFull}
use Rattle.sk_coherence_rows.proofs.FullLemmas.{named-any, wrote-full, wrote-keeps, wrote-pins}
use Rattle.sk_coherence_rows.proofs.plays.write.Goals as goal

pub returns-clause-full : goal.returns-clause-full
returns-clause-full c =
    let e = c.in_ok-copy.ensures in
    let hi : c.in-Ok.hi ≡ length c.args.cells.now = search rules in
    subst (λ (h : ℕ). IsFull c.unpin.new.self c.args.store.id h) hi (wrote-full c.args.dir.now c.acquire_write.new.self c.named.new.self c.release_write.new.self c.unpin.new.self c.in_ok-copy.copy.id c.args.store.id c.in-Ok.hi c.args.space 0 c.in-Ok.hi 0 c.in-Ok.hi c.args.cells.now
    (subst (λ (h : ℕ). HasCells c.args.dir.now c.args.store.id h) (sym hi) c.requires.cells) e.ok e.home (named-any c.acquire_write.new.self c.named.new.self _ c.named.ensures)
    c.release_write.ensures.written c.release_write.ensures.same c.release_write.ensures.stores
    c.unpin.ensures.unpinned c.unpin.ensures.others c.unpin.ensures.same (λ i below. (omega arith, below)))

pub returns-clause-keeps : goal.returns-clause-keeps
returns-clause-keeps c =
    let e = c.in_ok-copy.ensures in
    let hi : c.in-Ok.hi ≡ length c.args.cells.now = search rules in
    wrote-keeps c.args.dir.now c.acquire_write.new.self c.named.new.self c.release_write.new.self c.unpin.new.self c.in_ok-copy.copy.id c.args.store.id c.in-Ok.hi c.args.space 0 c.in-Ok.hi 0 c.in-Ok.hi c.args.cells.now
    (subst (λ (h : ℕ). HasCells c.args.dir.now c.args.store.id h) (sym hi) c.requires.cells) e.ok e.home (named-any c.acquire_write.new.self c.named.new.self _ c.named.ensures)
    c.release_write.ensures.written c.release_write.ensures.same c.release_write.ensures.stores
    c.unpin.ensures.unpinned c.unpin.ensures.others c.unpin.ensures.same

pub returns-clause-pins : goal.returns-clause-pins
returns-clause-pins c =
    let e = c.in_ok-copy.ensures in
    wrote-pins c.args.dir.now c.acquire_write.new.self c.named.new.self c.release_write.new.self c.unpin.new.self c.in_ok-copy.copy.id c.args.store.id e.ok
    (named-any c.acquire_write.new.self c.named.new.self _ c.named.ensures) 0 c.in-Ok.hi c.args.cells.now c.release_write.ensures.written c.unpin.ensures.unpinned c.unpin.ensures.others
