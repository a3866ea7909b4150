use Rattle.sk_coherence_laws.specs.HostBlocks.{home_at}
use Rattle.sk_coherence_laws.specs.Directory.{store_at}
use Rattle.sk_container.proofs.HostLines.{host-of, hosting-of}
use Rattle.sk_container.proofs.PartLemmas.{part-inside, part-block, part-above, part-there, inside_at, len_at, if_ok_host}
use Rattle.sk_container.proofs.host.acquire_part.Goals as goal

pub index_of-index-requires-clause-inside : goal.index_of-index-requires-clause-inside
index_of-index-requires-clause-inside g c =
    let d = c.args.dir.now in
    part-inside d c.args.store.id c.args.range.lo c.args.range.hi c.cells.result c.requires.part
    (len_at (store_at d c.args.store.id) c.shape.result.now c.cells.result c.shape.ensures c.cells.ensures.value)

pub acquire_read-requires-clause-below : goal.acquire_read-requires-clause-below
acquire_read-requires-clause-below g c =
    let d = c.args.dir.now in let b = c.host_block-block in
    part-block d c.args.store.id c.args.range.lo c.args.range.hi c.cells.result c.index_of-index.result b.result.lo b.result.hi c.requires.part
    (len_at (store_at d c.args.store.id) c.shape.result.now c.cells.result c.shape.ensures c.cells.ensures.value)
    b.ensures.block c.index_of-index.ensures.first c.index_of-index.ensures.last c.args.range.ordered b.ensures.below

pub returns-clause-host : goal.returns-clause-host
returns-clause-host g c =
    let d = c.args.dir.now in let b = c.host_block-block in let r = c.args.range in let s = c.args.store.id in let at = c.index_of-index in
    let len = len_at (store_at d s) c.shape.result.now c.cells.result c.shape.ensures c.cells.ensures.value in
    if_ok_host d c.acquire_read.new.dir s r.lo r.hi b.result.lo b.result.hi c.acquire_read.result c.acquire_read.ensures.home
    (host-of d s at.result b.result.lo b.result.hi r.lo r.hi (part-there d s r.lo r.hi c.requires.part)
    (inside_at (store_at d s) c.cells.result at.result len at.ensures.inside) b.ensures.block
    (part-above r.lo r.hi c.cells.result at.result b.result.lo at.ensures.first at.ensures.last r.ordered (part-inside d s r.lo r.hi c.cells.result c.requires.part len) b.ensures.above)
    (part-block d s r.lo r.hi c.cells.result at.result b.result.lo b.result.hi c.requires.part len b.ensures.block at.ensures.first at.ensures.last r.ordered b.ensures.below))

pub returns-clause-traced : goal.returns-clause-traced
returns-clause-traced g c =
    let d = c.args.dir.now in let b = c.host_block-block in let r = c.args.range in let s = c.args.store.id in let at = c.index_of-index in
    let len = len_at (store_at d s) c.shape.result.now c.cells.result c.shape.ensures c.cells.ensures.value in
    hosting-of d d c.acquire_read.new.dir s r.lo r.hi (home_at s 0 b.result.lo b.result.hi)
    (host-of d s at.result b.result.lo b.result.hi r.lo r.hi (part-there d s r.lo r.hi c.requires.part)
    (inside_at (store_at d s) c.cells.result at.result len at.ensures.inside) b.ensures.block
    (part-above r.lo r.hi c.cells.result at.result b.result.lo at.ensures.first at.ensures.last r.ordered (part-inside d s r.lo r.hi c.cells.result c.requires.part len) b.ensures.above)
    (part-block d s r.lo r.hi c.cells.result at.result b.result.lo b.result.hi c.requires.part len b.ensures.block at.ensures.first at.ensures.last r.ordered b.ensures.below))
    c.acquire_read.ensures.traced
