use Rattle.std.proofs.Common.{◌≡◌, min, arith, rules}
use Rattle.sk_coherence_laws.specs.Directory.{store_at}
use Rattle.sk_coherence_laws.proofs.FreeLemmas.{store_listed}
use Rattle.sk_coherence_laws.proofs.ServesLemmas.{idle-reserve}
use Rattle.sk_coherence.proofs.RetreatLemmas.{retreats-trans, retreats-idle, retreats-place, way-can, way-owns, way-back, can-on, owns-on}
use Rattle.sk_coherence.proofs.WayLemmas.{index_inside, block_around, back-home}
use Rattle.sk_coherence_laws.specs.HostBlocks.{home_at}
use Rattle.sk_coherence.proofs.directory.Directory.way_back.Goals as goal

pub host_block-block-requires-clause-there : goal.host_block-block-requires-clause-there
host_block-block-requires-clause-there g c = store_listed c.args.self.now c.args.copy.id c.store_of-store.result.id c.is_sound.ensures c.store_of-store.ensures

pub host_block-block-requires-clause-inside : goal.host_block-block-requires-clause-inside
host_block-block-requires-clause-inside g c = index_inside c.args.self.now c.args.copy.id c.store_of-store.result.id c.args.run.lo c.args.run.hi c.is_sound.ensures c.requires.there
    c.store_of-store.ensures c.requires.reaches c.requires.some

pub host_copy-requires-clause-there : goal.host_copy-requires-clause-there
host_copy-requires-clause-there g c = store_listed c.args.self.now c.args.copy.id c.store_of-store.result.id c.is_sound.ensures c.store_of-store.ensures

pub host_copy-requires-clause-block : goal.host_copy-requires-clause-block
host_copy-requires-clause-block g c = let e = c.host_block-block.ensures in
    block_around (store_at c.args.self.now c.store_of-store.result.id) c.host_block-block.result.lo c.host_block-block.result.hi c.args.run.lo e.above e.below e.within

pub returns-in_err-to-clause-retreats : goal.returns-in_err-to-clause-retreats
returns-in_err-to-clause-retreats g c = let b = c.host_block-block.result in let e = c.host_copy.ensures in
    retreats-place c.args.self.now c.host_copy.new.self c.args.copy.id (home_at c.store_of-store.result.id 0 b.lo b.hi) c.requires.there
    (back-home c.args.self.now c.args.copy.id c.store_of-store.result.id c.args.run.lo c.host_block-block.result.lo c.host_block-block.result.hi c.store_of-store.ensures
    (c.requires.owns c.args.run.lo (omega arith) c.requires.some)
    (store_listed c.args.self.now c.args.copy.id c.store_of-store.result.id c.is_sound.ensures c.store_of-store.ensures)
    (index_inside c.args.self.now c.args.copy.id c.store_of-store.result.id c.args.run.lo c.args.run.hi c.is_sound.ensures c.requires.there
    c.store_of-store.ensures c.requires.reaches c.requires.some)
    c.host_block-block.ensures.block)
    e.serves e.stays e.places e.traced

pub returns-in_err-reserve-clause-retreats : goal.returns-in_err-reserve-clause-retreats
returns-in_err-reserve-clause-retreats g c = let b = c.host_block-block.result in let e = c.host_copy.ensures in let r = c.reserve.ensures in
    retreats-trans c.args.self.now c.host_copy.new.self c.reserve.new.self c.args.copy.id c.is_sound.ensures
    (retreats-place c.args.self.now c.host_copy.new.self c.args.copy.id (home_at c.store_of-store.result.id 0 b.lo b.hi) c.requires.there
    (back-home c.args.self.now c.args.copy.id c.store_of-store.result.id c.args.run.lo c.host_block-block.result.lo c.host_block-block.result.hi c.store_of-store.ensures
    (c.requires.owns c.args.run.lo (omega arith) c.requires.some)
    (store_listed c.args.self.now c.args.copy.id c.store_of-store.result.id c.is_sound.ensures c.store_of-store.ensures)
    (index_inside c.args.self.now c.args.copy.id c.store_of-store.result.id c.args.run.lo c.args.run.hi c.is_sound.ensures c.requires.there
    c.store_of-store.ensures c.requires.reaches c.requires.some)
    c.host_block-block.ensures.block)
    e.serves e.stays e.places e.traced)
    (retreats-idle c.host_copy.new.self c.reserve.new.self c.args.copy.id (idle-reserve c.host_copy.new.self c.reserve.new.self r.same r.spaces r.kept))

pub returns-clause-retreats : goal.returns-clause-retreats
returns-clause-retreats g c = let b = c.host_block-block.result in let e = c.host_copy.ensures in let r = c.reserve.ensures in
    retreats-trans c.args.self.now c.host_copy.new.self c.reserve.new.self c.args.copy.id c.is_sound.ensures
    (retreats-place c.args.self.now c.host_copy.new.self c.args.copy.id (home_at c.store_of-store.result.id 0 b.lo b.hi) c.requires.there
    (back-home c.args.self.now c.args.copy.id c.store_of-store.result.id c.args.run.lo c.host_block-block.result.lo c.host_block-block.result.hi c.store_of-store.ensures
    (c.requires.owns c.args.run.lo (omega arith) c.requires.some)
    (store_listed c.args.self.now c.args.copy.id c.store_of-store.result.id c.is_sound.ensures c.store_of-store.ensures)
    (index_inside c.args.self.now c.args.copy.id c.store_of-store.result.id c.args.run.lo c.args.run.hi c.is_sound.ensures c.requires.there
    c.store_of-store.ensures c.requires.reaches c.requires.some)
    c.host_block-block.ensures.block)
    e.serves e.stays e.places e.traced)
    (retreats-idle c.host_copy.new.self c.reserve.new.self c.args.copy.id (idle-reserve c.host_copy.new.self c.reserve.new.self r.same r.spaces r.kept))

pub returns-clause-can : goal.returns-clause-can
returns-clause-can g c = let b = c.host_block-block.result in let e = c.host_copy.ensures in
    let m : c.min-hi.result ≡ min c.args.run.hi b.hi = search rules in
    can-on c.host_copy.new.self c.reserve.new.self c.reserve.ensures.same c.args.copy.id c.in_ok-to.to.id c.args.run.lo c.min-hi.result
    (way-can c.args.self.now c.host_copy.new.self c.args.copy.id c.store_of-store.result.id c.in_ok-to.to.id c.args.run.lo c.args.run.hi b.lo c.min-hi.result b.hi
    c.requires.there c.requires.far c.store_of-store.ensures c.requires.reaches c.requires.owns e.places c.in_ok-to.ensures.home
    c.host_block-block.ensures.above (omega (arith, m)) (omega (arith, m)))

pub returns-clause-owns : goal.returns-clause-owns
returns-clause-owns g c = let b = c.host_block-block.result in let e = c.host_copy.ensures in
    let m : c.min-hi.result ≡ min c.args.run.hi b.hi = search rules in
    owns-on c.host_copy.new.self c.reserve.new.self c.reserve.ensures.same c.args.copy.id c.args.run.lo c.min-hi.result
    (way-owns c.args.self.now c.host_copy.new.self c.args.copy.id c.store_of-store.result.id c.in_ok-to.to.id c.args.run.lo c.args.run.hi b.lo c.min-hi.result b.hi
    c.requires.there c.requires.far c.store_of-store.ensures c.requires.reaches c.requires.owns e.places c.in_ok-to.ensures.home
    c.host_block-block.ensures.above (omega (arith, m)) (omega (arith, m)))

pub returns-clause-back : goal.returns-clause-back
returns-clause-back g c = let b = c.host_block-block.result in let e = c.host_copy.ensures in let r = c.reserve.ensures in
    way-back c.args.self.now c.host_copy.new.self c.reserve.new.self c.args.copy.id c.in_ok-to.to.id (home_at c.store_of-store.result.id 0 b.lo b.hi) c.requires.there
    (back-home c.args.self.now c.args.copy.id c.store_of-store.result.id c.args.run.lo c.host_block-block.result.lo c.host_block-block.result.hi c.store_of-store.ensures
    (c.requires.owns c.args.run.lo (omega arith) c.requires.some)
    (store_listed c.args.self.now c.args.copy.id c.store_of-store.result.id c.is_sound.ensures c.store_of-store.ensures)
    (index_inside c.args.self.now c.args.copy.id c.store_of-store.result.id c.args.run.lo c.args.run.hi c.is_sound.ensures c.requires.there
    c.store_of-store.ensures c.requires.reaches c.requires.some)
    c.host_block-block.ensures.block)
    e.serves e.places c.in_ok-to.ensures.home (idle-reserve c.host_copy.new.self c.reserve.new.self r.same r.spaces r.kept)
