use Rattle.sk_spaces.specs.Machine.{Home}
use Rattle.sk_coherence_laws.specs.HostBlocks.{home_at}
use Rattle.sk_coherence_laws.proofs.ServesLemmas.{serves-trans}
use Rattle.sk_coherence.proofs.LaterLemmas.{traces-way-later, traces-later}
use Rattle.sk_coherence.proofs.RoomLemmas.{owned-stays}
use Rattle.sk_coherence.proofs.PinnedLemmas.{but-trans}
use Rattle.sk_coherence.proofs.LeftLemmas.{left-acquired, only-acquired, only-trans}
use Rattle.sk_coherence.proofs.directory.Directory.acquire_later.Goals as goal

pub acquire_later_here-requires-clause-owned : goal.acquire_later_here-requires-clause-owned
acquire_later_here-requires-clause-owned g c =
    λ i above below. owned-stays c.args.self.now c.find_room.new.self c.args.store.id i c.find_room.ensures.serves (c.requires.owned i above below)

pub returns-in-Ok-clause-ok : goal.returns-in-Ok-clause-ok
returns-in-Ok-clause-ok g c =
    let e = c.in-Ok.ensures.ok in
    record { before = e.before; serves = serves-trans c.args.self.now c.find_room.new.self e.before c.is_sound.ensures c.find_room.ensures.serves e.serves; there = e.there; pins = e.pins }

pub returns-in-Err-clause-err : goal.returns-in-Err-clause-err
returns-in-Err-clause-err g c =
    serves-trans c.args.self.now c.find_room.new.self c.acquire_later_here.new.self c.is_sound.ensures c.find_room.ensures.serves c.in-Err.ensures.err

pub returns-in-Ok-clause-others : goal.returns-in-Ok-clause-others
returns-in-Ok-clause-others g c =
    but-trans c.args.self.now c.find_room.new.self c.acquire_later_here.new.self (home_at c.args.store.id c.args.space c.args.block.lo c.args.block.hi)
    c.find_room.ensures.serves c.find_room.ensures.pinned c.acquire_later_here.ensures.others

pub returns-in_err-find_room-clause-far : goal.returns-in_err-find_room-clause-far
returns-in_err-find_room-clause-far g c =
    let home : Home = home_at c.args.store.id c.args.space c.args.block.lo c.args.block.hi in
    λ far. traces-way-later c.args.self.now c.find_room.new.self home c.args.need.lo c.args.need.hi c.find_room.ensures.traced

pub returns-in-Ok-clause-far : goal.returns-in-Ok-clause-far
returns-in-Ok-clause-far g c =
    let home : Home = home_at c.args.store.id c.args.space c.args.block.lo c.args.block.hi in
    λ far. traces-later c.args.self.now c.find_room.new.self c.acquire_later_here.new.self home c.args.need.lo c.args.need.hi far c.find_room.ensures.serves c.find_room.ensures.made
    c.find_room.ensures.traced c.acquire_later_here.ensures.traced

pub returns-in-Err-clause-far : goal.returns-in-Err-clause-far
returns-in-Err-clause-far g c =
    let home : Home = home_at c.args.store.id c.args.space c.args.block.lo c.args.block.hi in
    λ far. traces-later c.args.self.now c.find_room.new.self c.acquire_later_here.new.self home c.args.need.lo c.args.need.hi far c.find_room.ensures.serves c.find_room.ensures.made
    c.find_room.ensures.traced c.acquire_later_here.ensures.traced

pub returns-in-Ok-clause-kept : goal.returns-in-Ok-clause-kept
returns-in-Ok-clause-kept g c =
    let home : Home = home_at c.args.store.id c.args.space c.args.block.lo c.args.block.hi in
    left-acquired c.args.self.now c.find_room.new.self c.acquire_later_here.new.self home c.in-Ok.later.0.id c.is_sound.ensures c.find_room.ensures.serves c.in-Ok.ensures.ok
    c.in_ok-find_room.ensures.kept c.in-Ok.ensures.kept

pub returns-in-Ok-clause-made : goal.returns-in-Ok-clause-made
returns-in-Ok-clause-made g c =
    let home : Home = home_at c.args.store.id c.args.space c.args.block.lo c.args.block.hi in
    only-acquired c.args.self.now c.find_room.new.self c.acquire_later_here.new.self home c.in-Ok.later.0.id c.find_room.ensures.serves c.in-Ok.ensures.ok c.find_room.ensures.made
    c.acquire_later_here.ensures.made

pub returns-in-Err-clause-made : goal.returns-in-Err-clause-made
returns-in-Err-clause-made g c =
    let home : Home = home_at c.args.store.id c.args.space c.args.block.lo c.args.block.hi in
    only-trans c.args.self.now c.find_room.new.self c.acquire_later_here.new.self home c.find_room.ensures.serves c.in-Err.ensures.err c.find_room.ensures.made c.acquire_later_here.ensures.made

pub returns-in-Err-clause-others : goal.returns-in-Err-clause-others
returns-in-Err-clause-others g c =
    but-trans c.args.self.now c.find_room.new.self c.acquire_later_here.new.self (home_at c.args.store.id c.args.space c.args.block.lo c.args.block.hi)
    c.find_room.ensures.serves c.find_room.ensures.pinned c.acquire_later_here.ensures.others
