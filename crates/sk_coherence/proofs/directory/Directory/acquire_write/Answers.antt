use Rattle.std.proofs.Common.{arith}
use Rattle.sk_spaces.specs.Machine.{Home}
use Rattle.sk_coherence_laws.specs.HostBlocks.{home_at}
use Rattle.sk_coherence_laws.proofs.AcquireLemmas.{store-stays}
use Rattle.sk_coherence_laws.proofs.ServesLemmas.{serves-trans}
use Rattle.sk_coherence.proofs.RoomLemmas.{block-stays, traces-yielding, traces-way-yielding}
use Rattle.sk_coherence.proofs.LeftLemmas.{left-owed, only-owed, only-trans}
use Rattle.sk_coherence.proofs.directory.Directory.acquire_write.Goals as goal

pub acquire_write_here-requires-clause-there : goal.acquire_write_here-requires-clause-there
acquire_write_here-requires-clause-there g c = store-stays c.args.self.now c.find_room.new.self c.args.store.id c.find_room.ensures.serves c.requires.there

pub acquire_write_here-requires-clause-block : goal.acquire_write_here-requires-clause-block
acquire_write_here-requires-clause-block g c = block-stays c.args.self.now c.find_room.new.self c.args.store.id c.args.block.lo c.args.block.hi c.find_room.ensures.serves c.requires.block

pub acquire_write_here-requires-clause-ranks : goal.acquire_write_here-requires-clause-ranks
acquire_write_here-requires-clause-ranks g c = omega (arith, c.requires.ranks, c.find_room.ensures.serves.ranks)

pub returns-in-Ok-clause-ok : goal.returns-in-Ok-clause-ok
returns-in-Ok-clause-ok g c = let e = c.in-Ok.ensures.ok in record {
  before = e.before;
  serves = serves-trans c.args.self.now c.find_room.new.self e.before c.is_sound.ensures c.find_room.ensures.serves e.serves;
  owes = e.owes;
}

pub returns-in-Err-clause-err : goal.returns-in-Err-clause-err
returns-in-Err-clause-err g c = serves-trans c.args.self.now c.find_room.new.self c.acquire_write_here.new.self c.is_sound.ensures c.find_room.ensures.serves c.in-Err.ensures.err

pub returns-in-Ok-clause-traced : goal.returns-in-Ok-clause-traced
returns-in-Ok-clause-traced g c =
    let home : Home = home_at c.args.store.id c.args.space c.args.block.lo c.args.block.hi in
    traces-yielding c.args.self.now c.find_room.new.self c.acquire_write_here.new.self home c.find_room.ensures.traced c.acquire_write_here.ensures.traced

pub returns-in-Err-clause-traced : goal.returns-in-Err-clause-traced
returns-in-Err-clause-traced g c =
    let home : Home = home_at c.args.store.id c.args.space c.args.block.lo c.args.block.hi in
    traces-yielding c.args.self.now c.find_room.new.self c.acquire_write_here.new.self home c.find_room.ensures.traced c.acquire_write_here.ensures.traced

pub returns-in_err-find_room-clause-traced : goal.returns-in_err-find_room-clause-traced
returns-in_err-find_room-clause-traced g c =
    let home : Home = home_at c.args.store.id c.args.space c.args.block.lo c.args.block.hi in
    traces-way-yielding c.args.self.now c.find_room.new.self home c.find_room.ensures.traced

pub returns-in-Ok-clause-kept : goal.returns-in-Ok-clause-kept
returns-in-Ok-clause-kept g c =
    left-owed c.args.self.now c.find_room.new.self c.acquire_write_here.new.self c.args.store.id c.in-Ok.copy.id c.args.space c.is_sound.ensures c.find_room.ensures.serves c.in-Ok.ensures.ok
    c.in_ok-find_room.ensures.kept c.in-Ok.ensures.kept

pub returns-in-Ok-clause-made : goal.returns-in-Ok-clause-made
returns-in-Ok-clause-made g c =
    let home : Home = home_at c.args.store.id c.args.space c.args.block.lo c.args.block.hi in
    only-owed c.args.self.now c.find_room.new.self c.acquire_write_here.new.self home c.args.store.id c.in-Ok.copy.id c.find_room.ensures.serves c.in-Ok.ensures.ok c.find_room.ensures.made
    c.acquire_write_here.ensures.made

pub returns-in-Err-clause-made : goal.returns-in-Err-clause-made
returns-in-Err-clause-made g c =
    let home : Home = home_at c.args.store.id c.args.space c.args.block.lo c.args.block.hi in
    only-trans c.args.self.now c.find_room.new.self c.acquire_write_here.new.self home c.find_room.ensures.serves c.in-Err.ensures.err c.find_room.ensures.made c.acquire_write_here.ensures.made
