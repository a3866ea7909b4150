use Rattle.std.proofs.Common.{refl}
use Rattle.sk_coherence_laws.specs.HostBlocks.{home_at}
use Rattle.sk_container.proofs.HostLines.{traces-serving}
use Rattle.sk_container.proofs.host.acquire_read.Goals as goal

pub returns-in-Ok-clause-traced : goal.returns-in-Ok-clause-traced
returns-in-Ok-clause-traced g c = let b = c.args.block in
    traces-serving c.args.dir.now c.acquire_read.new.self (home_at c.args.store.id 0 b.lo b.hi) c.args.need.lo c.args.need.hi refl c.acquire_read.ensures.traced

pub returns-in-Err-clause-traced : goal.returns-in-Err-clause-traced
returns-in-Err-clause-traced g c = let b = c.args.block in
    traces-serving c.args.dir.now c.acquire_read.new.self (home_at c.args.store.id 0 b.lo b.hi) c.args.need.lo c.args.need.hi refl c.acquire_read.ensures.traced
