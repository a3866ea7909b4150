use Rattle.sk_container.proofs.Lists.{place-owned, served-held}
use Rattle.sk_container_rows.proofs.elements.read.Goals as goal

pub read-requires-clause-store : goal.read-requires-clause-store
read-requires-clause-store c = c.requires.1.store

pub read-requires-clause-owned : goal.read-requires-clause-owned
read-requires-clause-owned c = place-owned c.args.dir.now c.args.smart.now c.args.place.now c.requires

pub returns : goal.returns
returns c = (c.requires.0, served-held c.args.dir.now c.read.new.dir c.args.smart.now c.requires.0 c.read.ensures.serves c.requires.1)
