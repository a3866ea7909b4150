use Rattle.sk_container.proofs.Lists.{held-written}
use Rattle.sk_container_rows.proofs.elements.write.Goals as goal

pub write-requires : goal.write-requires
write-requires c = record { store = c.requires.1.store }

pub returns : goal.returns
returns c = held-written c.args.dir.now c.write.new.dir c.args.smart.now c.args.place.now _ c.write.result c.write.ensures.written c.write.ensures.err c.requires
