use Rattle.sk_index_rows.proofs.IndexedObject.{indexed-there}
use Rattle.sk_index_rows.proofs.places.frame.Goals as goal

pub new-requires-clause-there : goal.new-requires-clause-there
new-requires-clause-there c = indexed-there c.args.object.now c.args.function c.requires.indexed c.requires.there
