use Rattle.sk_vm.proofs.Parameters.{held-pairs, held-places}
use Rattle.sk_vm.proofs.lent.Lent.element.Goals as goal

pub column-requires-clause-held : goal.column-requires-clause-held
column-requires-clause-held g c =
    let lent = c.args.self.now in
    held-places (g.D.Data.means lent.source.now) lent.elements lent.pairs lent.place lent.pair lent.scalars lent.places c.args.slot c.if-not-self.true c.requires.lends
    c.if-slot-self.false c.if-slot-self-2.false

pub column-requires-then-slot-eq1-clause-held : goal.column-requires-then-slot-eq1-clause-held
column-requires-then-slot-eq1-clause-held g c =
    let lent = c.args.self.now in
    held-pairs (g.D.Data.means lent.source.now) lent.elements lent.pairs lent.place lent.pair lent.scalars lent.places c.args.slot c.if-not-self.false c.if-slot-eq1.true c.requires.lends
    c.if-slot-self.false c.if-slot-self-2.false
