use Rattle.std.proofs.Common.{[], length, refl}
use Rattle.sk_columns.proofs.Proceeding.{stores-kept}
use Rattle.sk_columns.proofs.statements.store.Goals as goal

pub returns-in-Some : goal.returns-in-Some
returns-in-Some g c = λ done place inside.
    stores-kept c.args.code.now.instrs.now (g.L.Lanes.known c.args.code.now.lanes.now place) c.args.least c.args.from c.args.at c.args.slot c.in-Some.level c.value.new.first
    c.args.locals.now c.keep.new.levels c.args.kept.now c.keep.new.rows (length c.args.first.now) place c.requires.found c.if-slot-least.false c.value.auto.first (c.keep.ensures done)
    inside (c.if-not-is_known.ensures refl place inside) (c.in-Some.ensures place inside [])
