use Rattle.std.proofs.Common.{[], length, arith, pos, slice_index_or, subst, sym, ℕ}
use Rattle.sk_columns.specs.Blocks.{Proceeds}
use Rattle.sk_columns.specs.Locals.{stored_in}
use Rattle.sk_columns.proofs.Proceeding.{given}
use Rattle.sk_columns.proofs.statements.body.Goals as goal

pub returns-in-Some : goal.returns-in-Some
returns-in-Some g c = λ done place inside.
    let known = g.L.Lanes.known c.args.code.now.lanes.now place in
    let block = length c.args.first.now in
    given c.args.code.now.instrs.now (stored_in c.args.least c.args.locals.now c.args.kept.now block place known)
    (stored_in c.args.least c.statements.new.locals c.statements.new.kept (length c.statements.new.first) place known)
    c.in-Some.from c.args.end (slice_index_or c.arm.new.row place (pos 0)) c.requires.ends
    (subst (λ (n : ℕ). Proceeds c.args.code.now.instrs.now (stored_in c.args.least c.args.locals.now c.args.kept.now block place known) 0
    (stored_in c.args.least c.statements.new.locals c.statements.new.kept n place known) c.in-Some.from) (sym c.statements.auto.first) (c.in-Some.ensures place inside))
    (c.arm.ensures done place (omega (arith, c.statements.auto.first, inside)) [])
