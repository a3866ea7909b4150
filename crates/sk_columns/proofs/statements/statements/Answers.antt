use Rattle.std.proofs.Common.{◌≡◌, ◌<◌, arith, length, subst, sym, ℕ}
use Rattle.sk_columns.specs.Blocks.{Proceeds}
use Rattle.sk_columns.specs.Locals.{stored_in}
use Rattle.sk_columns.proofs.Proceeding.{followed_by, stays}
use Rattle.sk_columns.proofs.statements.statements.Goals as goal

pub loop-at-init : goal.loop-at-init
loop-at-init g c = λ place inside. stays _ _ _

pub loop-at-preserved : goal.loop-at-preserved
loop-at-preserved g c = λ place inside.
    let known = g.L.Lanes.known c.args.code.now.lanes.now place in
    let long : length c.statement.new.first ≡ length c.loop-at.first = c.statement.auto.first in
    let before : place < length c.loop-at.first = omega (arith, long, inside) in
    let begun = stored_in c.args.least c.args.locals.now c.args.kept.now (length c.args.first.now) place known in
    let middle = stored_in c.args.least c.loop-at.locals c.loop-at.kept (length c.loop-at.first) place known in
    subst (λ (n : ℕ). Proceeds c.args.code.now.instrs.now begun 0 (stored_in c.args.least c.statement.new.locals c.statement.new.kept n place known) c.in-Some.next) (sym long)
    (followed_by c.args.code.now.instrs.now begun middle (stored_in c.args.least c.statement.new.locals c.statement.new.kept (length c.loop-at.first) place known)
    0 c.loop-at.from c.in-Some.next (c.loop-at.invariant place before) (c.in-Some.ensures place before))
