use Rattle.sk_types.specs.Told.{seen}
use Rattle.sk_typing_laws.proofs.Walks.{if_told, for_told, for_names, walk_turn, walk_end, walk_left}
use Rattle.sk_types.proofs.statement.+walked.Goals as goal

pub walk-returns-in_ok-second-in-If-clause-told : goal.walk-returns-in_ok-second-in-If-clause-told
walk-returns-in_ok-second-in-If-clause-told t c =
    if_told (seen c.args.around.now) (seen c.at-here.result) (seen c.inside-inner.result) c.args.scopes.now c.args.statement.now
    c.in-If.test c.in-If.one c.in-If.other c.in-If.is c.at-here.ensures c.inside-inner.ensures
    c.in_ok-tested-in-If.tested c.in_ok-first-in-If.first c.in_ok-second-in-If.second c.earlier-in-If.result
    c.in_ok-tested-in-If.ensures
    (rw (← c.as_slice-in-If.ensures) c.in_ok-first-in-If.ensures.told)
    (rw (← c.as_slice-in-If-2.ensures, ← c.in_ok-first-in-If.ensures.names) c.in_ok-second-in-If.ensures.told)
    (rw (← c.earlier.ensures) c.earlier-in-If.ensures)

pub walk-returns-in_ok-stepped-in-For-clause-told : goal.walk-returns-in_ok-stepped-in-For-clause-told
walk-returns-in_ok-stepped-in-For-clause-told t c =
    for_told (seen c.args.around.now) (seen c.at-here.result) (seen c.inside-inner-in-For.result) c.args.scopes.now c.args.statement.now
    c.in-For.first c.in-For.test c.in-For.step c.in-For.body c.in-For.is c.at-here.ensures c.inside-inner-in-For.ensures
    c.in_ok-begun-in-For.begun c.in_ok-tested-in-For.tested c.in_ok-turned-in-For.turned c.in_ok-stepped-in-For.stepped
    c.earlier-in-For-3.result
    (rw (← c.get.ensures) c.in_ok-begun-in-For.ensures.told)
    (rw (← c.get.ensures, ← c.in_ok-begun-in-For.ensures.names) c.in_ok-tested-in-For.ensures)
    (rw (← c.get.ensures, ← c.in_ok-begun-in-For.ensures.names, ← c.as_slice-in-For.ensures) c.in_ok-turned-in-For.ensures.told)
    (rw (← c.get.ensures, ← c.in_ok-begun-in-For.ensures.names, ← c.in_ok-turned-in-For.ensures.names, ← c.get-in-For.ensures) c.in_ok-stepped-in-For.ensures.told)
    (rw (← c.earlier-in-For.ensures, ← c.earlier-in-For-2.ensures) c.earlier-in-For-3.ensures)

pub walk-returns-in_ok-stepped-in-For-clause-names : goal.walk-returns-in_ok-stepped-in-For-clause-names
walk-returns-in_ok-stepped-in-For-clause-names t c =
    for_names (seen c.args.around.now) (seen c.inside-inner-in-For.result) c.args.scopes.now c.args.statement.now
    c.in-For.first c.in-For.test c.in-For.step c.in-For.body c.in-For.is
    c.walk-in-For.new.scopes c.leave.new.self
    (rw (← c.get.ensures, ← c.in_ok-begun-in-For.ensures.names, ← c.in_ok-turned-in-For.ensures.names, ← c.get-in-For.ensures) c.in_ok-stepped-in-For.ensures.names)
    (rw (← c.depth-depth.ensures) c.leave.ensures)

pub walk_block-loop-next-preserved : goal.walk_block-loop-next-preserved
walk_block-loop-next-preserved t c =
    walk_turn (seen c.args.around.now) c.args.statements.now c.args.scopes.now c.loop-next.next-index c.loop-next.least c.loop-next.scopes
    c.next-item.result c.in_ok-told.told c.earlier-least.result c.walk.new.scopes
    c.loop-next.invariant c.next-item.is c.loop-next-test.true c.in_ok-told.ensures.told c.in_ok-told.ensures.names c.earlier-least.ensures

pub walk_block-returns-clause-names : goal.walk_block-returns-clause-names
walk_block-returns-clause-names t c =
    walk_left (seen c.args.around.now) c.args.statements.now c.args.scopes.now c.loop-next.scopes c.leave.new.self
    (walk_end (seen c.args.around.now) c.args.statements.now c.args.scopes.now c.loop-next.next-index c.loop-next.least c.loop-next.scopes
    c.loop-next.invariant c.loop-next-test.false).1
    (rw (← c.depth-depth.ensures) c.leave.ensures)
