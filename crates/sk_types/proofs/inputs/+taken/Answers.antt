use Rattle.sk_typing_laws.proofs.Takes.{if_take, for_taken, take_turn, take_end}
use Rattle.sk_types.proofs.inputs.+taken.Goals as goal

pub take_inputs-loop-next-preserved : goal.take_inputs-loop-next-preserved
take_inputs-loop-next-preserved t c =
    take_turn c.args.statements.now c.args.inputs.now c.loop-next.next-index c.loop-next.least c.loop-next.inputs
    c.next-item.result c.in_ok-told.told c.earlier-least.result c.take_one.new.inputs
    c.loop-next.invariant c.next-item.is c.loop-next-test.true c.in_ok-told.ensures.told c.in_ok-told.ensures.seen c.earlier-least.ensures

pub take_inputs-returns-clause-told : goal.take_inputs-returns-clause-told
take_inputs-returns-clause-told t c =
    (take_end c.args.statements.now c.args.inputs.now c.loop-next.next-index c.loop-next.least c.loop-next.inputs
    c.loop-next.invariant c.loop-next-test.false).0

pub take_inputs-returns-clause-seen : goal.take_inputs-returns-clause-seen
take_inputs-returns-clause-seen t c =
    (take_end c.args.statements.now c.args.inputs.now c.loop-next.next-index c.loop-next.least c.loop-next.inputs
    c.loop-next.invariant c.loop-next-test.false).1

pub take_one-returns-in_ok-second-in-If-clause-told : goal.take_one-returns-in_ok-second-in-If-clause-told
take_one-returns-in_ok-second-in-If-clause-told t c =
    (if_take c.args.inputs.now c.take_inputs.new.inputs c.take_inputs-in-If.new.inputs c.args.statement.now c.in-If.field-0 c.in-If.one c.in-If.other
    c.in-If.is c.in_ok-first-in-If.first c.in_ok-second-in-If.second c.earlier.result
    (rw (← c.as_slice.ensures) c.in_ok-first-in-If.ensures.told)
    (rw (← c.as_slice.ensures) c.in_ok-first-in-If.ensures.seen)
    (rw (← c.as_slice-in-If.ensures) c.in_ok-second-in-If.ensures.told)
    (rw (← c.as_slice-in-If.ensures) c.in_ok-second-in-If.ensures.seen)
    c.earlier.ensures).0

pub take_one-returns-in_ok-second-in-If-clause-seen : goal.take_one-returns-in_ok-second-in-If-clause-seen
take_one-returns-in_ok-second-in-If-clause-seen t c =
    (if_take c.args.inputs.now c.take_inputs.new.inputs c.take_inputs-in-If.new.inputs c.args.statement.now c.in-If.field-0 c.in-If.one c.in-If.other
    c.in-If.is c.in_ok-first-in-If.first c.in_ok-second-in-If.second c.earlier.result
    (rw (← c.as_slice.ensures) c.in_ok-first-in-If.ensures.told)
    (rw (← c.as_slice.ensures) c.in_ok-first-in-If.ensures.seen)
    (rw (← c.as_slice-in-If.ensures) c.in_ok-second-in-If.ensures.told)
    (rw (← c.as_slice-in-If.ensures) c.in_ok-second-in-If.ensures.seen)
    c.earlier.ensures).1

pub take_one-returns-in-For-clause-told : goal.take_one-returns-in-For-clause-told
take_one-returns-in-For-clause-told t c =
    rw (for_taken c.args.statement.now c.in-For.field-0 c.in-For.field-1 c.in-For.field-2 c.in-For.body c.in-For.is, ← c.as_slice-in-For.ensures)
    c.take_inputs-in-For.ensures.told

pub take_one-returns-in-For-clause-seen : goal.take_one-returns-in-For-clause-seen
take_one-returns-in-For-clause-seen t c =
    rw (for_taken c.args.statement.now c.in-For.field-0 c.in-For.field-1 c.in-For.field-2 c.in-For.body c.in-For.is, ← c.as_slice-in-For.ensures)
    c.take_inputs-in-For.ensures.seen
