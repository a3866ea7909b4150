use Rattle.std.proofs.Common.{subst}
use Rattle.sk_host.proofs.Turning.{done-off, done-on}
use Rattle.sk_host.proofs.turn.step.Goals as goal
use Rattle.sk_host.specs.Points.{Does, point_at}
use Rattle.sk_host.specs.declared.machine.Lead.{Lead}

pub returns-in-Ok-Goes : goal.returns-in-Ok-Goes
returns-in-Ok-Goes c world sink mirrors unset left line =
    done-on c.args.program.now.object.now c.args.instr.now c.args.state.stand c.in-Ok-Goes.stand c.args.state.left c.args.state.line c.args.stack.now c.args.slots.now c.act.new.stack c.act.new.slots c.act.new.store world sink left line
    (subst (λ (lead : Lead). Does c.args.program.now.object.now c.args.instr.now (point_at c.args.state.stand c.args.stack.now c.args.slots.now world) lead c.act.new.stack c.act.new.slots c.act.new.store)
    c.in-Ok-Goes.field-0-is (c.in-Ok-Goes.ensures world mirrors unset))

pub returns-in-Ok-Traps : goal.returns-in-Ok-Traps
returns-in-Ok-Traps c world sink mirrors unset left line =
    done-off c.args.program.now.object.now c.args.instr.now c.args.state.stand c.in-Ok-Traps.trap c.in-Ok-Traps.element c.args.state.line c.args.stack.now c.args.slots.now c.act.new.stack c.act.new.slots c.act.new.store world sink line
    (subst (λ (lead : Lead). Does c.args.program.now.object.now c.args.instr.now (point_at c.args.state.stand c.args.stack.now c.args.slots.now world) lead c.act.new.stack c.act.new.slots c.act.new.store)
    c.in-Ok-Traps.field-0-is (c.in-Ok-Traps.ensures world mirrors unset))
