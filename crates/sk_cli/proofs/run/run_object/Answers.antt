-- Where memory was wanting for the line of a run that ended, all that the run prints was printed.
use Rattle.std.proofs.Common.{[], false, inr}
use Rattle.sk_cli.proofs.Runs.{ended-wants, ran-of_run}
use Rattle.sk_cli.specs.Answer.{statement_limit}
use Rattle.sk_main_code.specs.MainSteps.{coded_of}
use Rattle.sk_world.specs.World.{Trapped, Bound}
use Rattle.sk_cli.proofs.run.run_object.Goals as goal

pub returns-in-Trapped-clause-memory : goal.returns-in-Trapped-clause-memory
returns-in-Trapped-clause-memory g c wanting =
    ended-wants (coded_of c.args.object.now [] statement_limit false) (g.O.Sink.holds c.args.out.now) (g.O.Sink.holds c.execute.new.out)
    (g.E.Sink.holds c.args.err.now) (g.E.Sink.holds c.tell_trap.new.err) (Trapped c.in-Trapped.trap c.in-Trapped.line c.in-Trapped.element)
    c.in-Trapped.ensures c.tell_trap.ensures.prefix

pub returns-in-Bound-clause-memory : goal.returns-in-Bound-clause-memory
returns-in-Bound-clause-memory g c wanting =
    ended-wants (coded_of c.args.object.now [] statement_limit false) (g.O.Sink.holds c.args.out.now) (g.O.Sink.holds c.execute.new.out)
    (g.E.Sink.holds c.args.err.now) (g.E.Sink.holds c.tell_numbered.new.err) Bound c.in-Bound.ensures c.tell_numbered.ensures.prefix

pub returns-in-SinkFault-clause-memory : goal.returns-in-SinkFault-clause-memory
returns-in-SinkFault-clause-memory g c wanting = record {
  printed = c.in-SinkFault.ensures.1;
  told = inr (inr (ran-of_run (coded_of c.args.object.now [] statement_limit false), c.in-SinkFault.ensures.0, c.tell_write_fault.ensures.prefix));
}
