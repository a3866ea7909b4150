use Rattle.std.proofs.Common.{◌∙◌}
use Rattle.sk_host.proofs.Going.{starts}
use Rattle.sk_host.proofs.run.execute.Goals as goal

pub run-requires-clause-underway : goal.run-requires-clause-underway
run-requires-clause-underway g c =
    starts c.args.object.now c.requires.sound c.requires.vectors c.args.bound c.deref_mut.result.now c.deref_mut-2.result.now c.deref_mut-3.result.now
    (g.O.Sink.holds c.args.out.now)
    (record {
      stack_is = c.deref_mut.ensures.value ∙ c.in-Ok.ensures.fresh.stack_is;
      slots_is = c.deref_mut-2.ensures.value ∙ c.in-Ok.ensures.fresh.slots_is;
      store_is = c.deref_mut-3.ensures.value ∙ c.in-Ok.ensures.fresh.store_is;
    })
