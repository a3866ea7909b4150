use Rattle.std.proofs.Common.{◌+◌, ◌*◌, ◌^◌, length}
use Rattle.sk_host.proofs.run.run.Given as goal
use Rattle.sk_host.specs.Underway.{IsUnderway}
use Rattle.sk_main_laws.specs.Ranks.{main_rank}

abbrev pub invariant-loop-next : goal.invariant-loop-next
invariant-loop-next g l =
    IsUnderway l.program.object.now l.bound l.state (record { stack = l.stack; slots = l.slots; store = l.store })
    (g.O.Sink.holds l.fn.out) (g.O.Sink.holds l.out)

abbrev pub decreases-loop-next : goal.decreases-loop-next
decreases-loop-next g l = l.state.left * 2 ^ length l.program.object.now.main.instrs + main_rank l.program.object.now.main.instrs l.state.stand.at
