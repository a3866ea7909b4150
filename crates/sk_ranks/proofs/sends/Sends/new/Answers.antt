use Rattle.std.proofs.Common.{arith}
use Rattle.sk_ranks.proofs.BuildLemmas.{SendsSoFar-free, SendsSoFar-waiting, SendsSoFar-all}
use Rattle.sk_ranks.proofs.sends.Sends.new.Goals.{in-Some+in_ok-add-in-Some, in-None}
use Rattle.sk_ranks.proofs.sends.Sends.new.Goals as goal

pub messages-preserved : goal.messages-preserved
messages-preserved c = elim c.match-message.branch [
  | in-Some+in_ok-add-in-Some w ↦ rw (w.ready-is, w.after-is)
      (SendsSoFar-waiting c.args.messages.now c.args.jobs c.messages.number _ c.messages.ready c.messages.after _ c.index-messages-number.result c.messages.invariant c.messages-test.true c.index-messages-number.is w.in-Some.is w.in_ok-add-in-Some.ensures)
  | in-None w ↦ rw (w.ready-is, w.after-is)
      (SendsSoFar-free c.args.messages.now c.args.jobs c.messages.number c.messages.ready _ c.messages.after c.index-messages-number.result c.messages.invariant c.messages-test.true c.index-messages-number.is w.in-None.is w.insert.ensures)
]

pub returns : goal.returns
returns c = SendsSoFar-all c.args.messages.now c.args.jobs c.messages.number _ c.messages.invariant (omega arith)
