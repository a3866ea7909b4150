use Rattle.sk_ranks.proofs.BuildLemmas.{SendsSoFar}
use Rattle.sk_ranks.proofs.sends.Sends.new.Given as goal

abbrev pub invariant-messages : goal.invariant-messages
invariant-messages l = SendsSoFar l.messages l.jobs l.number l.ready l.after
