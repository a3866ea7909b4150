use Rattle.sk_ranks.proofs.OrderLemmas.{AreOrdered}
use Rattle.sk_ranks.proofs.order.is_plan.Given as goal

abbrev pub invariant-jobs : goal.invariant-jobs
invariant-jobs l = AreOrdered l.messages l.jobs l.number
