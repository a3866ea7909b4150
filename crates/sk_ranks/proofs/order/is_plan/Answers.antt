use Rattle.std.proofs.Common.{sym, ◌∙◌, refl}
use Rattle.std.proofs.lemmas.Bool.{false≢true}
use Rattle.sk_ranks.proofs.OrderLemmas.{AreOrdered-more, AreOrdered-plan, plan-ordered}
use Rattle.sk_ranks.proofs.order.is_plan.Goals as goal

pub returns-then-not-is_ordered : goal.returns-then-not-is_ordered
returns-then-not-is_ordered c = (
  λ e. absurd (false≢true e),
  λ plan. sym c.if-not-is_ordered.true ∙ c.is_ordered.ensures.1 (plan-ordered c.args.messages.now c.args.jobs.now c.jobs.number c.index-jobs-number.result plan c.jobs-test.true c.index-jobs-number.is),
)

pub jobs-preserved : goal.jobs-preserved
jobs-preserved c =
    AreOrdered-more c.args.messages.now c.args.jobs.now c.jobs.number c.index-jobs-number.result c.jobs.invariant c.jobs-test.true c.index-jobs-number.is (c.is_ordered.ensures.0 c.if-not-is_ordered.false)

pub returns : goal.returns
returns c = (
  λ e. AreOrdered-plan c.args.messages.now c.args.jobs.now c.jobs.number (c.have_senders.ensures.0 c.if-not-have_senders.false) c.jobs.invariant c.jobs-test.false,
  λ plan. refl,
)
