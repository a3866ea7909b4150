-- What a plan asks of one job.
use Rattle.std.specs.Prelude.{ℕ, ◌<◌, List, length, All, IfSome}
use Rattle.sk_ranks.specs.RankMachine.{Needs, after_at}
use Rattle.sk_ranks.specs.declared.plan.Message.{Message}

-- the job with this number waits for earlier jobs, and for messages that wait for none or an earlier one
pub record IsOrdered (all : List Message) (number : ℕ) (needs : Needs) : Type 0 where
  pub after : All (λ i. i < number) needs.after
  pub before : All (λ m. (m < length all) × IfSome (after_at all m) (λ i. i < number)) needs.messages
