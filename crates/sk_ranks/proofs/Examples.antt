-- A worked example of a run of acts, by evaluation.
use Rattle.std.proofs.Common.{◌≡◌, List, [], ◌∷◌, None, refl, lit<}
use Rattle.std.specs.Prelude.{true}
use Rattle.sk_copies.specs.declared.Transfer.{Transfer}
use Rattle.sk_ranks.specs.RankMachine.{IsRun, Phase, enabled_of, start_of}
use Rattle.sk_ranks.specs.declared.act.Act.TheVariants.{Deliver, Run, Send}
use Rattle.sk_ranks.specs.declared.act.MessageState.TheVariants.{Delivered}
use Rattle.sk_ranks.specs.declared.plan.Message.{Message}

-- one message that waits for nothing, and one job that waits for it
abbrev before : Transfer → Phase
before transfer = start_of (record { transfer = transfer; after = None } ∷ []) (record { messages = 0 ∷ []; after = [] } ∷ [])

abbrev behind : Transfer → Phase
behind transfer = record (before transfer) { states = Delivered ∷ []; done = true ∷ [] }

-- the message is the one act that may come first
first : (transfer : Transfer) → enabled_of (before transfer) ≡ Send 0 ∷ []
first transfer = refl

-- it is sent and delivered, and then the job runs
whole : (transfer : Transfer) → IsRun (before transfer) (Send 0 ∷ Deliver 0 ∷ Run 0 ∷ []) (behind transfer)
whole transfer = ((lit< tt, refl), ((lit< tt, refl), ((lit< tt, refl), refl)))
