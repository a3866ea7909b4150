use Rattle.std.proofs.Common.{arith, ◌-◌}
use Rattle.sk_ranks.proofs.ChosenLemmas.{chosen-send, chosen-deliver, chosen-run, enabled-count}
use Rattle.sk_ranks.proofs.phase.RankPhase.chosen.Goals as goal

pub returns-then-choice-sends : goal.returns-then-choice-sends
returns-then-choice-sends c = rw (← c.self.view_is) (chosen-send c.self.inside _ _ c.self.invariant c.nth.ensures)

pub returns-then-choice-deliveries : goal.returns-then-choice-deliveries
returns-then-choice-deliveries c =
    rw (← c.self.view_is) (chosen-deliver c.self.inside c.args.choice (c.args.choice - c.count-sends.result) _ c.self.invariant (omega arith) c.nth-then-choice-deliveries.ensures)

pub nth-requires-2 : goal.nth-requires-2
nth-requires-2 c =
    let count = enabled-count c.self.inside c.self.invariant in
    let below = rw (← c.self.view_is) at c.requires in
    omega arith

pub returns : goal.returns
returns c =
    rw (← c.self.view_is) (chosen-run c.self.inside c.args.choice (c.args.choice - c.count-sends.result - c.count-deliveries.result) _ c.self.invariant (omega arith) c.nth-2.ensures)
