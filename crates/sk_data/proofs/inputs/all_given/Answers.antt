use Rattle.std.proofs.Common.{sym, ◌∙◌}
use Rattle.sk_data.proofs.Slots.{given_more}
use Rattle.sk_data.proofs.inputs.all_given.Goals as goal

pub inputs-preserved : goal.inputs-preserved
inputs-preserved c =
    rw (c.taken_from.ensures.others, c.in_ok-push-in-Some.ensures.items)
    (given_more c.args.declared.now c.args.given.items c.inputs.given.items c.inputs.at c.inputs.all.items c.in-Some.given
    c.inputs-test.true (sym c.in-Some.is ∙ c.taken_from.ensures.slot) c.inputs.invariant)
