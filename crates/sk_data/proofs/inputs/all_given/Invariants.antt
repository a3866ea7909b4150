use Rattle.sk_data.proofs.Slots.{GivenLeft}
use Rattle.sk_data.proofs.inputs.all_given.Given as goal

abbrev pub invariant-inputs : goal.invariant-inputs
invariant-inputs l = GivenLeft l.declared l.fn.given.items l.given.items l.at l.all.items
