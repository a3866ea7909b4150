use Rattle.sk_typing_laws.proofs.Takes.{IsTaken}
use Rattle.sk_types.proofs.inputs.+taken.Given as goal

abbrev pub invariant-take_inputs-loop-next : goal.invariant-take_inputs-loop-next
invariant-take_inputs-loop-next l = IsTaken l.statements l.fn.inputs l.next-index l.least l.inputs
