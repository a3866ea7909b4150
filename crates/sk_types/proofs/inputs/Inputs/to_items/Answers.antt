use Rattle.sk_types.proofs.FoundLemmas.{copied_turn, copied_end}
use Rattle.sk_types.proofs.inputs.Inputs.to_items.Goals as goal

pub inputs-preserved : goal.inputs-preserved
inputs-preserved c =
    copied_turn c.args.self.now c.inputs.index c.in-Some.input c.inputs.items c.push.new.self c.in_ok-input.field-0
    c.inputs.invariant c.in_ok-input.ensures c.in-Some.is c.in_ok-push-in-Some.ensures.ok

pub returns-in-None : goal.returns-in-None
returns-in-None c =
    copied_end c.args.self.now c.inputs.index c.inputs.items c.in_ok-input.field-0
    c.inputs.invariant c.in_ok-input.ensures c.in-None.is
