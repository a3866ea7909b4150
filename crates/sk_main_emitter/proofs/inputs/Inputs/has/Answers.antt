use Rattle.std.proofs.Common.{◌∙◌, List, ap}
use Rattle.std.specs.Prelude.{is_some}
use Rattle.sk_main_emitter.proofs.inputs.Inputs.has.Goals as goal
use Rattle.sk_tree.specs.declared.declared.Declared.{Declared}
use Rattle.sk_typing.specs.Inputs.{input_named}

pub returns : goal.returns
returns c =
    c.is_some.ensures ∙ ap is_some c.find.ensures ∙ c.self.invariant c.args.name.now
    ∙ ap (λ (inputs : List Declared). is_some (input_named c.args.name.now inputs)) c.self.view_is
