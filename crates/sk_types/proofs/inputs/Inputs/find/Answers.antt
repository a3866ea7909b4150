use Rattle.std.proofs.Common.{◌∙◌, ap}
use Rattle.std.specs.Option.{option_map}
use Rattle.sk_typing.specs.Inputs as inputs
use Rattle.sk_types.proofs.FoundLemmas.{find_is}
use Rattle.sk_types.proofs.inputs.Inputs.find.Goals as goal

pub returns : goal.returns
returns c =
    c.copied.ensures ∙ c.get.ensures.value ∙ find_is c.args.name.now c.self.inside.found.entries
    ∙ ap (λ seen. option_map (λ input. (input.kind, input.ty)) (inputs.input_named c.args.name.now seen)) c.self.view_is
