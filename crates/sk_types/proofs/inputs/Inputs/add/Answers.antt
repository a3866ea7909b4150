use Rattle.std.proofs.Common.{◌++◌, [], ◌∷◌, List, ◌∙◌, ap}
use Rattle.sk_typing.specs.Inputs.{input_named}
use Rattle.sk_tree.specs.declared.declared.Declared.{Declared}
use Rattle.sk_types.proofs.FoundLemmas.{added}
use Rattle.sk_types.proofs.inputs.Inputs.add.Goals as goal

pub returns : goal.returns
returns c =
    added c.self.inside.found.entries c.insert.new.self.entries c.args.name (c.args.kind, c.args.ty) c.in_ok-insert.ensures.entries
    (ap (input_named c.args.name.now) c.self.view_is ∙ c.requires)
    ∙ ap (λ (seen : List Declared). seen ++ record { name = c.args.name.now; kind = c.args.kind; ty = c.args.ty } ∷ []) c.self.view_is
