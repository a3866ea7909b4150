use Rattle.std.proofs.Common.{◌∙◌, ap}
use Rattle.std.specs.Option.{option_map}
use Rattle.sk_names.specs.Bindings.{bound_to}
use Rattle.sk_scheme.specs.Scheme.{Around}
use Rattle.sk_emitter.specs.Names.{callee_of}
use Rattle.sk_emitter.proofs.NameLemmas.{bound_to-map}
use Rattle.sk_emitter.proofs.names.InScope.callee.Goals as goal

pub returns : goal.returns
returns c =
    ap (option_map callee_of) c.find.ensures
    ∙ bound_to-map callee_of c.args.name.now c.self.inside.functions
    ∙ ap (λ (around : Around). bound_to c.args.name.now around.functions) c.self.view_is
