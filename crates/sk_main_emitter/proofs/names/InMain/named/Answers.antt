use Rattle.std.proofs.Common.{◌∙◌, ap}
use Rattle.std.specs.Option.{option_map}
use Rattle.sk_emitter.proofs.NameLemmas.{bound_to-map}
use Rattle.sk_main_scheme.specs.MainScheme.{Around}
use Rattle.sk_main_emitter.specs.Names.{named_of}
use Rattle.sk_main_emitter.proofs.names.InMain.named.Goals as goal
use Rattle.sk_names.specs.Bindings.{bound_to}

pub returns : goal.returns
returns c =
    ap (option_map named_of) c.find.ensures
    ∙ bound_to-map named_of c.args.name.now c.self.inside.scope
    ∙ ap (λ (around : Around). bound_to c.args.name.now around.scope) c.self.view_is
