use Rattle.std.proofs.Common.{◌∙◌, ap}
use Rattle.sk_main_scheme.specs.MainScheme.{Around}
use Rattle.sk_main_emitter.proofs.names.InMain.callee.Goals as goal
use Rattle.sk_names.specs.Bindings.{bound_to}

pub returns : goal.returns
returns c = c.callee.ensures ∙ ap (λ (around : Around). bound_to c.args.name.now around.functions) c.self.view_is
