use Rattle.std.proofs.Common.{reverse, ◌∙◌, ap}
use Rattle.sk_names.specs.Bindings.{bound_to}
use Rattle.sk_scopes.specs.Scopes.{found_in}
use Rattle.sk_scopes.proofs.Tidy.{tidy-finds}
use Rattle.sk_scopes.proofs.scopes.Scopes.find.Goals as goal

pub returns : goal.returns
returns g c =
    c.copied.ensures ∙ c.get.ensures.value
    ∙ tidy-finds (found_in c.self.inside.latest) (reverse c.self.inside.declared.items) c.self.invariant c.args.name.now
    ∙ ap (bound_to c.args.name.now) c.self.view_is
