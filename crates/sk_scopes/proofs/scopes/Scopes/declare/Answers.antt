use Rattle.std.proofs.Common.{◌∙◌}
use Rattle.sk_scopes.specs.Scopes.{found_in}
use Rattle.sk_scopes.proofs.Tidy.{tidy-pushed}
use Rattle.sk_scopes.proofs.scopes.Scopes.declare.Goals as goal

pub invariant_of-self-in-Ok : goal.invariant_of-self-in-Ok
invariant_of-self-in-Ok g c =
    tidy-pushed (found_in c.self.inside.latest) (found_in c.insert.new.self)
    (record { name = c.args.name; known = c.args.known; shadowed = c.copied-shadowed.result })
    c.self.inside.declared.items c.push.new.self.items c.in_ok-push.ensures.items
    (λ name. c.in-Ok.ensures.updates.0 (record c.args.name { now = name }))
    (c.copied-shadowed.ensures ∙ c.get.ensures.value)
    c.self.invariant
