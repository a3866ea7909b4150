use Rattle.sk_scopes.specs.Scopes.{found_in}
use Rattle.sk_scopes.proofs.Tidy.{tidy-undone, tidy-latest, some_found}
use Rattle.sk_scopes.proofs.scopes.Scopes.undo.Goals as goal

pub invariant_of-self : goal.invariant_of-self
invariant_of-self g c =
    let found = tidy-latest (found_in c.self.inside.latest) c.in-Some.binding c.self.inside.declared.items c.pop.new.self.items
    c.in-Some.ensures.items c.self.invariant in
    tidy-undone (found_in c.self.inside.latest) (found_in c.rebind.new.latest) c.in-Some.binding c.self.inside.declared.items
    c.pop.new.self.items c.in-Some.ensures.items
    (rw (c.in-Some-shadowed.is) (c.rebind.ensures (some_found (found_in c.self.inside.latest c.in-Some.binding.name.now) c.in-Some.binding.known found)))
    c.self.invariant

pub invariant_of-self-in-None : goal.invariant_of-self-in-None
invariant_of-self-in-None g c =
    tidy-undone (found_in c.self.inside.latest) (found_in c.swap_remove.new.self) c.in-Some.binding c.self.inside.declared.items
    c.pop.new.self.items c.in-Some.ensures.items
    (rw (c.in-None.is) (λ name. c.swap_remove.ensures.updates.0 (record c.in-Some.binding.name { now = name })))
    c.self.invariant
