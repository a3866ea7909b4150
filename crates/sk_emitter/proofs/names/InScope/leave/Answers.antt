use Rattle.std.proofs.Common.{◌∙◌, ◌-◌, ap, List, ℕ, length, drop}
use Rattle.sk_scheme.specs.Scheme.{Around, Slot}
use Rattle.sk_emitter.specs.Names.{slot_of, slots_in, known_in}
use Rattle.sk_emitter.proofs.NameLemmas.{left-map}
use Rattle.sk_emitter.proofs.names.InScope.leave.Goals as goal

pub returns : goal.returns
returns c =
    ap (λ scope. record { functions = known_in c.self.inside.functions; scope = slots_in scope }) c.leave.ensures
    ∙ ap (λ (scope : List (List ℕ × Slot)). record { functions = known_in c.self.inside.functions; scope = scope })
    (left-map (λ binding. (binding.0, slot_of binding.1)) c.args.depth c.self.inside.scope)
    ∙ ap (λ (around : Around). record { functions = around.functions; scope = drop (length around.scope - c.args.depth) around.scope }) c.self.view_is
