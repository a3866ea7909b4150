use Rattle.std.proofs.Common.{◌∙◌, ◌-◌, ap, sym, List, ℕ, length, drop, take}
use Rattle.sk_emitter.proofs.NameLemmas.{left-map}
use Rattle.sk_main_scheme.specs.MainScheme.{Around, Named}
use Rattle.sk_main_emitter.specs.Names.{named_of, named_in, in_order}
use Rattle.sk_main_emitter.proofs.NameLemmas.{order_left}
use Rattle.sk_main_emitter.proofs.names.InMain.leave.Goals as goal

pub returns : goal.returns
returns c =
    ap (λ scope. record { functions = c.self.inside.functions.functions; scope = named_in scope }) c.leave.ensures
    ∙ ap (λ (scope : List (List ℕ × Named)). record { functions = c.self.inside.functions.functions; scope = scope })
    (left-map (λ binding. (binding.0, named_of binding.1)) c.args.depth c.self.inside.scope)
    ∙ ap (λ (around : Around). record { functions = around.functions; scope = drop (length around.scope - c.args.depth) around.scope }) c.self.view_is

pub invariant_of-self : goal.invariant_of-self
invariant_of-self c =
    c.truncate.ensures.items ∙ ap (take c.args.depth) c.self.invariant ∙ order_left c.self.inside.scope c.args.depth
    ∙ ap in_order (sym c.leave.ensures)
