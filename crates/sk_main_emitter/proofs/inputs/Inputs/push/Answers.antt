use Rattle.std.proofs.Common.{◌∙◌, List, ℕ, ap, sym, rules}
use Rattle.std.specs.Prelude.{is_some}
use Rattle.sk_main_emitter.proofs.MainInputs.{named_more}
use Rattle.sk_main_emitter.proofs.inputs.Inputs.push.Goals as goal
use Rattle.sk_names.specs.Bindings.{bound_to}
use Rattle.sk_tree.specs.declared.declared.Declared.{Declared}
use Rattle.sk_typing.specs.Inputs.{input_named}

pub invariant_of-self-in-Ok : goal.invariant_of-self-in-Ok
invariant_of-self-in-Ok c other =
    ap (λ (names : List (List ℕ × ℕ)). is_some (bound_to other names)) c.in-Ok.ensures.declared
    ∙ named_more c.self.inside.names c.self.inside.found.items c.args.name.now c.args.kind c.args.kind _ (search rules) c.self.invariant other
    ∙ ap (λ (found : List Declared). is_some (input_named other found)) (sym c.in_ok-push.ensures.items)
