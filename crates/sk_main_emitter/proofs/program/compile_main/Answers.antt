use Rattle.std.proofs.Common.{◌∙◌, List, ℕ, length, map, ap}
use Rattle.sk_base.specs.declared.number.Ty.{Ty}
use Rattle.sk_main_scheme.specs.MainScheme.{Standing, main_emitted}
use Rattle.sk_main_emitter.proofs.MainProgram.{code_same, plans_are, signature_with}
use Rattle.sk_main_emitter.proofs.program.compile_main.Goals as goal
use Rattle.sk_scheme.specs.Plans.{plan_of}
use Rattle.sk_scheme.specs.Scheme.{Known}
use Rattle.sk_tree.specs.declared.tree.ParamKind.TheVariants.{Scalar}

pub returns-clause-code : goal.returns-clause-code
returns-clause-code c =
    let written = c.in_ok-written.ensures in
    c.finished.ensures.code
    ∙ code_same _ _ _ _ _ _ written.code
    (c.in_ok-held.ensures.slots ∙ ap length (ap (λ (s : Standing). s.slots) written.behind))
    (c.in_ok-held.ensures.depth ∙ written.depth_is)

pub returns-clause-signature : goal.returns-clause-signature
returns-clause-signature c =
    c.finished.ensures.signature
    ∙ c.in_ok-held.ensures.signature
    ∙ ap (λ (types : List Ty). signature_with (map Scalar types)) (ap (λ (s : Standing). s.slots) c.in_ok-written.ensures.behind)

pub returns-clause-containers : goal.returns-clause-containers
returns-clause-containers c =
    c.finished.ensures.containers ∙ ap (λ (s : Standing). s.containers) c.in_ok-written.ensures.behind

pub returns-clause-plans : goal.returns-clause-plans
returns-clause-plans c =
    let writer = c.in_ok-written.written.writer in
    let written = c.in_ok-written.ensures in
    c.finished.ensures.plans
    ∙ plans_are (plan_of writer.names.functions) (plan_of c.args.functions.functions) writer.instances.items
    (main_emitted c.args.functions.functions c.args.body.now).behind.instances c.in_ok-held.held.plans
    c.in_ok-held.ensures.plans
    (ap (λ (known : List (List ℕ × Known)). plan_of known) written.functions_are)
    (ap (λ (s : Standing). s.instances) written.behind)
