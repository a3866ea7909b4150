use Rattle.std.proofs.Common.{◌≡◌, ◌∙◌, List, ◌∷◌, ◌++◌, [], length, map, replicate, false, Option, None, ap}
use Rattle.std.specs.Prelude.{slice_get}
use Rattle.sk_isa.specs.declared.object.Object.{Object}
use Rattle.sk_main_scheme.proofs.UnmarkedObjects.{main_of}
use Rattle.sk_main_scheme.specs.MainScheme.{Emitted, main_emitted}
use Rattle.sk_main_emitter.proofs.MainProgram.{object_is}
use Rattle.sk_main_emitter.proofs.program.compile.Goals as goal
use Rattle.sk_main_emitter.specs.Written.{code_of_main, signature_of_main}
use Rattle.sk_scheme.specs.Plans.{functions_before_main, plan_of}
use Rattle.sk_scheme.specs.Scheme.{codes_of, known_functions, signatures_of}
use Rattle.sk_tree.specs.Functions.{body_of}
use Rattle.sk_tree.specs.declared.operator.Operator.{Operator}
use Rattle.sk_tree.specs.declared.tree.Function.{Function}

pub returns : goal.returns
returns c =
    let program = c.args.program.now in
    let functions = functions_before_main program in
    let before : c.before_main-functions.result.now ≡ functions = c.before_main-functions.ensures in
    let statements = c.body-statements.result.now in
    let body : statements ≡ body_of (slice_get program.functions (length functions)) =
    c.body-statements.ensures
    ∙ ap (λ (all : List Function). body_of (slice_get all (length c.before_main-functions.result.now))) c.as_slice.ensures
    ∙ ap (λ (all : List Function). body_of (slice_get program.functions (length all))) before in
    let emitted : main_emitted (known_functions c.before_main-functions.result.now) statements ≡ main_of program =
    ap (λ (all : List Function). main_emitted (known_functions all) statements) before ∙ ap (main_emitted (known_functions functions)) body in
    let whole = c.in_ok-whole.ensures in
    let beside = c.in_ok-beside.ensures in
    let fields = c.joined.ensures in
    object_is program _
    (ap (λ (o : Object). o.functions) fields ∙ whole.functions ∙ ap codes_of before)
    (ap (λ (o : Object). o.signatures) fields
    ∙ whole.signatures
    ∙ ap (λ (main : Emitted). signatures_of c.before_main-functions.result.now ++ signature_of_main main ∷ []) emitted
    ∙ ap (λ (all : List Function). signatures_of all ++ signature_of_main (main_of program) ∷ []) before)
    (ap (λ (o : Object). o.safe) fields ∙ beside.safe ∙ ap (λ (all : List Function). replicate (length all) false) before)
    (ap (λ (o : Object). o.operators) fields
    ∙ beside.operators
    ∙ ap (λ (all : List Function). replicate {A = Option Operator} (length all) None) before)
    (ap (λ (o : Object). o.instances) fields
    ∙ whole.plans
    ∙ ap (λ (main : Emitted). map (plan_of (known_functions c.before_main-functions.result.now)) main.behind.instances) emitted
    ∙ ap (λ (all : List Function). map (plan_of (known_functions all)) (main_of program).behind.instances) before)
    (ap (λ (o : Object). o.main) fields ∙ whole.main ∙ ap code_of_main emitted)
    (ap (λ (o : Object). o.inputs) fields ∙ beside.inputs)
    (ap (λ (o : Object). o.containers) fields ∙ whole.containers ∙ ap (λ (main : Emitted). main.behind.containers) emitted)
    (ap (λ (o : Object). o.names) fields ∙ beside.names ∙ ap (map (λ function. function.name)) before)
