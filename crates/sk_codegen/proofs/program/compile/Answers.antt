use Rattle.std.proofs.Common.{sym, subst}
use Rattle.sk_isa.specs.declared.object.Object.{Object}
use Rattle.sk_main_scheme.proofs.UnmarkedObjects.{unmarked_stands}
use Rattle.sk_main_scheme.specs.Objects.{StandsFor}
use Rattle.sk_codegen.proofs.Functions.{compiled_functions}
use Rattle.sk_plain.specs.Codes.{HasFunctionsOf}
use Rattle.sk_vector_laws.proofs.Assembly.{compiled_typed_run}
use Rattle.sk_vector_laws.specs.Vectors.{IsRunnable}
use Rattle.sk_codegen.proofs.program.compile.Goals as goal

pub returns-clause-stands : goal.returns-clause-stands
returns-clause-stands c =
    subst (λ (object : Object). StandsFor object c.args.program.now) (sym c.in_ok-object.ensures) (unmarked_stands c.args.program.now)

pub returns-clause-runs : goal.returns-clause-runs
returns-clause-runs c typed from form =
    subst (λ (object : Object). IsRunnable object c.args.program.now) (sym c.in_ok-object.ensures) (compiled_typed_run c.args.program.now typed from form)

pub returns-clause-functions : goal.returns-clause-functions
returns-clause-functions c typed from =
    subst (HasFunctionsOf c.args.program.now) (sym c.in_ok-object.ensures) (compiled_functions c.args.program.now typed from)
