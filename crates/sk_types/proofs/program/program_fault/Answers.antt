use Rattle.std.proofs.Common.{◌∙◌, ◌++◌, List, []}
use Rattle.sk_typing.specs.Inputs.{input_faults_after}
use Rattle.sk_typing.specs.Typing as typing
use Rattle.sk_typing.specs.declared.names.Fault.{Fault}
use Rattle.sk_typing_laws.proofs.Least.{joined}
use Rattle.sk_types.proofs.program.program_fault.Goals as goal

pub returns-clause-told : goal.returns-clause-told
returns-clause-told c =
    let walked : List Fault = typing.functions_faults c.args.program.now.functions 0 [] c.args.program.now.functions in
    let taken : List Fault = input_faults_after [] (typing.all_taken c.args.program.now) in
    c.earlier-2.ensures
    ∙ joined (walked ++ taken) (typing.main_faults c.args.program.now) c.earlier.result c.main_fault.result
    (c.earlier.ensures
    ∙ joined walked taken c.in_ok-walked.walked c.in_ok-taken.taken
    (rw (← c.new-scopes.ensures, ← c.as_slice-functions.ensures) c.in_ok-walked.ensures)
    (rw (← c.requires) c.in_ok-taken.ensures.told))
    c.main_fault.ensures
