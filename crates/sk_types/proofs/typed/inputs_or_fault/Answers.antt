use Rattle.std.proofs.Common.{◌∙◌, sym}
use Rattle.sk_typing.specs.Typing as typing
use Rattle.sk_typing_laws.proofs.Least.{no_faults}
use Rattle.sk_types.proofs.typed.inputs_or_fault.Goals as goal

pub returns-clause-typed : goal.returns-clause-typed
returns-clause-typed c =
    no_faults (typing.faults_of c.args.program.now) (sym c.in_ok-fault.ensures.told ∙ c.in-None.is)
