use Rattle.std.proofs.Common.{◌≡◌, take}
use Rattle.sk_names.specs.Bindings.{bound_to}
use Rattle.sk_typing.specs.TypingFaults.{least_of}
use Rattle.sk_typing.specs.TypingInstances as instances
use Rattle.sk_typing.specs.TypingFaults.{first_told}
use Rattle.sk_types.specs.Told.{seen}
use Rattle.sk_types.proofs.instance.callees_fault.Given as goal

abbrev pub invariant-loop-name : goal.invariant-loop-name
invariant-loop-name l =
    l.least ≡ first_told (λ name. least_of (instances.callee_faults (seen l.around) (bound_to name l.scopes))) (take l.name-index l.functions)
