use Rattle.std.proofs.Common.{◌≡◌, drop}
use Rattle.sk_scheme.specs.Scheme.{parameters_from}
use Rattle.sk_emitter.proofs.functions.declare_parameters.Given as goal

-- the parameters that are left go behind those that are declared
abbrev pub invariant-loop-i : goal.invariant-loop-i
invariant-loop-i l =
    (l.names.functions ≡ l.initial.names.functions)
    × (parameters_from l.i (drop l.i l.params) l.names.scope ≡ parameters_from 0 l.params l.initial.names.scope)
