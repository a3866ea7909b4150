use Rattle.std.proofs.Common.{◌≡◌, ◌++◌, drop, map}
use Rattle.sk_emitter.proofs.program.function_names.Given as goal

abbrev pub invariant-loop-function : goal.invariant-loop-function
invariant-loop-function l =
    l.names ++ map (λ function. function.name) (drop l.function-index l.functions) ≡ map (λ function. function.name) l.functions
