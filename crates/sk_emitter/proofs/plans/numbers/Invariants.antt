use Rattle.std.proofs.Common.{◌≡◌, ◌++◌, drop}
use Rattle.sk_scheme.specs.Plans.{numbers_of}
use Rattle.sk_emitter.proofs.plans.numbers.Given as goal

abbrev pub invariant-loop-name : goal.invariant-loop-name
invariant-loop-name l =
    l.numbers ++ numbers_of l.names.functions (drop l.name-index l.functions) ≡ numbers_of l.names.functions l.functions
