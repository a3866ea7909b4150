use Rattle.std.proofs.Common.{◌≡◌, ◌++◌, drop}
use Rattle.sk_scheme.specs.Plans.{plans_in}
use Rattle.sk_emitter.proofs.plans.plans.Given as goal

abbrev pub invariant-loop-statement : goal.invariant-loop-statement
invariant-loop-statement l =
    l.plans ++ plans_in l.names.functions (drop l.statement-index l.statements) ≡ plans_in l.names.functions l.statements
