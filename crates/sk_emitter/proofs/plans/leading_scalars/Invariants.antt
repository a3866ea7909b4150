use Rattle.std.proofs.Common.{◌≡◌, ◌≤◌, ◌+◌, drop}
use Rattle.sk_scheme.specs.Scheme.{kinds_of}
use Rattle.sk_tree.specs.Parameters.{leading_scalars}
use Rattle.sk_emitter.proofs.plans.leading_scalars.Given as goal

abbrev pub invariant-loop-param : goal.invariant-loop-param
invariant-loop-param l =
    (l.count ≤ l.param-index)
    × (l.count + leading_scalars (kinds_of (drop l.param-index l.params)) ≡ leading_scalars (kinds_of l.params))
