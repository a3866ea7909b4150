use Rattle.std.proofs.Common.{◌≡◌, ◌≤◌, ◌+◌, drop}
use Rattle.sk_arguments.specs.Operands.{proxies_in}
use Rattle.sk_scheme.specs.Scheme.{kinds_of}
use Rattle.sk_main_emitter.proofs.instances.proxies_in.Given as goal

abbrev pub invariant-loop-param : goal.invariant-loop-param
invariant-loop-param l =
    (l.count ≤ l.param-index)
    × (l.count + proxies_in (kinds_of (drop l.param-index l.params)) ≡ proxies_in (kinds_of l.params))
