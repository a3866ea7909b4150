use Rattle.std.proofs.Common.{◌≡◌, ◌++◌, drop, map}
use Rattle.sk_scheme.specs.Plans.{plan_of}
use Rattle.sk_main_emitter.proofs.program.plans_of.Given as goal

abbrev pub invariant-loop-instance : goal.invariant-loop-instance
invariant-loop-instance l =
    l.plans ++ map (λ instance. plan_of l.functions.functions instance.now) (drop l.instance-index l.instances)
    ≡ map (λ instance. plan_of l.functions.functions instance.now) l.instances
