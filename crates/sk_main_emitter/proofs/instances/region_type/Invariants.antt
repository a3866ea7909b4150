use Rattle.std.proofs.Common.{◌≡◌, drop}
use Rattle.sk_scheme.specs.Scheme.{kinds_of}
use Rattle.sk_main_emitter.specs.Statements.{region_or}
use Rattle.sk_main_emitter.proofs.instances.region_type.Given as goal

abbrev pub invariant-loop-param : goal.invariant-loop-param
invariant-loop-param l = region_or (kinds_of (drop l.param-index l.params)) l.other ≡ region_or (kinds_of l.params) l.other
