use Rattle.std.proofs.Common.{◌≡◌, ◌++◌, drop}
use Rattle.sk_scheme.specs.Scheme.{kinds_of}
use Rattle.sk_emitter.proofs.types.kinds.Given as goal

abbrev pub invariant-loop-param : goal.invariant-loop-param
invariant-loop-param l = l.kinds.items ++ kinds_of (drop l.param-index l.params) ≡ kinds_of l.params
