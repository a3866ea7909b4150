use Rattle.std.proofs.Common.{◌≡◌, drop, map}
use Rattle.sk_tree.specs.Parameters.{scalars_only}
use Rattle.sk_tree.specs.declared.tree.Param.{Param}
use Rattle.sk_vector_form.proofs.vector_form.takes_scalars.Given as goal

abbrev pub invariant-loop-param : goal.invariant-loop-param
invariant-loop-param l =
    scalars_only (map (λ (param : Param). param.kind) (drop l.param-index l.function.params)) ≡ scalars_only (map (λ (param : Param). param.kind) l.function.params)
