use Rattle.std.proofs.Common.{◌≡◌, ◌++◌, drop, map}
use Rattle.sk_arguments.specs.Arguments.{uniform_types}
use Rattle.sk_scheme.specs.Scheme.{kinds_of}
use Rattle.sk_tree.specs.declared.tree.ParamKind.TheVariants.{Scalar}
use Rattle.sk_main_emitter.proofs.instances.later_scalars.Given as goal

abbrev pub invariant-loop-param : goal.invariant-loop-param
invariant-loop-param l =
    l.kinds ++ map Scalar (uniform_types l.left (kinds_of (drop l.param-index l.params)))
    ≡ map Scalar (uniform_types l.elements (kinds_of l.params))
