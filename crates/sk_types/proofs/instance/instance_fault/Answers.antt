use Rattle.std.proofs.Common.{◌==◌, ◌∙◌, map, flat_map, length, if◌then◌else◌}
use Rattle.sk_names.specs.Bindings.{bound_to}
use Rattle.sk_typing.specs.TypingInstances as instances
use Rattle.sk_typing.specs.TypingNames as names
use Rattle.sk_typing.specs.declared.names.FaultKind.TheVariants.{Arity}
use Rattle.sk_types.specs.Told.{seen}
use Rattle.sk_typing_laws.proofs.Least.{joined}
use Rattle.sk_types.proofs.instance.instance_fault.Goals as goal
use Rattle.sk_tree.specs.Skeletons as skeletons

pub returns : goal.returns
returns c =
    c.earlier.ensures
    ∙ joined (flat_map (λ name. instances.callee_faults (seen c.args.around.now) (bound_to name c.args.scopes.now)) c.args.instance.now.functions)
    (if length c.args.instance.now.functions == skeletons.function_count c.args.instance.now.skeleton
    then instances.form_faults (seen c.args.around.now) c.args.instance.now.skeleton c.args.instance.now.numbers
    (map (λ name. instances.callee_of (seen c.args.around.now) (bound_to name c.args.scopes.now)) c.args.instance.now.functions)
    else names.fault (seen c.args.around.now) Arity)
    c.callees_fault.result c.fit_fault.result (rw (← c.as_slice.ensures) c.callees_fault.ensures) c.fit_fault.ensures
