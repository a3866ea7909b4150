use Rattle.std.proofs.Common.{◌∙◌, ◌++◌, List, map}
use Rattle.sk_typing.specs.declared.names.Fault.{Fault}
use Rattle.sk_names.specs.Bindings.{bound_to}
use Rattle.sk_typing.specs.TypingInstances as instances
use Rattle.sk_typing.specs.TypingNames as names
use Rattle.sk_typing.specs.declared.names.FaultKind.TheVariants.{Mismatch, Arity}
use Rattle.sk_types.specs.Told.{seen}
use Rattle.sk_typing_laws.proofs.Least.{joined}
use Rattle.sk_types.proofs.instance.first_fault.Goals as goal
use Rattle.sk_tree.specs.Skeletons as skeletons
use Rattle.sk_tree.specs.Functions as functions

pub returns : goal.returns
returns c =
    let around : names.Around = seen c.args.around.now in
    let misfit : List Fault = names.unless (skeletons.fits_skeleton c.args.skeleton c.args.function.now.ret (functions.kinds_of c.args.function.now)) around Mismatch in
    let miscount : List Fault = names.unless (skeletons.numbers_fit c.args.skeleton c.args.numbers.now (functions.kinds_of c.args.function.now)) around Arity in
    let second : List Fault = instances.second_faults around c.args.function.now.ret
    (map (λ name. instances.callee_of around (bound_to name c.args.scopes.now)) c.args.others.now) in
    c.earlier-2.ensures
    ∙ joined (misfit ++ miscount) second c.earlier.result c.second_fault-second.result
    (c.earlier.ensures
    ∙ joined misfit miscount c.unless-misfit.result c.unless-miscount.result
    (rw (← c.as_slice-params.ensures, ← c.fits_skeleton.ensures) c.unless-misfit.ensures)
    (rw (← c.as_slice-params.ensures, ← c.numbers_fit.ensures) c.unless-miscount.ensures))
    c.second_fault-second.ensures
