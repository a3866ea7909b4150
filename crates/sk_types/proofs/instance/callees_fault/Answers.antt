use Rattle.std.proofs.Common.{◌∙◌, sym}
use Rattle.sk_names.specs.Bindings.{bound_to}
use Rattle.sk_typing.specs.TypingFaults.{least_of}
use Rattle.sk_typing.specs.TypingInstances as instances
use Rattle.sk_types.specs.Told.{seen}
use Rattle.sk_typing_laws.proofs.Least.{told_item, told_end, least_of_flat_map}
use Rattle.sk_types.proofs.instance.callees_fault.Goals as goal

pub loop-name-preserved : goal.loop-name-preserved
loop-name-preserved c =
    told_item (λ name. least_of (instances.callee_faults (seen c.args.around.now) (bound_to name c.args.scopes.now)))
    c.args.functions.now c.loop-name.name-index c.name-item.result c.loop-name.least
    c.earlier-least.result c.name-item.is c.loop-name.invariant
    (rw (← c.as_bytes.ensures, ← c.find-known.ensures, ← c.callee_fault.ensures) c.earlier-least.ensures)
    c.loop-name-test.true

pub returns : goal.returns
returns c =
    told_end (λ name. least_of (instances.callee_faults (seen c.args.around.now) (bound_to name c.args.scopes.now)))
    c.args.functions.now c.loop-name.name-index c.loop-name.least c.loop-name.invariant c.loop-name-test.false
    ∙ sym (least_of_flat_map (λ name. instances.callee_faults (seen c.args.around.now) (bound_to name c.args.scopes.now)) c.args.functions.now)
