use Rattle.std.proofs.Common.{◌∙◌, ap}
use Rattle.sk_typing.specs.TypingFaults.{earlier}
use Rattle.sk_types.specs.Told.{seen, part_told}
use Rattle.sk_typing_laws.proofs.Least.{told_turn}
use Rattle.sk_types.proofs.argument.parts_fault.Goals as goal

pub loop-argument-preserved : goal.loop-argument-preserved
loop-argument-preserved c =
    told_turn (part_told (seen c.args.around.now)) c.args.arguments.now c.loop-argument.argument-index _ c.loop-argument.least
    c.earlier-least.result c.loop-argument.invariant
    (c.earlier-least.ensures ∙ ap (earlier c.loop-argument.least) c.part_fault.ensures) c.loop-argument-test.true
