use Rattle.std.proofs.Common.{rules}
use Rattle.sk_spaces.specs.declared.step.Step.TheVariants.{Copy}
use Rattle.sk_coherence_laws.proofs.NamedMoves.{changed_as}
use Rattle.sk_coherence.proofs.directory.moves.move_as.Goals as goal

pub returns : goal.returns
returns g c = let t = c.args.transfer in
    changed_as c.args.spaces.now c.named.new.self c.copy.new.self t.from.id t.to.id t.range.lo t.range.hi c.args.step
    (Copy t.from.id t.to.id t.range.lo t.range.hi) c.copy.result c.named.ensures (c.copy.ensures.succeeds (search rules)) c.copy.ensures.ok
