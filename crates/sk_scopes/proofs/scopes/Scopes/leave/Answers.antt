use Rattle.std.proofs.Common.{◌∙◌, arith}
use Rattle.sk_scopes.proofs.Tidy.{leave-one}
use Rattle.sk_scopes.proofs.scopes.Scopes.leave.Goals as goal

pub loop-self-preserved : goal.loop-self-preserved
loop-self-preserved g c =
    leave-one c.args.depth c.loop-self.self c.undo.new.self (omega (arith, c.loop-self-test.true, c.depth.ensures)) c.undo.ensures ∙ c.loop-self.invariant
