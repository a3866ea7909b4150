use Rattle.sk_base.proofs.Shapes.{IsWalked}
use Rattle.sk_base.proofs.shape.flat.Given as goal

abbrev pub invariant-loop-axis : goal.invariant-loop-axis
invariant-loop-axis l = IsWalked l.index l.axis l.sizes l.place
