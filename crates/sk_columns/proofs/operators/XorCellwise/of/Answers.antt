use Rattle.std.proofs.Common.{Ok, ap, sym}
use Rattle.sk_base.proofs.Bitwise.{int_bit_xor-Long}
use Rattle.sk_columns.proofs.operators.XorCellwise.of.Goals as goal

pub returns : goal.returns
returns g c = λ takes. ap Ok (sym (int_bit_xor-Long g.W.Width.ty c.args.a c.args.b takes.0 takes.1))
