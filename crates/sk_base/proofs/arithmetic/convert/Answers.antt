use Rattle.std.proofs.Common.{◌∙◌, ap, sym}
use Rattle.sk_base.specs.Arithmetic.{wrapped}
use Rattle.sk_base.specs.declared.number.Ty.TheVariants.{Int}
use Rattle.sk_base.proofs.arithmetic.convert.Goals as goal
use Rattle.sk_base.proofs.Wrapping.{stored, int_shr-int_shl}

pub returns-in-Int : goal.returns-in-Int
returns-in-Int c =
    stored Int _ c.args.x (int_shr-int_shl c.args.x c.ranges.x) ∙ ap (λ ty. wrapped ty c.args.x) (sym c.in-Int.is)
