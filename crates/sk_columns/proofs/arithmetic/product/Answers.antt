use Rattle.std.proofs.Common.{◌∙◌, ◌*ℤ◌}
use Rattle.sk_columns.proofs.arithmetic.product.Goals as goal
use Rattle.sk_base.proofs.Wrapping.{stored, wrapped-wrapping_mul}

pub returns : goal.returns
returns c =
    stored c.args.ty c.convert.result (c.args.a *ℤ c.args.b)
    (c.convert.ensures ∙ wrapped-wrapping_mul c.args.ty c.args.a c.args.b c.ranges.a c.ranges.b)
