use Rattle.std.proofs.Common.{◌∙◌, ◌+ℤ◌}
use Rattle.sk_columns.proofs.arithmetic.sum.Goals as goal
use Rattle.sk_base.proofs.Wrapping.{stored, wrapped-wrapping_add}

pub returns : goal.returns
returns c =
    stored c.args.ty c.convert.result (c.args.a +ℤ c.args.b)
    (c.convert.ensures ∙ wrapped-wrapping_add c.args.ty c.args.a c.args.b c.ranges.a c.ranges.b)
