use Rattle.std.proofs.Common.{◌∙◌, ◌-ℤ◌}
use Rattle.sk_columns.proofs.arithmetic.difference.Goals as goal
use Rattle.sk_base.proofs.Wrapping.{stored, wrapped-wrapping_sub}

pub returns : goal.returns
returns c =
    stored c.args.ty c.convert.result (c.args.a -ℤ c.args.b)
    (c.convert.ensures ∙ wrapped-wrapping_sub c.args.ty c.args.a c.args.b c.ranges.a c.ranges.b)
