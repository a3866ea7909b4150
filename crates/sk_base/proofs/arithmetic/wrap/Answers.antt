use Rattle.std.proofs.Common.{◌∙◌, ap, w64}
use Rattle.std.proofs.lemmas.Int.{to_z-of_z}
use Rattle.sk_base.specs.Arithmetic.{wrapped}
use Rattle.sk_base.proofs.arithmetic.wrap.Goals as goal
use Rattle.sk_base.proofs.Wrapping.{stored, wrapped-Long, low_half}

pub returns : goal.returns
returns c =
    let kept = to_z-of_z w64 c.cast_signed.result (record { sfits = c.cast_signed.type_inv }) in
    stored c.args.ty c.convert.result c.args.x
    (c.convert.ensures ∙ ap (wrapped c.args.ty) (kept ∙ c.cast_signed.ensures ∙ low_half c.args.x c.ranges.x) ∙ wrapped-Long c.args.ty c.args.x)
