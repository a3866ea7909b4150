use Rattle.std.proofs.Common.{◌∙◌, ap, pos, ◌*ℤ◌, ◌^◌, w64}
use Rattle.std.proofs.lemmas.Int.{to_z-of_z}
use Rattle.sk_base.specs.Arithmetic.{wrapped, places_of}
use Rattle.sk_columns.proofs.arithmetic.shifted_left.Goals as goal
use Rattle.sk_base.proofs.Wrapping.{stored, wrapped-int_shl}

pub returns : goal.returns
returns c =
    let count = ap (places_of c.args.ty) (to_z-of_z w64 c.args.count c.ranges.count) in
    stored c.args.ty c.convert.result (c.args.a *ℤ pos (2 ^ places_of c.args.ty c.args.count))
    (c.convert.ensures
    ∙ wrapped-int_shl c.args.ty c.args.a c.places.result c.ranges.a c.places.ensures.below
    ∙ ap (λ k. wrapped c.args.ty (c.args.a *ℤ pos (2 ^ k))) (c.places.ensures.value ∙ count))
