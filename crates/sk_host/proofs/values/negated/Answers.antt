use Rattle.std.proofs.Common.{rules, ℤ, FitsSigned, ◌∙◌, ap, w64}
use Rattle.std.specs.Prelude.{neg_ℤ}
use Rattle.std.proofs.lemmas.Int.{wrapping_neg_is, to_z-of_z}
use Rattle.std.specs.Int.{int_wrapping_neg}
use Rattle.sk_base.specs.Arithmetic.{wrapped}
use Rattle.sk_base.proofs.Wrapping.{stored, wrapped-Long}
use Rattle.sk_host.proofs.values.negated.Goals as goal

pub returns : goal.returns
returns c =
    let ty = c.args.ty in
    let fits : FitsSigned w64 c.wrapping_neg.result = search rules in
    stored ty c.convert.result (neg_ℤ c.args.value)
    (c.convert.ensures ∙ ap (wrapped ty) (to_z-of_z w64 c.wrapping_neg.result fits) ∙ ap (wrapped ty) c.wrapping_neg.ensures
    ∙ ap (λ (x : ℤ). wrapped ty (int_wrapping_neg w64 x)) (to_z-of_z w64 c.args.value c.ranges.value) ∙ ap (wrapped ty) (wrapping_neg_is w64 c.args.value c.ranges.value) ∙ wrapped-Long ty (neg_ℤ c.args.value))
