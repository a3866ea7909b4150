use Rattle.std.proofs.Common.{◌≡◌, ◌∙◌, ap, int_div, w64, ℤ}
use Rattle.std.specs.Int.{int_wrapping_div, cast_signed, cast_unsigned}
use Rattle.std.proofs.lemmas.Int.{to_z-of_z}
use Rattle.sk_base.specs.Arithmetic.{wrapped}
use Rattle.sk_base.proofs.Wrapping.{stored, wrapped-wrapping_div}
use Rattle.sk_columns.proofs.arithmetic.quotient_by.Goals as goal

pub returns-else-eq : goal.returns-else-eq
returns-else-eq c =
    let a = to_z-of_z w64 c.args.a c.ranges.a in
    let b = to_z-of_z w64 c.args.b c.ranges.b in
    let divisor = cast_signed w64 (cast_unsigned w64 c.args.b) in
    let kept = to_z-of_z w64 c.wrapping_div.result (record { sfits = c.wrapping_div.type_inv }) in
    let machine : c.wrapping_div.result ≡ int_wrapping_div w64 c.args.a c.args.b =
    c.wrapping_div.ensures ∙ ap (λ (x : ℤ). int_wrapping_div w64 x divisor) a ∙ ap (int_wrapping_div w64 c.args.a) b in
    stored c.args.ty c.convert.result (int_div c.args.a c.args.b)
    (c.convert.ensures ∙ ap (wrapped c.args.ty) (kept ∙ machine) ∙ wrapped-wrapping_div c.args.ty c.args.a c.args.b c.ranges.a)
