use Rattle.std.proofs.Common.{◌≡◌, int_div, w32, w64, FitsSigned}
use Rattle.std.proofs.lemmas.Int.{to_z-of_z}
use Rattle.sk_base.specs.Arithmetic.{wrapped}
use Rattle.sk_base.specs.declared.number.Ty.TheVariants.{Int}
use Rattle.sk_base.proofs.Wrapping.{stored}
use Rattle.sk_columns.proofs.Narrow.{narrow_div}
use Rattle.sk_columns.proofs.arithmetic.narrow_quotient.Goals as goal

pub returns : goal.returns
returns c =
    let fits : FitsSigned w32 c.wrapping_div.result = record { sfits = c.wrapping_div.type_inv } in
    let a = to_z-of_z w32 c.args.a c.requires.dividend in
    let b = to_z-of_z w32 c.args.b c.requires.divisor in
    let wide_a = to_z-of_z w64 c.args.a c.ranges.a in
    let wide_b = to_z-of_z w64 c.args.b c.ranges.b in
    let kept = to_z-of_z w32 c.wrapping_div.result fits in
    let exact = narrow_div c.args.a c.args.b c.requires.dividend in
    let is : c.from.result ≡ wrapped Int (int_div c.args.a c.args.b) = cc in
    stored Int c.from.result (int_div c.args.a c.args.b) is
