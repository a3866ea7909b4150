use Rattle.std.proofs.Common.{◌^◌, ◌<◌, Some, sym, ap, ◌∙◌, arith}
use Rattle.std.proofs.lemmas.Int.{ints}
use Rattle.sk_data.proofs.SizesRead.{size_read}
use Rattle.sk_data.proofs.sizes.read_size.Goals as goal

pub overflow_cast-result : goal.overflow_cast-result
overflow_cast-result c =
    let read = size_read c.args.part.now c.in_ok-size.size c.if-part-gt-MOST_DIGITS.false (sym c.in_ok-size.was ∙ c.natural.ensures) in
    let small : c.in_ok-size.size < 2 ^ 63 = read.0 in
    record { sfits = omega (arith, ints) }

pub returns : goal.returns
returns c =
    let read = size_read c.args.part.now c.in_ok-size.size c.if-part-gt-MOST_DIGITS.false (sym c.in_ok-size.was ∙ c.natural.ensures) in
    let small : c.in_ok-size.size < 2 ^ 63 = read.0 in
    rw read.1 (ap Some (omega (arith, ints)))
