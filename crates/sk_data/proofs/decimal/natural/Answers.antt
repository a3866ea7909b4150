use Rattle.std.proofs.Common.{sym, ◌∙◌}
use Rattle.sk_data.proofs.Digits.{no_natural, read_more}
use Rattle.sk_data.proofs.decimal.natural.Goals as goal

pub returns-then-not-is_ascii_digit : goal.returns-then-not-is_ascii_digit
returns-then-not-is_ascii_digit c =
    let none = no_natural c.args.text.now c.digits.byte-index c.digits-test.true (sym c.is_ascii_digit.ensures.value ∙ c.if-not-is_ascii_digit.true) in
    rw none

pub digits-preserved : goal.digits-preserved
digits-preserved c =
    read_more c.args.text.now c.digits.byte-index c.digits.value c.saturating_mul.result c.from.result c.saturating_add-value.result
    c.digits-test.true c.digits.invariant (sym c.is_ascii_digit.ensures.value ∙ c.if-not-is_ascii_digit.false)
    c.saturating_mul.ensures c.from.ensures c.saturating_add-value.ensures
