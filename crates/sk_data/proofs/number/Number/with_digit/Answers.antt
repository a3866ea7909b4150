use Rattle.std.proofs.Common.{subst}
use Rattle.sk_data.specs.Spelt.{IsReadAs}
use Rattle.sk_data.proofs.NumbersRead.{digit_more, first_negative, next_negative}
use Rattle.sk_data.proofs.number.Number.with_digit.Goals as goal

pub returns-in-Minus : goal.returns-in-Minus
returns-in-Minus c = λ bytes read.
    first_negative bytes c.args.digit c.shifted-in-Minus.result c.requires c.shifted-in-Minus.ensures (subst (λ n. IsReadAs n bytes) c.in-Minus.is read)

pub returns-in-Positive : goal.returns-in-Positive
returns-in-Positive c = λ bytes read.
    digit_more bytes c.in-Positive.magnitude c.args.digit c.shifted-in-Positive.result c.requires (subst (λ n. IsReadAs n bytes) c.in-Positive.is read) c.shifted-in-Positive.ensures

pub returns-in-Negative : goal.returns-in-Negative
returns-in-Negative c = λ bytes read.
    next_negative bytes c.in-Negative.magnitude c.args.digit c.shifted-in-Negative.result c.requires c.shifted-in-Negative.ensures (subst (λ n. IsReadAs n bytes) c.in-Negative.is read)
