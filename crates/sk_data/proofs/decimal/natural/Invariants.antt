use Rattle.sk_data.proofs.Digits.{IsRead}
use Rattle.sk_data.proofs.decimal.natural.Given as goal

abbrev pub invariant-digits : goal.invariant-digits
invariant-digits l = IsRead l.text l.byte-index l.value
