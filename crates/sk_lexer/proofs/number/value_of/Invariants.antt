use Rattle.std.proofs.Common.{◌≡◌, ◌-◌, ◌^◌, min, take}
use Rattle.sk_tokens.specs.Lexemes.{digits_value}
use Rattle.sk_lexer.proofs.number.value_of.Given as goal

abbrev pub invariant-loop-digit : goal.invariant-loop-digit
invariant-loop-digit l = l.value ≡ min (digits_value l.base (take l.digit-index l.digits)) (2 ^ 64 - 1)
