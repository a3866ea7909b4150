use Rattle.std.proofs.Common.{◌≡◌, drop}
use Rattle.sk_trace.specs.Candidates.{number_from, wide_in}
use Rattle.sk_trace.proofs.numbers.wide.Given as goal

abbrev pub invariant-digits : goal.invariant-digits
invariant-digits l = number_from l.number (drop l.byte-index l.word) ≡ wide_in l.word
