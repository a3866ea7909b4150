use Rattle.std.proofs.Common.{◌≡◌, ◌++◌, drop, map}
use Rattle.std.specs.Fmt.{decimal}
use Rattle.sk_words.specs.Strung.{strung}
use Rattle.sk_words.proofs.numbers.put_decimals.Given as goal

-- what is appended and what is left are the whole
abbrev pub invariant-loop-number : goal.invariant-loop-number
invariant-loop-number l =
    l.out.items ++ strung l.between l.front (map decimal (drop l.number-index l.numbers))
    ≡ l.initial.out.items ++ strung l.between l.initial.lead (map decimal l.numbers)
