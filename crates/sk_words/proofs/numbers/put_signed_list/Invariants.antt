use Rattle.std.proofs.Common.{◌≡◌, ◌++◌, [], drop, map, codes}
use Rattle.std.specs.Fmt.{signed_decimal}
use Rattle.sk_words.specs.Strung.{strung}
use Rattle.sk_words.proofs.numbers.put_signed_list.Given as goal

-- what is appended and what is left are the whole
abbrev pub invariant-loop-number : goal.invariant-loop-number
invariant-loop-number l =
    l.out.items ++ strung (codes ", ") l.lead (map signed_decimal (drop l.number-index l.numbers))
    ≡ l.initial.out.items ++ strung (codes ", ") [] (map signed_decimal l.numbers)
