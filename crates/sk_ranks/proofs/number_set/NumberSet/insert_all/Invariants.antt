use Rattle.std.proofs.Common.{take}
use Rattle.sk_ranks.specs.Numbers.{Inserts}
use Rattle.sk_ranks.proofs.number_set.NumberSet.insert_all.Given as goal

abbrev pub invariant-numbers : goal.invariant-numbers
invariant-numbers l = Inserts l.fn.self l.self (take l.number-index l.numbers)
