use Rattle.std.proofs.Common.{refl}
use Rattle.sk_ranks.proofs.LoopLemmas.{Inserts-more}
use Rattle.sk_ranks.proofs.number_set.NumberSet.insert_all.Goals as goal

pub numbers-preserved : goal.numbers-preserved
numbers-preserved c =
    rw c.insert.ensures (Inserts-more c.args.self.now c.numbers.self c.args.numbers.now c.numbers.number-index _ c.numbers.invariant c.numbers-test.true refl (c.requires c.numbers.number-index 0 c.numbers-test.true))
