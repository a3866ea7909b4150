use Rattle.std.proofs.Common.{arith, ◌∙◌}
use Rattle.std.proofs.lemmas.List.{get_or_read}
use Rattle.sk_ranks.proofs.CountLemmas.{root-there, root-count}
use Rattle.sk_ranks.proofs.number_set.NumberSet.count.Goals as goal

pub index-requires : goal.index-requires
index-requires c =
    let there = root-there c.self.inside c.self.invariant in
    omega (arith, c.self.inside.sums.ok)

pub returns : goal.returns
returns c =
    rw (← c.self.view_is) (get_or_read c.self.inside.sums.items 1 _ (root-there c.self.inside c.self.invariant) c.index.ensures 0 ∙ root-count c.self.inside c.self.invariant)
