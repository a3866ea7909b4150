use Rattle.std.proofs.Common.{arith}
use Rattle.sk_ranks.proofs.SetLemmas.{Rises-leaf, Rises-pair, Rises-parent}
use Rattle.sk_ranks.proofs.number_set.set.Goals as goal

pub levels-init : goal.levels-init
levels-init c = Rises-leaf c.args.sums.now c.args.leaves c.args.number c.args.mark c.requires.tree c.requires.inside

pub overflow_add-sums-in-levels-2 : goal.overflow_add-sums-in-levels-2
overflow_add-sums-in-levels-2 c =
    let pair = Rises-pair _ _ _ _ _ c.levels.invariant c.levels-test.true in
    search (arith, c.requires.fits)

pub levels-preserved : goal.levels-preserved
levels-preserved c = Rises-parent _ _ _ _ _ c.levels.invariant c.levels-test.true
