use Rattle.std.proofs.Common.{arith}
use Rattle.sk_ranks.proofs.FindLemmas.{Finds-root, Finds-left, Finds-right, Finds-child}
use Rattle.sk_ranks.proofs.number_set.find.Goals as goal

pub levels-init : goal.levels-init
levels-init c = Finds-root c.args.sums.now c.args.leaves c.args.rank c.requires.tree c.requires.below

pub bounds-sums-width : goal.bounds-sums-width
bounds-sums-width c =
    let child = Finds-child _ _ _ _ _ _ c.requires.tree c.levels.invariant c.levels-test.true in
    omega (arith, c.requires.tree.length)

pub levels-preserved-then-left-rest : goal.levels-preserved-then-left-rest
levels-preserved-then-left-rest c =
    Finds-right _ _ _ _ _ _ c.requires.tree c.levels.invariant c.levels-test.true c.if-left-rest.true

pub levels-preserved : goal.levels-preserved
levels-preserved c =
    Finds-left _ _ _ _ _ _ c.requires.tree c.levels.invariant c.levels-test.true (omega arith)
