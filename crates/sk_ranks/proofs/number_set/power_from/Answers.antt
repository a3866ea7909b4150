use Rattle.std.proofs.Common.{arith, refl}
use Rattle.sk_ranks.specs.Sums.{one}
use Rattle.sk_ranks.proofs.SumLemmas.{IsPower-double, IsPower-positive}
use Rattle.sk_ranks.proofs.number_set.power_from.Goals as goal

pub powers-init : goal.powers-init
powers-init c = (one 1 refl, omega arith)

pub powers-smaller : goal.powers-smaller
powers-smaller c = let some = IsPower-positive _ c.powers.invariant.0 in omega arith

pub powers-preserved : goal.powers-preserved
powers-preserved c = (IsPower-double _ _ refl c.powers.invariant.0, omega (arith, c.powers.invariant.1))
