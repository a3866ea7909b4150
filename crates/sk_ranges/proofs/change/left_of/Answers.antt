use Rattle.sk_ranges.proofs.SideLemmas.{left_before}
use Rattle.sk_ranges.proofs.change.left_of.Goals as goal

pub returns-clause-left : goal.returns-clause-left
returns-clause-left c =
    left_before c.args.pieces.now _ _ c.args.lo c.args.state c.before-side.ensures.before (c.without.ensures.left c.args.pieces.now c.before-side.ensures.before.tidy)
