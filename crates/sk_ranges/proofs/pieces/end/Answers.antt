use Rattle.sk_ranges.specs.declared.state.State.TheVariants.{Stale}
use Rattle.sk_ranges.proofs.PieceLemmas.{end_of-last}
use Rattle.sk_ranges.proofs.pieces.end.Goals as goal

pub returns-in-len1-up : goal.returns-in-len1-up
returns-in-len1-up c = end_of-last c.args.pieces.now (record { end = 0; state = Stale }) c.in-len1-up.len_at_least
