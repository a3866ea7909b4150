use Rattle.sk_main_runs.proofs.UnmarkedEnds.{standing_ends}
use Rattle.sk_main_runs.proofs.laws.standing_ends_alike.Goals as goal

pub returns : goal.returns
returns c = standing_ends
