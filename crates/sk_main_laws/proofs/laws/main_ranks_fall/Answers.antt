use Rattle.sk_main_laws.proofs.Ranks.{ranks_fall}
use Rattle.sk_main_laws.proofs.laws.main_ranks_fall.Goals as goal

pub returns : goal.returns
returns c = ranks_fall
