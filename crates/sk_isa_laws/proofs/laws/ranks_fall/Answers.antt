use Rattle.sk_isa_laws.proofs.Ranks.{rank_falls, rank_bound, rank_outside}
use Rattle.sk_isa_laws.proofs.laws.ranks_fall.Goals as goal

pub returns : goal.returns
returns c = λ instrs loops. record { falls = rank_falls instrs loops; bounded = rank_bound instrs loops; outside = rank_outside instrs }
