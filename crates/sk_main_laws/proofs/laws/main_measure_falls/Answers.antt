use Rattle.sk_main_laws.proofs.Ranks.{main_measure_falls}
use Rattle.sk_main_laws.proofs.laws.main_measure_falls.Goals as goal

pub returns : goal.returns
returns c = main_measure_falls
