use Rattle.sk_scheme_runs.proofs.MeansSource.{functions_mean_source}
use Rattle.sk_scheme_runs.proofs.laws.sound_functions_mean_source.Goals as goal

pub returns : goal.returns
returns c = functions_mean_source
