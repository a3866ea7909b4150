use Rattle.sk_scheme_runs.proofs.MeansSource.{means_source}
use Rattle.sk_scheme_runs.proofs.laws.sound_code_means_source.Goals as goal

pub returns : goal.returns
returns c = means_source
