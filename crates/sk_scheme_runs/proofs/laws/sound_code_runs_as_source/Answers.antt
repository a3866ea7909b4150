use Rattle.sk_scheme_runs.proofs.MeansSource.{runs_as_source}
use Rattle.sk_scheme_runs.proofs.laws.sound_code_runs_as_source.Goals as goal

pub returns : goal.returns
returns c = runs_as_source
