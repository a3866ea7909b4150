use Rattle.sk_scheme_runs.proofs.MeansSource.{means_source}
use Rattle.sk_scheme_sound.proofs.SoundObjects.{plain_is_sound}
use Rattle.sk_codegen.proofs.laws.code_means_source.Goals as goal

pub returns : goal.returns
returns c program plain = means_source program plain (plain_is_sound program plain)
