use Rattle.sk_vector_laws.proofs.Assembly.{compiled_typed_run, runs_as_source, sound_typed_run, typed_run}
use Rattle.sk_vector_laws.proofs.laws.typed_vectors_run.Goals as goal

pub returns : goal.returns
returns c = record { runs = runs_as_source; standing = typed_run; sound = sound_typed_run; compiled = compiled_typed_run }
