use Rattle.sk_vector_laws.proofs.Assembly.{sound_runnable}
use Rattle.sk_vector_laws.proofs.laws.sound_vectors_are_runnable.Goals as goal

pub returns : goal.returns
returns c = sound_runnable
