use Rattle.sk_vector_laws.proofs.Assembly.{compiled_runnable}
use Rattle.sk_vector_laws.proofs.laws.compiled_vectors_are_runnable.Goals as goal

pub returns : goal.returns
returns c = compiled_runnable
