use Rattle.sk_vector_laws.proofs.Means.{vectors_mean}
use Rattle.sk_vector_laws.proofs.laws.typed_vectors_mean_source.Goals as goal

pub returns : goal.returns
returns c = vectors_mean
