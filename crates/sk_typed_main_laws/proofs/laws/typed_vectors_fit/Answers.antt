use Rattle.sk_typed_main_laws.proofs.Programs.{vectors_fit}
use Rattle.sk_typed_main_laws.proofs.laws.typed_vectors_fit.Goals as goal

pub returns : goal.returns
returns c = vectors_fit
