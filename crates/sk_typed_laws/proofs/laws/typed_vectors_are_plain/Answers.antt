use Rattle.sk_typed_laws.proofs.Programs.{typed_vectors_plain}
use Rattle.sk_typed_laws.proofs.laws.typed_vectors_are_plain.Goals as goal

pub returns : goal.returns
returns c = typed_vectors_plain
