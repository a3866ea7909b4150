use Rattle.sk_typed_laws.proofs.WrittenPrograms.{texts_formed}
use Rattle.sk_typed_laws.proofs.laws.programs_of_texts_are_formed.Goals as goal

pub returns : goal.returns
returns c = texts_formed
