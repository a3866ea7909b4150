use Rattle.sk_vector_laws.proofs.WrittenPrograms.{texts_named}
use Rattle.sk_vector_laws.proofs.laws.programs_of_texts_are_named_shortly.Goals as goal

pub returns : goal.returns
returns c = texts_named
