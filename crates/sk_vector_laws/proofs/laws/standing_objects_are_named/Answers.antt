use Rattle.sk_vector_laws.proofs.Names.{standing_named}
use Rattle.sk_vector_laws.proofs.laws.standing_objects_are_named.Goals as goal

pub returns : goal.returns
returns c = standing_named
