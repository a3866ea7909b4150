use Rattle.sk_main_names.proofs.Objects.{standing_have_names}
use Rattle.sk_main_names.proofs.laws.standing_vectors_have_names.Goals as goal

pub returns : goal.returns
returns c = standing_have_names
