use Rattle.sk_main_names.proofs.Objects.{compiled_have_names}
use Rattle.sk_main_names.proofs.laws.compiled_vectors_have_names.Goals as goal

pub returns : goal.returns
returns c = compiled_have_names
