use Rattle.sk_typed_laws.proofs.Functions.{typed_functions_plain}
use Rattle.sk_typed_laws.proofs.laws.typed_functions_are_plain.Goals as goal

pub returns : goal.returns
returns c = typed_functions_plain
