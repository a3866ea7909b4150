use Rattle.sk_isa_laws.proofs.Callees.{functions_have_values}
use Rattle.sk_isa_laws.proofs.laws.functions_have_values.Goals as goal

pub returns : goal.returns
returns c = functions_have_values
