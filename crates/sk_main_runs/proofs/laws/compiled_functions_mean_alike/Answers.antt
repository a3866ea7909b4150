use Rattle.sk_main_runs.proofs.SameFunctions.{means_alike}
use Rattle.sk_main_runs.proofs.laws.compiled_functions_mean_alike.Goals as goal

pub returns : goal.returns
returns c = means_alike
