use Rattle.std.proofs.Common.{length}
use Rattle.sk_types.proofs.function.+names_main.Given as goal

abbrev pub decreases-names_main : goal.decreases-names_main
decreases-names_main l = length l.functions.now
