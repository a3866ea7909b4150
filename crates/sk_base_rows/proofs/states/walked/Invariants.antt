use Rattle.std.proofs.Common.{◌-◌}
use Rattle.sk_base_rows.proofs.states.walked.Given as goal

abbrev pub decreases-runs : goal.decreases-runs
decreases-runs l = l.end - l.lo
