use Rattle.std.proofs.Common.{length}
use Rattle.sk_data_rows.proofs.distinct.+all_differ.Given as goal

abbrev pub decreases-all_differ : goal.decreases-all_differ
decreases-all_differ l = length l.declared.now
