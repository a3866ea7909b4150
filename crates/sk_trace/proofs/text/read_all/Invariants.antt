use Rattle.std.proofs.Common.{length}
use Rattle.sk_trace.proofs.Written.{IsReadTo}
use Rattle.sk_trace.proofs.text.read_all.Given as goal

abbrev pub invariant-lines : goal.invariant-lines
invariant-lines l = IsReadTo l.bytes l.steps.items l.rest

abbrev pub decreases-lines : goal.decreases-lines
decreases-lines l = length l.rest
