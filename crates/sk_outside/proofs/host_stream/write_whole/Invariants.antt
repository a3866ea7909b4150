use Rattle.std.proofs.Common.{length}
use Rattle.sk_outside.proofs.Pieces.{Written}
use Rattle.sk_outside.proofs.host_stream.write_whole.Given as goal

abbrev pub invariant-pieces : goal.invariant-pieces
invariant-pieces g l = Written l.bytes l.rest (g.W.Write.contents l.initial.writer) (g.W.Write.contents l.writer)

abbrev pub decreases-pieces : goal.decreases-pieces
decreases-pieces g l = length l.rest
