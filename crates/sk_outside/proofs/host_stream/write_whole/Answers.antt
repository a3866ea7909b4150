use Rattle.sk_outside.proofs.Pieces.{Written-more}
use Rattle.sk_outside.proofs.host_stream.write_whole.Goals as goal

pub pieces-preserved : goal.pieces-preserved
pieces-preserved g c =
    Written-more _ c.pieces.rest.now _ _ _ c.in_ok-taken.taken c.in_ok-taken.ensures.bound c.pieces.invariant c.in_ok-taken.ensures.bytes
