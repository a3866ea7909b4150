use Rattle.std.proofs.Common.{◌≡◌, ◌++◌, drop, map}
use Rattle.sk_emitter.specs.Applications.{piece_of, numbers_in}
use Rattle.sk_emitter.proofs.expressions.containers.Given as goal

abbrev pub invariant-loop-part : goal.invariant-loop-part
invariant-loop-part g l =
    l.numbers ++ numbers_in g.N.Surrounding.number (map (piece_of g.N.Surrounding.leaves) (drop l.part-index l.parts)) l.names
    ≡ numbers_in g.N.Surrounding.number (map (piece_of g.N.Surrounding.leaves) l.parts) l.names
