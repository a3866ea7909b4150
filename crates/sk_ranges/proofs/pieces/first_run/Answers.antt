use Rattle.std.proofs.Common.{arith}
use Rattle.sk_ranges.specs.declared.pieces.Piece.{Piece}
use Rattle.sk_ranges.specs.declared.state.State.TheVariants.{Stale}
use Rattle.sk_ranges.proofs.ReadLemmas.{run_at}
use Rattle.sk_ranges.proofs.pieces.first_run.Goals as goal

pub returns-clause-run : goal.returns-clause-run
returns-clause-run c =
    let d : Piece = record { end = 0; state = Stale } in
    let there = c.place.ensures.inside (omega arith) in
    run_at c.args.pieces.now c.place.result c.args.range.lo c.min.result c.args.range.hi d c.requires.tidy there c.place.ensures.before (c.place.ensures.after d there) c.requires.some c.requires.inside c.min.ensures
