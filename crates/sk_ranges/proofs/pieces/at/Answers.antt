use Rattle.std.proofs.Common.{sym}
use Rattle.sk_ranges.specs.declared.pieces.Piece.{Piece}
use Rattle.sk_ranges.specs.declared.state.State.TheVariants.{Stale}
use Rattle.sk_ranges.proofs.ReadLemmas.{state_of-at}
use Rattle.sk_ranges.proofs.pieces.at.Goals as goal

pub returns : goal.returns
returns c =
    let d : Piece = record { end = 0; state = Stale } in
    let there = c.place.ensures.inside c.requires.inside in
    sym (state_of-at c.args.pieces.now c.place.result c.args.index d c.requires.tidy there c.place.ensures.before (c.place.ensures.after d there))
