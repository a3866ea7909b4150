use Rattle.std.proofs.Common.{◌<◌, length, arith}
use Rattle.sk_ranges.specs.declared.pieces.Piece.{Piece}
use Rattle.sk_ranges.specs.declared.state.State.TheVariants.{Stale}
use Rattle.sk_ranges.proofs.SideLemmas.{before_at}
use Rattle.sk_ranges.proofs.change.before.Goals as goal

pub returns-clause-before : goal.returns-clause-before
returns-clause-before c =
    let d : Piece = record { end = 0; state = Stale } in
    let ps = c.args.pieces.now in
    let at = c.place-at.result in
    let inside : at < length ps = c.place-at.ensures.inside (omega arith) in
    before_at ps at c.args.lo d c.requires.tidy inside (omega (arith, c.place-at.ensures.before)) (omega (arith, c.place-at.ensures.after d inside))
