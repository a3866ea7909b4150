use Rattle.sk_ranges.specs.declared.pieces.Piece.{Piece}
use Rattle.sk_ranges.specs.declared.state.State.TheVariants.{Stale}
use Rattle.sk_ranges.proofs.StateLemmas.{states_same, states_differ}
use Rattle.sk_ranges.proofs.SideLemmas.{right_joined_at, right_kept_at, right_end_at}
use Rattle.sk_ranges.proofs.change.right_of.Goals as goal
use Rattle.sk_ranges.proofs.change.right_of.Goals.{else-at-pieces-via-then-at-pieces+else-eq, else-at-pieces-via-else-at-pieces}

pub returns-then-eq-clause-right : goal.returns-then-eq-clause-right
returns-then-eq-clause-right c =
    let d : Piece = record { end = 0; state = Stale } in
    let at = c.place-at.ensures in
    right_joined_at c.args.pieces.now c.place-at.result c.args.hi c.args.state d c.requires.tidy c.if-at-pieces.true at.before (at.after d c.if-at-pieces.true) (states_same _ _ _ c.eq.ensures c.if-eq.true)

pub returns-clause-right : goal.returns-clause-right
returns-clause-right c =
    let d : Piece = record { end = 0; state = Stale } in
    let at = c.place-at.ensures in
    elim c.else-at-pieces.branch [
      | else-at-pieces-via-then-at-pieces+else-eq w ↦ right_kept_at c.args.pieces.now c.place-at.result c.args.hi c.args.state d c.requires.tidy w.if-at-pieces.true at.before (at.after d w.if-at-pieces.true) (states_differ _ _ _ w.eq.ensures w.if-eq.false)
      | else-at-pieces-via-else-at-pieces w ↦ right_end_at c.args.pieces.now c.place-at.result c.args.hi c.args.state c.requires.tidy w.if-at-pieces.false at.before c.requires.inside
    ]
