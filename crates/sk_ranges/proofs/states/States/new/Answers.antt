use Rattle.std.proofs.Common.{◌++◌, ◌∷◌, [], List, ap, ◌∙◌}
use Rattle.sk_ranges.specs.declared.pieces.Piece.{Piece}
use Rattle.sk_ranges.specs.declared.state.State.TheVariants.{Stale}
use Rattle.sk_ranges.proofs.ViewLemmas.{states_of-one, states_of-none}
use Rattle.sk_ranges.proofs.states.States.new.Goals as goal
use Rattle.sk_ranges.proofs.states.States.new.Goals.{then-len-gt0, else-len-gt0}

pub returns-clause-states : goal.returns-clause-states
returns-clause-states c =
    let p : Piece = record { end = c.args.len; state = Stale } in
    elim c.if-len-gt0.branch [
      | then-len-gt0 w ↦ states_of-one c.if-len-gt0.pieces.items c.args.len (ap (λ v. v.items) w.pieces-is ∙ w.push_reserved.ensures.items ∙ ap (λ (ps : List Piece). ps ++ p ∷ []) c.in_ok-pieces.ensures.items)
      | else-len-gt0 w ↦ states_of-none c.if-len-gt0.pieces.items c.args.len (ap (λ v. v.items) w.pieces-is ∙ c.in_ok-pieces.ensures.items) w.if-len-gt0.false
    ]
