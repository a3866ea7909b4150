use Rattle.std.proofs.Common.{◌≡◌, ◌+◌, ◌<◌, None, length, take, get_or, subst, add-one, arith}
use Rattle.sk_ranges.specs.declared.pieces.Piece.{Piece}
use Rattle.sk_ranges.specs.declared.state.State.{State}
use Rattle.sk_ranges.specs.declared.state.State.TheVariants.{Stale}
use Rattle.sk_ranges.specs.Pieces.{end_of, state_of}
use Rattle.sk_ranges.specs.States.{IsRun}
use Rattle.sk_ranges.proofs.PieceLemmas.{end_of-take, place_inside}
use Rattle.sk_ranges.proofs.StateLemmas.{states_same, states_differ}
use Rattle.sk_ranges.proofs.ReadLemmas.{run_at, next_ends, earlier_more}
use Rattle.sk_ranges.proofs.pieces.missing.Goals as goal

pub returns-then-eq-clause-first : goal.returns-then-eq-clause-first
returns-then-eq-clause-first c =
    let d : Piece = record { end = 0; state = Stale } in
    let ps = c.args.pieces.now in
    let all = c.pieces.invariant in
    let there : c.pieces.at < length ps = place_inside ps c.pieces.at c.pieces.lo all.within all.before (omega arith) in
    let found = run_at ps c.pieces.at c.pieces.lo c.min-hi.result c.args.range.hi d c.requires.tidy there all.before (all.after d there) c.pieces-test.true c.requires.inside c.min-hi.ensures in
    record { within = all.from; earlier = all.earlier; run = subst (λ (s : State). IsRun (state_of ps) s c.pieces.lo c.min-hi.result c.args.range.hi) (states_same (get_or ps c.pieces.at d).state Stale _ c.eq.ensures c.if-eq.true) found }

pub pieces-preserved : goal.pieces-preserved
pieces-preserved c =
    let d : Piece = record { end = 0; state = Stale } in
    let ps = c.args.pieces.now in
    let all = c.pieces.invariant in
    let there : c.pieces.at < length ps = place_inside ps c.pieces.at c.pieces.lo all.within all.before (omega arith) in
    let ends : end_of 0 (take (c.pieces.at + 1) ps) ≡ (get_or ps c.pieces.at d).end = rw add-one (end_of-take 0 ps c.pieces.at d there) in
    record {
      from = omega (arith, all.after d there);
      within = omega arith;
      before = omega (arith, ends);
      after = λ e more. next_ends 0 None ps c.pieces.at d e c.requires.tidy more;
      earlier = earlier_more ps c.pieces.at c.args.range.lo c.pieces.lo d c.requires.tidy there all.before (states_differ _ _ _ c.eq.ensures c.if-eq.false) all.earlier;
    }
