use Rattle.std.proofs.Common.{arith, length, pos, slice_index_or}
use Rattle.sk_columns.proofs.Proceeding.{given-begun}
use Rattle.sk_columns.proofs.statements.evaluate.Goals as goal

pub returns : goal.returns
returns g c = λ done place inside.
    given-begun c.args.instrs.now (g.L.Lanes.known c.args.lanes.now place) c.span_of-span.result.least c.begin.new.levels c.split_at_mut-kept.result.0.now
    (length c.args.out.now) place (slice_index_or c.body.new.first place (pos 0)) (λ row less. c.begin.ensures row (omega (arith, c.begin.auto.levels, less))) (c.body.ensures done place inside)
