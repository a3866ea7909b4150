use Rattle.std.proofs.Common.{◌≡◌, ◌-◌, suc, arith, ◌∙◌}
use Rattle.sk_columns.proofs.Rows.{kept_above, value-row_above}
use Rattle.sk_columns.proofs.step.count_at.Goals as goal

pub returns-else-row-eq0-clause-below : goal.returns-else-row-eq0-clause-below
returns-else-row-eq0-clause-below c = λ done index less.
    let none = c.if-row-eq0.false in
    let upper : c.args.row ≡ suc (c.args.row - 1) = omega (arith, none) in
    kept_above c.args.first.now c.args.above.now c.count_above.new.rows c.args.row (c.args.row - 1) upper (c.count_above.ensures.below done) index less

pub returns-else-row-eq0-clause-here : goal.returns-else-row-eq0-clause-here
returns-else-row-eq0-clause-here c = λ done place inside.
    let none = c.if-row-eq0.false in
    let upper : c.args.row ≡ suc (c.args.row - 1) = omega (arith, none) in
    value-row_above c.args.first.now c.count_above.new.rows c.args.row (c.args.row - 1) place upper ∙ c.count_above.ensures.here done place inside
