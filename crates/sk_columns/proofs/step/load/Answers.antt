use Rattle.std.proofs.Common.{rules, FitsSigned, subst, w64, ℤ}
use Rattle.std.specs.Prelude.{IfSome}
use Rattle.std.proofs.lemmas.Int.{to_z-of_z}
use Rattle.sk_columns.specs.Blocks.{IsPushed}
use Rattle.sk_columns.specs.declared.level.Level.TheVariants.{Number}
use Rattle.sk_columns.proofs.Leading.{done_column, done_uniform}
use Rattle.sk_columns.proofs.step.load.Goals as goal

pub returns-in-Some : goal.returns-in-Some
returns-in-Some g c rows =
    let fits : FitsSigned w64 c.in-Some.number = search rules in
    done_uniform c.args.slot c.in-Some.number (g.L.Lanes.known c.args.lanes.now) c.args.block c.args.height c.args.levels.now c.push.new.levels rows c.push.result
    c.in-Some.ensures
    (subst (λ (x : ℤ). IfSome c.push.result (λ after. IsPushed (Number x) c.args.height c.args.levels.now after c.push.new.levels)) (to_z-of_z w64 c.in-Some.number fits) c.push.ensures)

pub returns : goal.returns
returns g c rows =
    done_column c.args.slot c.column.result.now (g.L.Lanes.known c.args.lanes.now) c.args.block c.args.height c.args.levels.now c.push-2.new.levels rows c.push-2.result
    c.if-column-block.false c.column.ensures c.push-2.ensures
