use Rattle.std.proofs.Common.{rules, length, ◌++◌, FitsSigned, subst, w64, ℤ}
use Rattle.std.specs.Prelude.{IfSome}
use Rattle.std.proofs.lemmas.Int.{to_z-of_z}
use Rattle.sk_columns.specs.Blocks.{IsPushed}
use Rattle.sk_columns.specs.declared.level.Level.TheVariants.{Number}
use Rattle.sk_columns.proofs.Leading.{done_number}
use Rattle.sk_columns.proofs.step.step.Goals as goal

pub returns-in-Push : goal.returns-in-Push
returns-in-Push g c =
    let fits : FitsSigned w64 c.in-Push.number = search rules in
    done_number c.args.instr.now c.in-Push.number (g.L.Lanes.known c.args.lanes.now) (length c.args.first.now) c.args.height c.args.levels.now c.push.new.levels (c.args.first.now ++ c.args.above.now) c.push.result
    c.in-Push.is
    (subst (λ (x : ℤ). IfSome c.push.result (λ after. IsPushed (Number x) c.args.height c.args.levels.now after c.push.new.levels)) (to_z-of_z w64 c.in-Push.number fits) c.push.ensures)
