use Rattle.std.proofs.Common.{refl, arith, ◌≤◌, ◌-◌, ◌++◌, length}
use Rattle.std.specs.Prelude.{slice_set}
use Rattle.std.proofs.lemmas.List.{length-set}
use Rattle.sk_columns.specs.declared.level.Level.TheVariants.{Here}
use Rattle.sk_columns.proofs.Leading.{done_one}
use Rattle.sk_columns.proofs.step.unary.Goals as goal

pub returns : goal.returns
returns g c instr takes =
    let levels = c.args.levels.now in
    let inside : c.args.height ≤ length (slice_set levels (c.args.height - 1) Here) = omega (arith, c.requires.inside, length-set levels (c.args.height - 1) Here) in
    done_one instr c.args.action (g.L.Lanes.known c.args.lanes.now) (length c.args.first.now) c.args.height levels (slice_set levels (c.args.height - 1) Here) (c.args.first.now ++ c.args.above.now) (c.combine_at.new.first ++ c.combine_at.new.above)
    takes c.if-height-lt1.false c.requires.inside inside refl (c.if-not-combine_at.ensures.below refl) (c.if-not-combine_at.ensures.here refl)
