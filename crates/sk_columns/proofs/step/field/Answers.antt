use Rattle.std.proofs.Common.{◌++◌, ◌+◌, length, arith, refl}
use Rattle.std.specs.Prelude.{slice_set}
use Rattle.sk_columns.specs.declared.level.Level.TheVariants.{Here}
use Rattle.sk_columns.proofs.Leading.{done_field}
use Rattle.sk_columns.proofs.step.field.Goals as goal

pub returns : goal.returns
returns g c =
    done_field c.args.slot c.args.name.now c.in_ok-from.from (g.L.Lanes.known c.args.lanes.now) (length c.args.first.now) c.args.height (c.args.height + 1)
    c.args.levels.now (slice_set c.args.levels.now c.args.height Here) (c.args.first.now ++ c.args.above.now) (c.count_at.new.first ++ c.count_at.new.above)
    c.in_ok-from.ensures (omega arith) c.if-height-levels.false refl (c.if-not-count_at.ensures.below refl) (c.if-not-count_at.ensures.here refl)
