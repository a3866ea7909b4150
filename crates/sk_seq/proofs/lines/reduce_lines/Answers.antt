use Rattle.sk_formula.specs.Calls.{element_value}
use Rattle.std.proofs.Common.{length}
use Rattle.sk_seq.proofs.LineCalls.{columns_same, columns_taken, lines_computed, rows_same, rows_taken}
use Rattle.sk_seq.proofs.lines.reduce_lines.Goals as goal
use Rattle.sk_seq.specs.Given.{functions_over, sizes_in}
use Rattle.sk_seq.specs.Lines.{line_fold}
use Rattle.sk_seq.specs.declared.line_folds.Lines.TheVariants.{Columns, Rows}
use Rattle.sk_tree.specs.declared.tree.Skeleton.TheVariants.{Reduce}

pub fold_lines-requires-clause-may : goal.fold_lines-requires-clause-may
fold_lines-requires-clause-may g c unit from upto behind less =
    let sizes = c.matrix_sizes-sizes in
    columns_taken (g.K.Kernel.means c.args.kernel.now) (g.D.Data.means c.args.source.now) c.shape.result.now sizes.result.rows sizes.result.columns
    (g.met.D.Data.holds_inside c.args.source.now) c.shape.ensures sizes.ensures.rows sizes.ensures.columns sizes.ensures.bounded
    c.args.settings.now.columns c.if-settings.true unit (c.requires.held unit from upto) behind less

pub fold_lines-requires-else-settings-clause-may : goal.fold_lines-requires-else-settings-clause-may
fold_lines-requires-else-settings-clause-may g c unit from upto behind less =
    let sizes = c.matrix_sizes-sizes in
    rows_taken (g.K.Kernel.means c.args.kernel.now) (g.D.Data.means c.args.source.now) c.shape.result.now sizes.result.rows sizes.result.columns
    (g.met.D.Data.holds_inside c.args.source.now) c.shape.ensures sizes.ensures.rows sizes.ensures.columns sizes.ensures.bounded
    c.args.settings.now.columns c.if-settings.false unit (c.requires.held unit from upto) behind less

pub returns-then-settings-clause-values : goal.returns-then-settings-clause-values
returns-then-settings-clause-values g c cells agree =
    let sizes = c.matrix_sizes-sizes in
    let functions = functions_over (g.K.Kernel.means c.args.kernel.now) (g.D.Data.means c.args.source.now) cells in
    lines_computed (element_value Reduce c.args.settings.now (sizes_in (g.D.Data.means c.args.source.now)) functions)
    (line_fold (Columns sizes.result.columns) functions c.args.settings.now.start sizes.result.rows) c.args.units.lo c.args.units.hi (length c.args.out.now)
    c.fold_lines.new.out c.fold_lines.result
    (columns_same (g.K.Kernel.means c.args.kernel.now) (g.D.Data.means c.args.source.now) c.shape.result.now sizes.result.rows sizes.result.columns
    (g.met.D.Data.holds_inside c.args.source.now) c.shape.ensures sizes.ensures.rows sizes.ensures.columns sizes.ensures.bounded
    c.args.settings.now functions c.if-settings.true)
    c.requires.count (c.fold_lines.ensures.values cells agree)

pub returns-else-settings-clause-values : goal.returns-else-settings-clause-values
returns-else-settings-clause-values g c cells agree =
    let sizes = c.matrix_sizes-sizes in
    let functions = functions_over (g.K.Kernel.means c.args.kernel.now) (g.D.Data.means c.args.source.now) cells in
    lines_computed (element_value Reduce c.args.settings.now (sizes_in (g.D.Data.means c.args.source.now)) functions)
    (line_fold (Rows sizes.result.columns) functions c.args.settings.now.start sizes.result.columns) c.args.units.lo c.args.units.hi (length c.args.out.now)
    c.fold_lines-else-settings.new.out c.fold_lines-else-settings.result
    (rows_same (g.K.Kernel.means c.args.kernel.now) (g.D.Data.means c.args.source.now) c.shape.result.now sizes.result.rows sizes.result.columns
    (g.met.D.Data.holds_inside c.args.source.now) c.shape.ensures sizes.ensures.rows sizes.ensures.columns sizes.ensures.bounded
    c.args.settings.now functions c.if-settings.false)
    c.requires.count (c.fold_lines-else-settings.ensures.values cells agree)
