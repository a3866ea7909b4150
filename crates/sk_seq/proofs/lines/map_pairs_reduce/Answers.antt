use Rattle.sk_formula.specs.Calls.{element_value}
use Rattle.std.proofs.Common.{length}
use Rattle.sk_seq.proofs.LineCalls.{lines_computed, pair_columns_same, pair_columns_taken, pair_rows_same, pair_rows_taken}
use Rattle.sk_seq.proofs.lines.map_pairs_reduce.Goals as goal
use Rattle.sk_seq.specs.Given.{functions_over, sizes_in}
use Rattle.sk_seq.specs.Lines.{line_fold}
use Rattle.sk_seq.specs.declared.line_folds.Lines.TheVariants.{PairColumns, PairRows}
use Rattle.sk_tree.specs.declared.tree.Skeleton.TheVariants.{MapPairsReduce}

pub fold_lines-requires-clause-may : goal.fold_lines-requires-clause-may
fold_lines-requires-clause-may g c unit from upto behind less =
    pair_columns_taken (g.K.Kernel.means c.args.kernel.now) (g.D.Data.means c.args.source.now) c.requires.takes c.args.settings.now.columns c.if-settings.true unit
    (c.requires.suits unit from upto) c.shape.result.now c.shape.ensures c.cells-operands.result c.cells-operands.ensures.value behind less

pub fold_lines-requires-else-settings-clause-may : goal.fold_lines-requires-else-settings-clause-may
fold_lines-requires-else-settings-clause-may g c unit from upto behind less =
    pair_rows_taken (g.K.Kernel.means c.args.kernel.now) (g.D.Data.means c.args.source.now) c.requires.takes c.args.settings.now.columns c.if-settings.false unit
    (c.requires.suits unit from upto) c.shape-else-settings.result.now c.shape-else-settings.ensures c.cells-operands-else-settings.result
    c.cells-operands-else-settings.ensures.value behind less

pub returns-then-settings-clause-values : goal.returns-then-settings-clause-values
returns-then-settings-clause-values g c cells agree =
    let functions = functions_over (g.K.Kernel.means c.args.kernel.now) (g.D.Data.means c.args.source.now) cells in
    lines_computed (element_value MapPairsReduce c.args.settings.now (sizes_in (g.D.Data.means c.args.source.now)) functions)
    (line_fold PairColumns functions c.args.settings.now.start c.cells-operands.result) c.args.units.lo c.args.units.hi (length c.args.out.now)
    c.fold_lines.new.out c.fold_lines.result
    (pair_columns_same (g.K.Kernel.means c.args.kernel.now) (g.D.Data.means c.args.source.now) c.requires.takes c.args.settings.now functions c.if-settings.true
    c.shape.result.now c.shape.ensures c.cells-operands.result c.cells-operands.ensures.value)
    c.requires.count (c.fold_lines.ensures.values cells agree)

pub returns-else-settings-clause-values : goal.returns-else-settings-clause-values
returns-else-settings-clause-values g c cells agree =
    let functions = functions_over (g.K.Kernel.means c.args.kernel.now) (g.D.Data.means c.args.source.now) cells in
    lines_computed (element_value MapPairsReduce c.args.settings.now (sizes_in (g.D.Data.means c.args.source.now)) functions)
    (line_fold PairRows functions c.args.settings.now.start c.cells-operands-else-settings.result) c.args.units.lo c.args.units.hi (length c.args.out.now)
    c.fold_lines-else-settings.new.out c.fold_lines-else-settings.result
    (pair_rows_same (g.K.Kernel.means c.args.kernel.now) (g.D.Data.means c.args.source.now) c.requires.takes c.args.settings.now functions c.if-settings.false
    c.shape-else-settings.result.now c.shape-else-settings.ensures c.cells-operands-else-settings.result c.cells-operands-else-settings.ensures.value)
    c.requires.count (c.fold_lines-else-settings.ensures.values cells agree)
