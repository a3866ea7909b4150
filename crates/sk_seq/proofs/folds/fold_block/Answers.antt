use Rattle.std.proofs.Common.{length}
use Rattle.sk_kernel.specs.Kernels.{given_by}
use Rattle.sk_seq.proofs.Folded.{filled_traps, filled_upto, filled_whole}
use Rattle.sk_seq.proofs.folds.fold_block.Goals as goal
use Rattle.sk_seq.specs.Operands.{operand_at}

pub returns-in-None-clause-value : goal.returns-in-None-clause-value
returns-in-None-clause-value g c cells agree =
    let meaning = g.K.Kernel.means c.args.kernel.now in
    let source = g.D.Data.means c.args.source.now in
    filled_whole (g.K.Kernel.means c.fill_before-filled.new.kernel) meaning (operand_at c.args.operands meaning (given_by source cells) c.args.first)
    c.fill_before-filled.new.out c.fill_before-filled.result c.args.front (length c.args.block.now) c.fill_before-filled.ensures.same
    (c.fill_before-filled.ensures.values cells agree) c.fill_before-filled.ensures.count c.in-Ok.folded c.in-None.is c.in-Ok.ensures.value

pub returns-in-Some-clause-value : goal.returns-in-Some-clause-value
returns-in-Some-clause-value g c cells agree =
    let meaning = g.K.Kernel.means c.args.kernel.now in
    let source = g.D.Data.means c.args.source.now in
    filled_upto (g.K.Kernel.means c.fill_before-filled.new.kernel) meaning (operand_at c.args.operands meaning (given_by source cells) c.args.first)
    c.fill_before-filled.new.out c.fill_before-filled.result c.args.front (length c.args.block.now) c.fill_before-filled.ensures.same
    (c.fill_before-filled.ensures.values cells agree) c.fill_before-filled.ensures.count c.in-Ok.folded c.in-Some.trap c.in-Some.is c.in-Ok.ensures.value

pub returns-in-Err-clause-value : goal.returns-in-Err-clause-value
returns-in-Err-clause-value g c cells agree =
    let meaning = g.K.Kernel.means c.args.kernel.now in
    let source = g.D.Data.means c.args.source.now in
    filled_traps (g.K.Kernel.means c.fill_before-filled.new.kernel) meaning (operand_at c.args.operands meaning (given_by source cells) c.args.first)
    c.fill_before-filled.new.out c.fill_before-filled.result c.args.front (length c.args.block.now) c.fill_before-filled.ensures.same
    (c.fill_before-filled.ensures.values cells agree) c.fill_before-filled.ensures.count (record { trap = c.in-Err.trapped.trap; element = c.in-Err.trapped.offset })
    c.fill_before-filled.ensures.upto c.in-Err.ensures.value
