use Rattle.std.proofs.Common.{◌≡◌, ℕ, length, subst}
use Rattle.sk_kernel.specs.Kernels.{given_by}
use Rattle.sk_formula.specs.Elements.{folded}
use Rattle.sk_seq.proofs.Folded.{piece_done, piece_trapped}
use Rattle.sk_seq.proofs.folds.fold_piece.Goals as goal
use Rattle.sk_seq.specs.Operands.{operand_at}
use Rattle.std.specs.Prelude.{Ok, Err}

pub returns-in-Ok-clause-value : goal.returns-in-Ok-clause-value
returns-in-Ok-clause-value g c cells agree =
    let meaning = g.K.Kernel.means c.args.kernel.now in
    let source = g.D.Data.means c.args.source.now in
    let size : length c.split_at_mut-part.result.0.now ≡ c.args.count = c.split_at_mut-part.ensures.front_len in
    piece_done meaning c.args.operands source cells c.args.front c.args.first c.args.count c.in-Ok.folded
    (subst (λ (n : ℕ). folded meaning.join (operand_at c.args.operands meaning (given_by source cells) c.args.first) c.args.front 0 n ≡ Ok c.in-Ok.folded) size
    (c.in-Ok.ensures.value cells agree))

pub returns-in-Err-clause-value : goal.returns-in-Err-clause-value
returns-in-Err-clause-value g c cells agree =
    let meaning = g.K.Kernel.means c.args.kernel.now in
    let source = g.D.Data.means c.args.source.now in
    let size : length c.split_at_mut-part.result.0.now ≡ c.args.count = c.split_at_mut-part.ensures.front_len in
    piece_trapped meaning c.args.operands source cells c.args.front c.args.first c.args.count (record { trap = c.in-Err.trapped.trap; element = c.in-Err.trapped.offset })
    (subst (λ (n : ℕ). folded meaning.join (operand_at c.args.operands meaning (given_by source cells) c.args.first) c.args.front 0 n ≡ Err (record { trap = c.in-Err.trapped.trap; element = c.in-Err.trapped.offset })) size
    (c.in-Err.ensures.value cells agree))
