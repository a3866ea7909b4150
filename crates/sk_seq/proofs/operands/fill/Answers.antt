use Rattle.std.proofs.Common.{length, sym, subst}
use Rattle.sk_kernel.specs.Kernels.{AreValues, given_by}
use Rattle.sk_seq.proofs.Mapped.{agree_run, as_operands}
use Rattle.sk_seq.proofs.operands.fill.Goals as goal
use Rattle.sk_seq.specs.Operands.{FoldsValues, MayFold, operand_at}
use Rattle.sk_seq.specs.declared.operands.Operands.{Operands}

pub returns-in-Values-clause-values : goal.returns-in-Values-clause-values
returns-in-Values-clause-values g c cells agree =
    let meaning = g.K.Kernel.means c.args.kernel.now in
    let source = g.D.Data.means c.args.source.now in
    let may : FoldsValues meaning source c.args.first (length c.args.out.now) =
    subst (λ (o : Operands). MayFold o meaning source c.args.first (length c.args.out.now)) c.in-Values.is c.requires.may in
    subst (λ (o : Operands). AreValues (operand_at o meaning (given_by source cells) c.args.first) c.apply_each.new.out c.apply_each.result) (sym c.in-Values.is)
    (as_operands meaning (given_by source cells) c.args.first c.apply_each.new.out c.apply_each.result may.single
    (c.apply_each.ensures.values cells (agree_run meaning source c.args.first 0 (length c.args.out.now) cells may.suits agree)))
