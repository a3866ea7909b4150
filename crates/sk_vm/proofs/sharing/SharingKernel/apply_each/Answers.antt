use Rattle.std.proofs.Common.{length, subst}
use Rattle.sk_kernel.specs.Kernels.{AgreeRun, AreValues, given_by, run_value}
use Rattle.sk_vm.specs.Instantiated.{Instantiated, meaning_of}
use Rattle.sk_vm.proofs.sharing.SharingKernel.apply_each.Goals as goal

pub returns-clause-values : goal.returns-clause-values
returns-clause-values g c cells agree =
    subst (λ (i : Instantiated). AgreeRun (meaning_of i) (g.D.Data.means c.args.source.now) c.args.at.place c.args.at.pair (length c.args.out.now) cells
    → AreValues (run_value (meaning_of i) (given_by (g.D.Data.means c.args.source.now) cells) c.args.at.place c.args.at.pair) c.apply_each.new.out c.apply_each.result) c.self.view_is
    (c.apply_each.ensures.values cells) agree
