use Rattle.std.proofs.Common.{ap, length, subst}
use Rattle.sk_kernel.specs.Kernels.{AgreeRun, AreValues, Meaning, given_by, run_value}
use Rattle.sk_vm.specs.Instantiated.{Instantiated}
use Rattle.sk_vm.proofs.Lawful.{first_meaning}
use Rattle.sk_vm.proofs.instance.Instance.apply_each.Goals as goal

pub returns-clause-values : goal.returns-clause-values
returns-clause-values g c cells agree =
    subst (λ (m : Meaning). AgreeRun m (g.D.Data.means c.args.source.now) c.args.at.place c.args.at.pair (length c.args.out.now) cells
    → AreValues (run_value m (given_by (g.D.Data.means c.args.source.now) cells) c.args.at.place c.args.at.pair) c.run_each.new.out c.run_each.result)
    (first_meaning c.self.inside.object.now c.args.self.now c.turn_to_first.new.frame (ap (λ (i : Instantiated). i.object) c.self.view_is) c.turn_to_first.ensures.first)
    (c.run_each.ensures.values cells) agree
