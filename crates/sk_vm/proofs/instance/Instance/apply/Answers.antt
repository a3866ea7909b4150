use Rattle.std.proofs.Common.{◌≡◌, ap, subst}
use Rattle.sk_kernel.specs.Kernels.{Agree, Meaning, given_by}
use Rattle.sk_vm.specs.Instantiated.{Instantiated}
use Rattle.sk_vm.proofs.Lawful.{first_meaning}
use Rattle.sk_vm.proofs.instance.Instance.apply.Goals as goal

pub returns-clause-value : goal.returns-clause-value
returns-clause-value g c cells agree =
    subst (λ (m : Meaning). Agree m (g.D.Data.means c.args.source.now) c.args.at.place c.args.at.pair cells
    → c.run.result ≡ m.value (given_by (g.D.Data.means c.args.source.now) cells) c.args.at.place c.args.at.pair)
    (first_meaning c.self.inside.object.now c.args.self.now c.turn_to_first.new.frame (ap (λ (i : Instantiated). i.object) c.self.view_is) c.turn_to_first.ensures.first)
    (c.run.ensures.value cells) agree
