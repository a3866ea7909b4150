use Rattle.sk_vm.proofs.Lawful.{lawful, plan_fits}
use Rattle.sk_vm.proofs.instance.Instance.of.Goals as goal

pub invariant_of-result : goal.invariant_of-result
invariant_of-result c = (
  lawful c.args.object.now c.requires.sound c.requires.parameters c.plan_at.result.now
      (plan_fits c.args.object.now c.requires.sound c.args.number c.plan_at.result.now c.plan_at.ensures),
  tt,
)

pub invariant_of-result-2 : goal.invariant_of-result-2
invariant_of-result-2 c = record {
  sound = c.requires.sound;
  parameters = c.requires.parameters;
  fits = plan_fits c.args.object.now c.requires.sound c.args.number c.plan_at.result.now c.plan_at.ensures;
}
