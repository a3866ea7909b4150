use Rattle.std.proofs.Common.{◌∙◌, ap, sym, subst, IfOk}
use Rattle.sk_base.specs.Shape.{cells_of}
use Rattle.sk_host.proofs.Given.{of_means}
use Rattle.sk_host.proofs.Mapped.{single_places, suits_run}
use Rattle.sk_host.proofs.maps.computed.Goals as goal
use Rattle.sk_host.specs.Maps.{IsMap, value_for}
use Rattle.sk_host.specs.Passed.{call_source}
use Rattle.sk_isa_laws.proofs.Callees.{there}
use Rattle.sk_kernel.specs.Kernels.{AgreeRun, Meaning, SuitsRun, given_by}

pub values-requires-clause-single : goal.values-requires-clause-single
values-requires-clause-single c =
    let plan = there c.args.program.now.object.now.instances c.args.instance c.requires.there in
    ap (λ (m : Meaning). m.pairs) (of_means c.args.program.now.object.now c.args.instance c.in_ok-kernel.kernel c.in_ok-kernel.ensures.made plan.0 plan.1)
    ∙ single_places c.args.program.now.object.now plan.0 c.args.call.now.store.now c.args.call.now.operands.now c.args.call.now.kinds.now c.args.call.now.uniforms.now c.args.call.now.over.now (c.requires.may plan.0 plan.1)

pub values-requires-clause-suits : goal.values-requires-clause-suits
values-requires-clause-suits c =
    let plan = there c.args.program.now.object.now.instances c.args.instance c.requires.there in
    subst (λ (m : Meaning). SuitsRun m (call_source c.args.call.now.store.now c.args.call.now.operands.now c.args.call.now.kinds.now c.args.call.now.uniforms.now c.args.call.now.over.now) 0 0 (cells_of c.args.call.now.over.now)) (sym (of_means c.args.program.now.object.now c.args.instance c.in_ok-kernel.kernel c.in_ok-kernel.ensures.made plan.0 plan.1))
    (suits_run c.args.program.now.object.now plan.0 c.args.call.now.store.now c.args.call.now.operands.now c.args.call.now.kinds.now c.args.call.now.uniforms.now c.args.call.now.over.now (c.requires.may plan.0 plan.1))

pub returns-clause-values : goal.returns-clause-values
returns-clause-values c plan cells is agree =
    let same = of_means c.args.program.now.object.now c.args.instance c.in_ok-kernel.kernel c.in_ok-kernel.ensures.made plan is in
    subst (λ (m : Meaning). IfOk c.values.result (IsMap (value_for m (given_by (call_source c.args.call.now.store.now c.args.call.now.operands.now c.args.call.now.kinds.now c.args.call.now.uniforms.now c.args.call.now.over.now) cells)) (cells_of c.args.call.now.over.now))) same
    (c.values.ensures.values cells (subst (λ (m : Meaning). AgreeRun m (call_source c.args.call.now.store.now c.args.call.now.operands.now c.args.call.now.kinds.now c.args.call.now.uniforms.now c.args.call.now.over.now) 0 0 (cells_of c.args.call.now.over.now) cells) (sym same) agree))
