use Rattle.std.proofs.Common.{arith}
use Rattle.sk_data.proofs.Short.{fit_more, fit_all}
use Rattle.sk_data.proofs.from_text.longest.Goals as goal

pub inputs-preserved : goal.inputs-preserved
inputs-preserved c = record {
  names =
      fit_more c.args.declared.now c.inputs.input-index c.inputs.most c.room_for-most.result c.input-item.result c.inputs-test.true c.input-item.is
      c.inputs.invariant.names c.room_for-most.ensures.0 c.room_for-most.ensures.1;
  shapes = let more = c.room_for-most.ensures.0 in let roomy = c.inputs.invariant.shapes in omega (arith, more, roomy);
}

pub returns-clause-names : goal.returns-clause-names
returns-clause-names c = fit_all c.args.declared.now c.inputs.input-index c.inputs.most c.inputs-test.false c.inputs.invariant.names
