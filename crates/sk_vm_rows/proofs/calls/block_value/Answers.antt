use Rattle.std.proofs.Common.{to_z, of_z, w64}
use Rattle.sk_vm_rows.proofs.Taking.{block-suits, stored-in-range}
use Rattle.sk_vm_rows.proofs.calls.block_value.Goals as goal

pub run_each-requires-clause-suits : goal.run_each-requires-clause-suits
run_each-requires-clause-suits c =
    block-suits c.args.object.now c.args.function c.args.frame.now (to_z w64 (of_z w64 c.from.result)) c.args.shape.now c.args.uniforms.now
    c.requires.compiled c.requires.ready c.requires.ints c.requires.shape
    (stored-in-range c.args.element c.from.result c.from.ensures c.ranges.element) c.requires.range
