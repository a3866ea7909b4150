use Rattle.std.specs.Option.{option_map}
use Rattle.sk_emitter.specs.Names.{callee_of}
use Rattle.sk_main_emitter.specs.Names.{named_of}
use Rattle.sk_main_emitter.proofs.MainLeaves.{applies_in_main}
use Rattle.sk_main_emitter.proofs.leaves.InMainSurrounding.applied.Goals as goal

pub returns : goal.returns
returns c parts =
    applies_in_main (option_map named_of c.named-named.result) (option_map callee_of c.callee.result) c.args.name.now parts c.args.self.now
    c.in_ok-applied.applied c.named-named.ensures c.callee.ensures c.in_ok-applied.ensures
