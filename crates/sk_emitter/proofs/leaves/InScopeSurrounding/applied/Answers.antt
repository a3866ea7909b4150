use Rattle.std.specs.Option.{option_map}
use Rattle.sk_emitter.specs.Names.{slot_of, callee_of}
use Rattle.sk_emitter.proofs.FunctionLeaves.{applies_in_function}
use Rattle.sk_emitter.proofs.leaves.InScopeSurrounding.applied.Goals as goal

pub returns : goal.returns
returns c parts =
    applies_in_function (option_map slot_of c.place-place.result) (option_map callee_of c.callee.result) c.args.name.now parts c.args.self.now
    c.in_ok-applied.applied c.place-place.ensures c.callee.ensures c.in_ok-applied.ensures
