use Rattle.std.proofs.Common.{◌≡◌, drop, flat_map}
use Rattle.sk_typing.specs.Inputs.{distinct_after, taken_of}
use Rattle.sk_main_emitter.proofs.inputs.+taken.Given as goal

abbrev pub invariant-take_all-loop-next : goal.invariant-take_all-loop-next
invariant-take_all-loop-next l =
    distinct_after l.inputs (flat_map taken_of (drop l.next-index l.statements)) ≡ distinct_after l.initial.inputs (flat_map taken_of l.statements)
