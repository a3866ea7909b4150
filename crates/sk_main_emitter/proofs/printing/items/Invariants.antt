use Rattle.std.proofs.Common.{drop, map}
use Rattle.sk_main_scheme.specs.MainScheme.{item_emitted}
use Rattle.sk_main_emitter.proofs.MainWriters.{Continues}
use Rattle.sk_main_emitter.proofs.printing.items.Given as goal

abbrev pub invariant-loop-one : goal.invariant-loop-one
invariant-loop-one l =
    Continues (map item_emitted l.items) (map item_emitted (drop l.one-index l.items)) l.initial.writer l.writer l.depth
