use Rattle.std.proofs.Common.{◌≡◌, ◌++◌, drop}
use Rattle.std.specs.List.{flat_map}
use Rattle.sk_main_emitter.specs.Names.{drop_code}
use Rattle.sk_main_emitter.proofs.names.drop_all.Given as goal

abbrev pub invariant-loop-named : goal.invariant-loop-named
invariant-loop-named l =
    l.code.items ++ flat_map drop_code (drop l.named-index l.names) ≡ l.initial.code.items ++ flat_map drop_code l.names
