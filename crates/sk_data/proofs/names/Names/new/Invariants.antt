use Rattle.std.proofs.Common.{◌≡◌, map, take}
use Rattle.sk_data.proofs.names.Names.new.Given as goal

abbrev pub invariant-inputs : goal.invariant-inputs
invariant-inputs l = map (λ name. name.now) l.names.keys ≡ map (λ input. input.name) (take l.input-index l.declared)
