use Rattle.std.proofs.Common.{◌≡◌, ◌++◌, ◌∷◌, take}
use Rattle.std.specs.List.{flat_map}
use Rattle.sk_data.proofs.joined.put_behind.Given as goal

abbrev pub invariant-numbers : goal.invariant-numbers
invariant-numbers g l = l.out.items ≡ l.fn.out.items ++ flat_map (λ number. l.separator ∷ g.I.Integer.text number) (take l.number-index l.numbers)
