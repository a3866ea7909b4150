use Rattle.std.proofs.Common.{◌≡◌, ◌++◌}
use Rattle.sk_typing.specs.TypingNames as names
use Rattle.sk_types.proofs.places.push_numbers.Given as goal

abbrev pub invariant-loop-i : goal.invariant-loop-i
invariant-loop-i l = l.places ≡ l.initial.places ++ names.numbers l._i
