use Rattle.std.proofs.Common.{◌≡◌, take}
use Rattle.sk_types.specs.Told.{seen, parts_told}
use Rattle.sk_types.proofs.argument.parts_fault.Given as goal

abbrev pub invariant-loop-argument : goal.invariant-loop-argument
invariant-loop-argument l = l.least ≡ parts_told (seen l.around) (take l.argument-index l.arguments)
