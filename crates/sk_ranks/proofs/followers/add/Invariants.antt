use Rattle.std.proofs.Common.{take}
use Rattle.sk_ranks.specs.Followers.{AddsTo, numbers_in}
use Rattle.sk_ranks.proofs.followers.add.Given as goal

abbrev pub invariant-awaited : goal.invariant-awaited
invariant-awaited l = AddsTo (numbers_in l.fn.lists) (numbers_in l.lists) l.who (take l.e-index l.awaited)
