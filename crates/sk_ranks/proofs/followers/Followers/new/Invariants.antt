use Rattle.std.proofs.Common.{◌≡◌, [], replicate}
use Rattle.sk_ranks.specs.Followers.{numbers_in}
use Rattle.sk_ranks.proofs.followers.Followers.new.Given as goal

abbrev pub invariant-loop : goal.invariant-loop
invariant-loop l = numbers_in l.lists.items ≡ replicate l.counter []
