use Rattle.std.proofs.Common.{refl, arith}
use Rattle.sk_ranks.specs.Followers.{numbers_in}
use Rattle.sk_ranks.proofs.FollowerLemmas.{AddsTo-push}
use Rattle.sk_ranks.proofs.followers.add.Goals as goal

pub awaited-preserved : goal.awaited-preserved
awaited-preserved c =
    AddsTo-push (numbers_in c.args.lists.now) c.awaited.lists c.args.who c.awaited.e-index _ c.args.awaited.now c.index-lists-e.result c.push.new.self
    c.awaited.invariant c.awaited-test.true refl (omega (arith, c.requires c.awaited.e-index 0 c.awaited-test.true)) c.in_ok-push.ensures.items
