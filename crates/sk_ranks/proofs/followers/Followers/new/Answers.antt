use Rattle.std.proofs.Common.{◌∙◌, ap, [], replicate, arith}
use Rattle.sk_ranks.specs.Followers.{numbers_in}
use Rattle.sk_ranks.proofs.FollowerLemmas.{numbers_in-push}
use Rattle.sk_ranks.proofs.followers.Followers.new.Goals as goal

pub loop-init : goal.loop-init
loop-init c = ap numbers_in c.in_ok-lists.ensures.items

pub loop-preserved : goal.loop-preserved
loop-preserved c = ap numbers_in c.in_ok-push.ensures.items ∙ numbers_in-push c.loop.lists.items c.new.result c.loop.counter c.loop.invariant c.new.ensures.items

pub returns : goal.returns
returns c = c.loop.invariant ∙ ap (λ n. replicate n []) (omega arith)
