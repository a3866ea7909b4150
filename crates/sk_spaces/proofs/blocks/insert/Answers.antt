use Rattle.sk_spaces.proofs.UsedLemmas.{used-insert}
use Rattle.sk_spaces.proofs.blocks.insert.Goals as goal

pub returns-in-Ok-clause-used : goal.returns-in-Ok-clause-used
returns-in-Ok-clause-used c =
    λ space. rw (c.in-Ok.ensures.entries) (used-insert c.args.blocks.now.entries c.args.id c.args.held space c.requires.absent)
