use Rattle.sk_coherence_rows.proofs.FlyingLemmas.{received-keeps}
use Rattle.sk_coherence_rows.proofs.plays.receive.Goals as goal

pub returns-clause-keeps : goal.returns-clause-keeps
returns-clause-keeps c = received-keeps c.args.dir.now c.deliver.new.self c.args.sent.message c.args.sent.to.id c.requires.flying c.deliver.ensures.delivered
