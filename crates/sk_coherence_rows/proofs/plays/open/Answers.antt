use Rattle.sk_coherence_rows.proofs.FullLemmas.{keeps-opens, pins-opens}
use Rattle.sk_coherence_rows.proofs.plays.open.Goals as goal

pub returns-clause-keeps : goal.returns-clause-keeps
returns-clause-keeps c = keeps-opens c.args.dir.now c.open.new.self c.in_ok-store.store.id _ c.is_sound.ensures c.in_ok-store.ensures.ok

pub returns-clause-pins : goal.returns-clause-pins
returns-clause-pins c = pins-opens c.args.dir.now c.open.new.self c.in_ok-store.store.id _ c.in_ok-store.ensures.ok
