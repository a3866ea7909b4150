use Rattle.sk_coherence_rows.proofs.FullLemmas.{keeps-acquires, pins-acquires, pinned-acquires}
use Rattle.sk_coherence_rows.proofs.plays.read.Goals as goal

pub returns-clause-keeps : goal.returns-clause-keeps
returns-clause-keeps c = keeps-acquires c.args.dir.now c.acquire_read.new.self c.in_ok-copy.copy.id c.in_ok-copy.ensures.ok

pub returns-clause-pins : goal.returns-clause-pins
returns-clause-pins c = pins-acquires c.args.dir.now c.acquire_read.new.self c.in_ok-copy.copy.id c.in_ok-copy.ensures.ok

pub returns-clause-pinned : goal.returns-clause-pinned
returns-clause-pinned c = pinned-acquires c.args.dir.now c.acquire_read.new.self c.in_ok-copy.copy.id c.in_ok-copy.ensures.ok c.in_ok-copy.ensures.pinned
