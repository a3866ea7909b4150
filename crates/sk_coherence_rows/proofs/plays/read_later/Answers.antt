use Rattle.sk_coherence_rows.proofs.FullLemmas.{keeps-acquires}
use Rattle.sk_coherence_rows.proofs.plays.read_later.Goals as goal

pub returns : goal.returns
returns c = record { keeps = keeps-acquires c.args.dir.now c.acquire_later.new.self _ c.in_ok-transfers.ensures.ok }
