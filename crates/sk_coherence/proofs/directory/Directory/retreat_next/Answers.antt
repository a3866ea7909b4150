use Rattle.sk_coherence_laws.proofs.ServesLemmas.{idle-none}
use Rattle.sk_coherence.proofs.RetreatLemmas.{retreats-idle}
use Rattle.sk_coherence.proofs.directory.Directory.retreat_next.Goals as goal

pub returns-then-not-part-clause-retreats : goal.returns-then-not-part-clause-retreats
returns-then-not-part-clause-retreats g c = retreats-idle c.args.self.now c.args.self.now c.args.copy.id (idle-none c.args.self.now)
