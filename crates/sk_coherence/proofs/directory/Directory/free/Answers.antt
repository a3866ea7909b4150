use Rattle.sk_coherence_laws.proofs.FreeLemmas.{traced-free}
use Rattle.sk_coherence.proofs.directory.Directory.free.Goals as goal

pub returns-clause-traced : goal.returns-clause-traced
returns-clause-traced g c = let f = c.let_go.ensures.freed in
    traced-free c.args.self.now c.let_go.new.self c.args.copy.id f.0 f.1 f.2 c.is_sound.ensures f.3 c.requires.owns_none
