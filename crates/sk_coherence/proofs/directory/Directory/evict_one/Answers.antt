use Rattle.sk_spaces.specs.Spaces.{used_at}
use Rattle.sk_coherence_laws.specs.Directory.{copy_at}
use Rattle.sk_coherence_laws.proofs.ServesLemmas.{idle-none, serves-idle}
use Rattle.sk_coherence_laws.proofs.FillSums.{traces-idle}
use Rattle.sk_coherence.specs.Room.{IsGivingWay}
use Rattle.sk_coherence.proofs.RoomLemmas.{far_in, less-taken, traces-giving}
use Rattle.sk_coherence.proofs.PinnedLemmas.{pinned-far}
use Rattle.sk_coherence.proofs.LeftLemmas.{left-gone, back-hosts}
use Rattle.sk_coherence_laws.proofs.HostLemmas.{makes-idle}
use Rattle.sk_coherence_laws.specs.HostBlocks.{IsHostHome}
use Rattle.sk_coherence.proofs.directory.Directory.evict_one.Goals as goal

pub evict-requires-clause-far : goal.evict-requires-clause-far
evict-requires-clause-far g c = far_in (copy_at c.args.self.now c.in_ok-copy.copy.id) c.args.space c.requires.far c.in_ok-copy.ensures.far

pub returns-in_err-copy-clause-serves : goal.returns-in_err-copy-clause-serves
returns-in_err-copy-clause-serves g c = serves-idle c.args.self.now c.args.self.now (idle-none c.args.self.now)

pub returns-in_err-copy-clause-traced : goal.returns-in_err-copy-clause-traced
returns-in_err-copy-clause-traced g c = traces-idle (IsGivingWay c.args.self.now c.args.space (used_at c.args.self.now.spaces c.args.space)) c.args.self.now c.args.self.now (idle-none c.args.self.now)

pub returns-in_err-evict-clause-traced : goal.returns-in_err-evict-clause-traced
returns-in_err-evict-clause-traced g c = traces-giving c.args.self.now c.evict.new.self c.in_ok-copy.copy.id c.args.space c.requires.far c.in_ok-copy.ensures.there
    c.in_ok-copy.ensures.far c.in_ok-copy.ensures.unpinned c.evict.ensures.traced

pub returns-clause-less : goal.returns-clause-less
returns-clause-less g c = less-taken c.args.self.now c.evict.new.self c.in_ok-copy.copy.id c.args.space c.is_sound.ensures c.requires.far c.in_ok-copy.ensures.there c.in_ok-copy.ensures.far
    c.in_ok-evict.ensures.ok

pub returns-clause-traced : goal.returns-clause-traced
returns-clause-traced g c = traces-giving c.args.self.now c.evict.new.self c.in_ok-copy.copy.id c.args.space c.requires.far c.in_ok-copy.ensures.there
    c.in_ok-copy.ensures.far c.in_ok-copy.ensures.unpinned c.evict.ensures.traced

pub returns-in_err-evict-clause-pinned : goal.returns-in_err-evict-clause-pinned
returns-in_err-evict-clause-pinned g c = pinned-far c.args.self.now c.evict.new.self c.in_ok-copy.copy.id c.in_ok-copy.ensures.unpinned c.evict.ensures.others

pub returns-clause-pinned : goal.returns-clause-pinned
returns-clause-pinned g c = pinned-far c.args.self.now c.evict.new.self c.in_ok-copy.copy.id c.in_ok-copy.ensures.unpinned c.evict.ensures.others

pub returns-in_err-copy-clause-made : goal.returns-in_err-copy-clause-made
returns-in_err-copy-clause-made g c = makes-idle c.args.self.now c.args.self.now (IsHostHome c.args.self.now) (idle-none c.args.self.now)

pub returns-in_err-evict-clause-made : goal.returns-in_err-evict-clause-made
returns-in_err-evict-clause-made g c = back-hosts c.args.self.now c.evict.new.self c.in_ok-copy.copy.id c.evict.ensures.made

pub returns-clause-made : goal.returns-clause-made
returns-clause-made g c = back-hosts c.args.self.now c.evict.new.self c.in_ok-copy.copy.id c.evict.ensures.made

pub returns-clause-kept : goal.returns-clause-kept
returns-clause-kept g c =
    left-gone c.args.self.now c.evict.new.self c.in_ok-copy.copy.id c.args.space c.requires.far c.evict.ensures.others c.in_ok-evict.ensures.ok.gone
