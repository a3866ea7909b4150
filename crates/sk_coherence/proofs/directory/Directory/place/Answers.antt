use Rattle.sk_coherence_laws.specs.Steps.{IsAlloc}
use Rattle.sk_coherence_laws.proofs.ServesLemmas.{serves-idle, grows-idle, idle-reserve}
use Rattle.sk_coherence_laws.proofs.FillSums.{traces-idle, idle-trans}
use Rattle.sk_coherence_laws.proofs.PlaceLemmas.{places-idle, placed-places, placed-serves, placed-home, placed-grows, placed-traced}
use Rattle.sk_coherence_laws.specs.HostBlocks.{home_at}
use Rattle.sk_coherence.proofs.directory.Directory.place.Goals as goal

pub returns-in_err-reserve-clause-serves : goal.returns-in_err-reserve-clause-serves
returns-in_err-reserve-clause-serves g c =
    serves-idle c.args.self.now c.reserve.new.self (idle-reserve c.args.self.now c.reserve.new.self c.reserve.ensures.same c.reserve.ensures.spaces c.reserve.ensures.kept)

pub returns-in_err-reserve-clause-stays : goal.returns-in_err-reserve-clause-stays
returns-in_err-reserve-clause-stays g c = λ q there.
    grows-idle c.args.self.now c.reserve.new.self (idle-reserve c.args.self.now c.reserve.new.self c.reserve.ensures.same c.reserve.ensures.spaces c.reserve.ensures.kept) q

pub returns-in_err-reserve-clause-traced : goal.returns-in_err-reserve-clause-traced
returns-in_err-reserve-clause-traced g c = let p = c.args.place in
    traces-idle (IsAlloc (home_at p.store p.space p.block.lo p.block.hi)) c.args.self.now c.reserve.new.self (idle-reserve c.args.self.now c.reserve.new.self c.reserve.ensures.same c.reserve.ensures.spaces c.reserve.ensures.kept)

pub returns-in_err-copy-clause-serves : goal.returns-in_err-copy-clause-serves
returns-in_err-copy-clause-serves g c =
    serves-idle c.args.self.now c.add_copy.new.self (idle-trans c.args.self.now c.reserve.new.self c.add_copy.new.self
    (idle-reserve c.args.self.now c.reserve.new.self c.reserve.ensures.same c.reserve.ensures.spaces c.reserve.ensures.kept) c.in_err-copy.ensures.idle)

pub returns-in_err-copy-clause-stays : goal.returns-in_err-copy-clause-stays
returns-in_err-copy-clause-stays g c = λ q there.
    grows-idle c.args.self.now c.add_copy.new.self (idle-trans c.args.self.now c.reserve.new.self c.add_copy.new.self
    (idle-reserve c.args.self.now c.reserve.new.self c.reserve.ensures.same c.reserve.ensures.spaces c.reserve.ensures.kept) c.in_err-copy.ensures.idle) q

pub returns-in_err-copy-clause-traced : goal.returns-in_err-copy-clause-traced
returns-in_err-copy-clause-traced g c = let p = c.args.place in
    traces-idle (IsAlloc (home_at p.store p.space p.block.lo p.block.hi)) c.args.self.now c.add_copy.new.self (idle-trans c.args.self.now c.reserve.new.self c.add_copy.new.self
    (idle-reserve c.args.self.now c.reserve.new.self c.reserve.ensures.same c.reserve.ensures.spaces c.reserve.ensures.kept) c.in_err-copy.ensures.idle)

pub returns-clause-home : goal.returns-clause-home
returns-clause-home g c = let p = c.args.place in
    placed-home c.args.self.now c.reserve.new.self c.add_copy.new.self c.in_ok-copy.copy.id p.store p.space p.block.lo p.block.hi c.is_sound.ensures c.is_sound-2.ensures
    (idle-reserve c.args.self.now c.reserve.new.self c.reserve.ensures.same c.reserve.ensures.spaces c.reserve.ensures.kept) c.in_ok-copy.ensures.ok c.in_ok-copy.ensures.kept

pub returns-clause-serves : goal.returns-clause-serves
returns-clause-serves g c = let p = c.args.place in
    placed-serves c.args.self.now c.reserve.new.self c.add_copy.new.self c.in_ok-copy.copy.id p.store p.space p.block.lo p.block.hi c.is_sound.ensures c.is_sound-2.ensures
    (idle-reserve c.args.self.now c.reserve.new.self c.reserve.ensures.same c.reserve.ensures.spaces c.reserve.ensures.kept) c.in_ok-copy.ensures.ok c.in_ok-copy.ensures.kept

pub returns-clause-stays : goal.returns-clause-stays
returns-clause-stays g c = let p = c.args.place in
    placed-grows c.args.self.now c.reserve.new.self c.add_copy.new.self c.in_ok-copy.copy.id p.store p.space p.block.lo p.block.hi c.is_sound.ensures c.is_sound-2.ensures
    (idle-reserve c.args.self.now c.reserve.new.self c.reserve.ensures.same c.reserve.ensures.spaces c.reserve.ensures.kept) c.in_ok-copy.ensures.ok c.in_ok-copy.ensures.kept

pub returns-clause-traced : goal.returns-clause-traced
returns-clause-traced g c = let p = c.args.place in
    placed-traced c.args.self.now c.reserve.new.self c.add_copy.new.self c.in_ok-copy.copy.id p.store p.space p.block.lo p.block.hi c.is_sound.ensures c.is_sound-2.ensures
    (idle-reserve c.args.self.now c.reserve.new.self c.reserve.ensures.same c.reserve.ensures.spaces c.reserve.ensures.kept) c.in_ok-copy.ensures.ok c.in_ok-copy.ensures.kept
    c.in_default.ensures.none c.in_ok-copy.ensures.noted c.in_ok-copy.ensures.traced

pub returns-in_err-reserve-clause-places : goal.returns-in_err-reserve-clause-places
returns-in_err-reserve-clause-places g c =
    let p = c.args.place in places-idle c.args.self.now c.reserve.new.self (home_at p.store p.space p.block.lo p.block.hi) (idle-reserve c.args.self.now c.reserve.new.self c.reserve.ensures.same c.reserve.ensures.spaces c.reserve.ensures.kept)

pub returns-in_err-copy-clause-places : goal.returns-in_err-copy-clause-places
returns-in_err-copy-clause-places g c =
    let p = c.args.place in places-idle c.args.self.now c.add_copy.new.self (home_at p.store p.space p.block.lo p.block.hi) (idle-trans c.args.self.now c.reserve.new.self c.add_copy.new.self
    (idle-reserve c.args.self.now c.reserve.new.self c.reserve.ensures.same c.reserve.ensures.spaces c.reserve.ensures.kept) c.in_err-copy.ensures.idle)

pub returns-clause-places : goal.returns-clause-places
returns-clause-places g c = let p = c.args.place in
    placed-places c.args.self.now c.reserve.new.self c.add_copy.new.self c.in_ok-copy.copy.id p.store p.space p.block.lo p.block.hi c.is_sound.ensures c.is_sound-2.ensures
    (idle-reserve c.args.self.now c.reserve.new.self c.reserve.ensures.same c.reserve.ensures.spaces c.reserve.ensures.kept) c.in_ok-copy.ensures.ok c.in_ok-copy.ensures.kept
