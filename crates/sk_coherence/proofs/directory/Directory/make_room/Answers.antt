use Rattle.std.proofs.Common.{ℕ, ◌-◌, arith, subst}
use Rattle.sk_coherence_laws.specs.HostBlocks.{home_at, IsHostHome}
use Rattle.sk_coherence_laws.proofs.HostLemmas.{makes-idle}
use Rattle.sk_coherence_laws.proofs.ServesLemmas.{idle-none, serves-idle, serves-trans}
use Rattle.sk_coherence_laws.proofs.FillSums.{traces-idle}
use Rattle.sk_coherence.specs.Room.{IsFull, IsMakingWay}
use Rattle.sk_coherence.proofs.LeftLemmas.{left-same, left-trans, hosts-trans}
use Rattle.sk_coherence.proofs.RoomLemmas.{traces-making}
use Rattle.sk_coherence.proofs.PinnedLemmas.{pinned-none, pinned-trans}
use Rattle.sk_coherence.proofs.directory.Directory.make_room.Goals as goal

pub evictions-init : goal.evictions-init
evictions-init g c = let a = c.args.self.now in let p = c.args.place in record {
  serves = serves-idle a a (idle-none a);
  pinned = pinned-none a;
  kept = left-same a p.space;
  made = makes-idle a a (IsHostHome a) (idle-none a);
  traced = traces-idle (IsMakingWay a (home_at p.store p.space p.block.lo p.block.hi)) a a (idle-none a);
}

pub evictions-preserved : goal.evictions-preserved
evictions-preserved g c =
    let a = c.args.self.now in
    let b = c.evictions.self in
    let n = c.evict_one.new.self in
    let p = c.args.place in
    let v = c.evictions.invariant in
    let full : IsFull b p.space (p.block.hi - p.block.lo) = subst (λ (len : ℕ). IsFull b p.space len) (omega (arith, c.len.ensures)) (c.is_full.ensures.0 c.evictions-test.true) in
    record {
      serves = serves-trans a b n c.is_sound.ensures v.serves c.evict_one.ensures.serves;
      pinned = pinned-trans a b n v.serves v.pinned c.evict_one.ensures.pinned;
      kept = left-trans a b n p.space c.is_sound.ensures v.serves c.evict_one.ensures.serves v.kept c.in_ok-evict_one.ensures.kept;
      made = hosts-trans a b n v.serves c.evict_one.ensures.serves v.made c.evict_one.ensures.made;
      traced = traces-making a b n (home_at p.store p.space p.block.lo p.block.hi) v.serves v.made v.kept c.requires.absent full v.traced c.evict_one.ensures.traced;
    }

pub returns-in_err-evict_one-clause-serves : goal.returns-in_err-evict_one-clause-serves
returns-in_err-evict_one-clause-serves g c = let v = c.evictions.invariant in
    serves-trans c.args.self.now c.evictions.self c.evict_one.new.self c.is_sound.ensures v.serves c.evict_one.ensures.serves

pub returns-in_err-evict_one-clause-traced : goal.returns-in_err-evict_one-clause-traced
returns-in_err-evict_one-clause-traced g c =
    let b = c.evictions.self in
    let p = c.args.place in
    let v = c.evictions.invariant in
    let full : IsFull b p.space (p.block.hi - p.block.lo) = subst (λ (len : ℕ). IsFull b p.space len) (omega (arith, c.len.ensures)) (c.is_full.ensures.0 c.evictions-test.true) in
    traces-making c.args.self.now b c.evict_one.new.self (home_at p.store p.space p.block.lo p.block.hi) v.serves v.made v.kept c.requires.absent full v.traced c.evict_one.ensures.traced

pub returns-in_err-evict_one-clause-pinned : goal.returns-in_err-evict_one-clause-pinned
returns-in_err-evict_one-clause-pinned g c = let v = c.evictions.invariant in
    pinned-trans c.args.self.now c.evictions.self c.evict_one.new.self v.serves v.pinned c.evict_one.ensures.pinned

pub returns-in_err-evict_one-clause-made : goal.returns-in_err-evict_one-clause-made
returns-in_err-evict_one-clause-made g c = let v = c.evictions.invariant in
    hosts-trans c.args.self.now c.evictions.self c.evict_one.new.self v.serves c.evict_one.ensures.serves v.made c.evict_one.ensures.made
