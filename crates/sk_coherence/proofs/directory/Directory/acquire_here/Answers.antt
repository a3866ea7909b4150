use Rattle.std.proofs.Common.{Option, arith, rules, refl, sym, subst, ap, ◌∙◌}
use Rattle.sk_copy_states.specs.declared.held.Held.{Held}
use Rattle.sk_copy_states.specs.Copies.{KeepsStates, home_in}
use Rattle.sk_coherence_laws.proofs.OweLemmas.{pinned-more}
use Rattle.sk_coherence_laws.specs.Directory.{copy_at}
use Rattle.sk_coherence_laws.specs.Acquires.{IsRoomFault}
use Rattle.sk_coherence_laws.proofs.NamedMoves.{on_err_any, if_err_of}
use Rattle.sk_coherence_laws.proofs.ServesLemmas.{serves-trans}
use Rattle.sk_coherence_laws.proofs.AcquireLemmas.{home_there, reaches_home, owned-on, fault-room, traces-place, traces-filled, traces-pin, home-pinned, read-pinned, serves-unpinned}
use Rattle.sk_coherence.proofs.PinnedLemmas.{but-placed}
use Rattle.sk_coherence.proofs.LeftLemmas.{only-placed, only-grown, only-homes, homes-pinned, left-placed}
use Rattle.sk_coherence_laws.specs.HostBlocks.{home_at}
use Rattle.sk_coherence_laws.specs.Steps.{IsServing}
use Rattle.sk_coherence.proofs.directory.Directory.acquire_here.Goals as goal

pub fill_needed-requires-clause-there : goal.fill_needed-requires-clause-there
fill_needed-requires-clause-there g c = let p = c.args.place in
    home_there (copy_at c.place.new.self c.in_ok-copy.copy.id) (home_at p.store p.space p.block.lo p.block.hi) c.in_ok-copy.ensures.home

pub fill_needed-requires-clause-reaches : goal.fill_needed-requires-clause-reaches
fill_needed-requires-clause-reaches g c = let p = c.args.place in
    reaches_home (copy_at c.place.new.self c.in_ok-copy.copy.id) (home_at p.store p.space p.block.lo p.block.hi) c.args.need.lo c.args.need.hi
    c.in_ok-copy.ensures.home c.requires.above c.requires.below

pub fill_needed-requires-clause-owned : goal.fill_needed-requires-clause-owned
fill_needed-requires-clause-owned g c = λ i above below. let p = c.args.place in
    owned-on c.args.self.now c.place.new.self p.store p.space p.block.lo p.block.hi c.in_ok-copy.copy.id i c.place.ensures.serves c.in_ok-copy.ensures.home (c.requires.owned i above below)

pub pin-requires : goal.pin-requires
pin-requires g c = let p = c.args.place in record {
  there = home_there (copy_at c.fill_needed.new.self c.in_ok-copy.copy.id) (home_at p.store p.space p.block.lo p.block.hi) (c.fill_needed.ensures.stays.home ∙ c.in_ok-copy.ensures.home);
}

pub returns-in_err-copy-clause-fault : goal.returns-in_err-copy-clause-fault
returns-in_err-copy-clause-fault g c =
    let p = c.args.place in
    let f : IsRoomFault c.args.self.now p.store p.space p.block.lo p.block.hi c.in_err-copy.field-0.0
    = fault-room c.args.self.now p.store p.space p.block.lo p.block.hi c.in_err-copy.field-0.0 c.in_err-copy.ensures.fault (c.in_err-copy.ensures.absent refl) in
    if_err_of c.from_residual.result c.in_err-copy.field-0.0 (IsRoomFault c.args.self.now p.store p.space p.block.lo p.block.hi) (search rules) f

pub returns-in_err-copy-clause-traced : goal.returns-in_err-copy-clause-traced
returns-in_err-copy-clause-traced g c = let p = c.args.place in
    traces-place c.args.self.now c.place.new.self (home_at p.store p.space p.block.lo p.block.hi) c.args.need.lo c.args.need.hi c.place.ensures.traced

pub returns-in_err-fill_needed-clause-err : goal.returns-in_err-fill_needed-clause-err
returns-in_err-fill_needed-clause-err g c = on_err_any c.from_residual-in_err-fill_needed.result
    (serves-trans c.args.self.now c.place.new.self c.fill_needed.new.self c.is_sound.ensures c.place.ensures.serves c.fill_needed.ensures.serves)

pub returns-in_err-fill_needed-clause-traced : goal.returns-in_err-fill_needed-clause-traced
returns-in_err-fill_needed-clause-traced g c = let p = c.args.place in
    traces-filled c.args.self.now c.place.new.self c.fill_needed.new.self (home_at p.store p.space p.block.lo p.block.hi) c.in_ok-copy.copy.id c.args.need.lo c.args.need.hi
    c.in_ok-copy.ensures.home c.place.ensures.traced c.fill_needed.ensures.traced

pub returns-in_err-pin-clause-err : goal.returns-in_err-pin-clause-err
returns-in_err-pin-clause-err g c = on_err_any c.from_residual-in_err-pin.result
    (serves-trans c.args.self.now c.fill_needed.new.self c.pin.new.self c.is_sound.ensures
    (serves-trans c.args.self.now c.place.new.self c.fill_needed.new.self c.is_sound.ensures c.place.ensures.serves c.fill_needed.ensures.serves)
    (serves-unpinned c.fill_needed.new.self c.pin.new.self c.pin.ensures.same c.in_err-pin.ensures.err))

pub returns-in_err-pin-clause-traced : goal.returns-in_err-pin-clause-traced
returns-in_err-pin-clause-traced g c = let p = c.args.place in
    traces-pin (IsServing (home_at p.store p.space p.block.lo p.block.hi) c.args.need.lo c.args.need.hi) c.args.self.now c.fill_needed.new.self c.pin.new.self
    (traces-filled c.args.self.now c.place.new.self c.fill_needed.new.self (home_at p.store p.space p.block.lo p.block.hi) c.in_ok-copy.copy.id c.args.need.lo c.args.need.hi
    c.in_ok-copy.ensures.home c.place.ensures.traced c.fill_needed.ensures.traced)
    c.pin.ensures.same c.pin.ensures.traced

pub returns-clause-ok : goal.returns-clause-ok
returns-clause-ok g c = let p = c.args.place in record {
  before = c.fill_needed.new.self;
  serves = serves-trans c.args.self.now c.place.new.self c.fill_needed.new.self c.is_sound.ensures c.place.ensures.serves c.fill_needed.ensures.serves;
  there = home_there (copy_at c.fill_needed.new.self c.in_ok-copy.copy.id) (home_at p.store p.space p.block.lo p.block.hi) (c.fill_needed.ensures.stays.home ∙ c.in_ok-copy.ensures.home);
  pins = c.in_ok-pin.ensures.ok;
}

pub returns-clause-home : goal.returns-clause-home
returns-clause-home g c = let p = c.args.place in
    home-pinned c.place.new.self c.fill_needed.new.self c.pin.new.self c.in_ok-copy.copy.id (home_at p.store p.space p.block.lo p.block.hi)
    c.in_ok-copy.ensures.home c.fill_needed.ensures.stays c.in_ok-pin.ensures.ok

pub returns-clause-readable : goal.returns-clause-readable
returns-clause-readable g c = let p = c.args.place in
    read-pinned c.place.new.self c.fill_needed.new.self c.pin.new.self c.in_ok-copy.copy.id c.args.need.lo c.args.need.hi (home_at p.store p.space p.block.lo p.block.hi)
    c.in_ok-copy.ensures.home c.fill_needed.ensures.stays c.in_ok-pin.ensures.ok c.in_ok-fill_needed.ensures.ok

pub returns-clause-traced : goal.returns-clause-traced
returns-clause-traced g c = let p = c.args.place in
    traces-pin (IsServing (home_at p.store p.space p.block.lo p.block.hi) c.args.need.lo c.args.need.hi) c.args.self.now c.fill_needed.new.self c.pin.new.self
    (traces-filled c.args.self.now c.place.new.self c.fill_needed.new.self (home_at p.store p.space p.block.lo p.block.hi) c.in_ok-copy.copy.id c.args.need.lo c.args.need.hi
    c.in_ok-copy.ensures.home c.place.ensures.traced c.fill_needed.ensures.traced)
    c.pin.ensures.same c.pin.ensures.traced

pub returns-clause-pinned : goal.returns-clause-pinned
returns-clause-pinned g c = let p = c.args.place in let id = c.in_ok-copy.copy.id in
    omega (
      arith,
      pinned-more (copy_at c.fill_needed.new.self id) (copy_at c.pin.new.self id)
          (home_there (copy_at c.fill_needed.new.self id) (home_at p.store p.space p.block.lo p.block.hi) (c.fill_needed.ensures.stays.home ∙ c.in_ok-copy.ensures.home))
          c.in_ok-pin.ensures.ok.here,
    )

pub returns-in_err-fill_needed-clause-others : goal.returns-in_err-fill_needed-clause-others
returns-in_err-fill_needed-clause-others g c = let p = c.args.place in
    but-placed c.args.self.now c.place.new.self c.fill_needed.new.self c.in_ok-copy.copy.id (home_at p.store p.space p.block.lo p.block.hi)
    c.place.ensures.places.kept c.in_ok-copy.ensures.home (λ q ne far there. c.fill_needed.ensures.others q ne)

pub returns-in_err-pin-clause-others : goal.returns-in_err-pin-clause-others
returns-in_err-pin-clause-others g c = let p = c.args.place in let b = c.place.new.self in
    but-placed c.args.self.now b c.pin.new.self c.in_ok-copy.copy.id (home_at p.store p.space p.block.lo p.block.hi)
    c.place.ensures.places.kept c.in_ok-copy.ensures.home
    (λ q ne far there. subst (λ (o : Option Held). KeepsStates (copy_at b q) o) (sym (c.in_err-pin.ensures.err q)) (c.fill_needed.ensures.others q ne))

pub returns-clause-others : goal.returns-clause-others
returns-clause-others g c = let p = c.args.place in let b = c.place.new.self in
    but-placed c.args.self.now b c.pin.new.self c.in_ok-copy.copy.id (home_at p.store p.space p.block.lo p.block.hi)
    c.place.ensures.places.kept c.in_ok-copy.ensures.home
    (λ q ne far there. subst (λ (o : Option Held). KeepsStates (copy_at b q) o) (sym (c.in_ok-pin.ensures.ok.others q ne)) (c.fill_needed.ensures.others q ne))

pub returns-in_err-copy-clause-made : goal.returns-in_err-copy-clause-made
returns-in_err-copy-clause-made g c = let p = c.args.place in
    only-placed c.args.self.now c.place.new.self (home_at p.store p.space p.block.lo p.block.hi) c.place.ensures.places.made

pub returns-in_err-fill_needed-clause-made : goal.returns-in_err-fill_needed-clause-made
returns-in_err-fill_needed-clause-made g c = let p = c.args.place in
    only-grown c.args.self.now c.place.new.self c.fill_needed.new.self (home_at p.store p.space p.block.lo p.block.hi) c.place.ensures.places.made c.fill_needed.ensures.grows

pub returns-in_err-pin-clause-made : goal.returns-in_err-pin-clause-made
returns-in_err-pin-clause-made g c = let p = c.args.place in
    only-homes c.args.self.now c.fill_needed.new.self c.pin.new.self (home_at p.store p.space p.block.lo p.block.hi) (λ q. ap home_in (c.in_err-pin.ensures.err q))
    (only-grown c.args.self.now c.place.new.self c.fill_needed.new.self (home_at p.store p.space p.block.lo p.block.hi) c.place.ensures.places.made c.fill_needed.ensures.grows)

pub returns-clause-made : goal.returns-clause-made
returns-clause-made g c = let p = c.args.place in let id = c.in_ok-copy.copy.id in
    only-homes c.args.self.now c.fill_needed.new.self c.pin.new.self (home_at p.store p.space p.block.lo p.block.hi)
    (homes-pinned c.fill_needed.new.self c.pin.new.self id
    (home_there (copy_at c.fill_needed.new.self id) (home_at p.store p.space p.block.lo p.block.hi) (c.fill_needed.ensures.stays.home ∙ c.in_ok-copy.ensures.home)) c.in_ok-pin.ensures.ok)
    (only-grown c.args.self.now c.place.new.self c.fill_needed.new.self (home_at p.store p.space p.block.lo p.block.hi) c.place.ensures.places.made c.fill_needed.ensures.grows)

pub returns-clause-kept : goal.returns-clause-kept
returns-clause-kept g c = let p = c.args.place in let b = c.place.new.self in
    left-placed c.args.self.now b c.pin.new.self c.in_ok-copy.copy.id (home_at p.store p.space p.block.lo p.block.hi) c.place.ensures.places.kept c.in_ok-copy.ensures.home
    (λ q ne there out. subst (λ (o : Option Held). KeepsStates (copy_at b q) o) (sym (c.in_ok-pin.ensures.ok.others q ne)) (c.fill_needed.ensures.others q ne))
