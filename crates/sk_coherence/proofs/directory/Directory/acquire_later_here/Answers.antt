use Rattle.std.proofs.Common.{◌≡◌, Option, IsSome, arith, ⊎_elim, sym, subst, ap}
use Rattle.sk_spaces.specs.Machine.{Home}
use Rattle.sk_copy_states.specs.declared.held.Held.{Held}
use Rattle.sk_copy_states.specs.Copies.{KeepsStates, home_in}
use Rattle.sk_coherence_laws.proofs.OweLemmas.{pinned-more}
use Rattle.sk_coherence_laws.specs.Directory.{copy_at}
use Rattle.sk_coherence_laws.proofs.AcquireLemmas.{home_there, owned-on, serves-unpinned, traces-pin}
use Rattle.sk_coherence_laws.proofs.NamedMoves.{on_err_any}
use Rattle.sk_coherence_laws.proofs.ServesLemmas.{serves-trans}
use Rattle.sk_coherence_laws.proofs.TracedWrite.{some_home}
use Rattle.sk_coherence.specs.Later.{IsServingLater}
use Rattle.sk_coherence.proofs.LaterLemmas.{placed-later, served-placed, left-pinned}
use Rattle.sk_coherence.proofs.PinnedLemmas.{but-placed}
use Rattle.sk_coherence.proofs.LeftLemmas.{only-placed, only-hosts, only-trans, only-homes, homes-pinned, left-placed}
use Rattle.sk_coherence.specs.Evicts.{IsFar}
use Rattle.sk_coherence_laws.specs.HostBlocks.{home_at}
use Rattle.sk_coherence.proofs.directory.Directory.acquire_later_here.Goals as goal

pub look_needed-requires-clause-owned : goal.look_needed-requires-clause-owned
look_needed-requires-clause-owned g c =
    let a = c.args.self.now in
    let b = c.place.new.self in
    let p = c.args.place in
    λ i above below. owned-on a b p.store p.space p.block.lo p.block.hi c.in-Ok.copy.id i c.place.ensures.serves c.in-Ok.ensures.home (c.requires.owned i above below)

pub returns-in_err-pin-clause-err : goal.returns-in_err-pin-clause-err
returns-in_err-pin-clause-err g c =
    let a = c.args.self.now in
    let b = c.place.new.self in
    let p = c.args.place in
    let n = c.look_needed.new.self in
    let k = c.pin.new.self in
    on_err_any c.from_residual-in_err-pin.result
    (serves-trans a n k c.is_sound.ensures (serves-trans a b n c.is_sound.ensures c.place.ensures.serves c.look_needed.ensures.serves)
    (serves-unpinned n k c.pin.ensures.same c.in_err-pin.ensures.err))

pub returns-clause-ok : goal.returns-clause-ok
returns-clause-ok g c =
    let a = c.args.self.now in
    let b = c.place.new.self in
    let p = c.args.place in
    let n = c.look_needed.new.self in
    let id = c.in-Ok.copy.id in
    let there : IsSome (copy_at b id) = home_there (copy_at b id) (home_at p.store p.space p.block.lo p.block.hi) c.in-Ok.ensures.home in
    record {
      before = n;
      serves = serves-trans a b n c.is_sound.ensures c.place.ensures.serves c.look_needed.ensures.serves;
      there = some_home (copy_at b id) (copy_at n id) (sym (c.look_needed.ensures.grows id there).home) there;
      pins = c.in_ok-pin.ensures.ok;
    }

pub returns-clause-left : goal.returns-clause-left
returns-clause-left g c =
    let a = c.args.self.now in
    let b = c.place.new.self in
    let p = c.args.place in
    let n = c.look_needed.new.self in
    let k = c.pin.new.self in
    let id = c.in-Ok.copy.id in
    let there : IsSome (copy_at b id) = home_there (copy_at b id) (home_at p.store p.space p.block.lo p.block.hi) c.in-Ok.ensures.home in
    left-pinned n k id c.args.need.lo c.args.need.hi c.in_ok-transfers.transfers.items
    (some_home (copy_at b id) (copy_at n id) (sym (c.look_needed.ensures.grows id there).home) there) c.in_ok-pin.ensures.ok c.in_ok-transfers.ensures.left

pub returns-clause-pinned : goal.returns-clause-pinned
returns-clause-pinned g c =
    let b = c.place.new.self in
    let p = c.args.place in
    let n = c.look_needed.new.self in
    let k = c.pin.new.self in
    let id = c.in-Ok.copy.id in
    let there : IsSome (copy_at b id) = home_there (copy_at b id) (home_at p.store p.space p.block.lo p.block.hi) c.in-Ok.ensures.home in
    omega (arith, pinned-more (copy_at n id) (copy_at k id) (some_home (copy_at b id) (copy_at n id) (sym (c.look_needed.ensures.grows id there).home) there) c.in_ok-pin.ensures.ok.here)

pub returns-in_err-transfers-clause-others : goal.returns-in_err-transfers-clause-others
returns-in_err-transfers-clause-others g c = let p = c.args.place in
    but-placed c.args.self.now c.place.new.self c.look_needed.new.self c.in-Ok.copy.id (home_at p.store p.space p.block.lo p.block.hi)
    c.place.ensures.places.kept c.in-Ok.ensures.home (λ q ne far there. c.look_needed.ensures.others q ne there far)

pub returns-in_err-pin-clause-others : goal.returns-in_err-pin-clause-others
returns-in_err-pin-clause-others g c = let p = c.args.place in let b = c.place.new.self in
    but-placed c.args.self.now b c.pin.new.self c.in-Ok.copy.id (home_at p.store p.space p.block.lo p.block.hi)
    c.place.ensures.places.kept c.in-Ok.ensures.home
    (λ q ne far there. subst (λ (o : Option Held). KeepsStates (copy_at b q) o) (sym (c.in_err-pin.ensures.err q)) (c.look_needed.ensures.others q ne there far))

pub returns-clause-others : goal.returns-clause-others
returns-clause-others g c = let p = c.args.place in let b = c.place.new.self in
    but-placed c.args.self.now b c.pin.new.self c.in-Ok.copy.id (home_at p.store p.space p.block.lo p.block.hi)
    c.place.ensures.places.kept c.in-Ok.ensures.home
    (λ q ne far there. subst (λ (o : Option Held). KeepsStates (copy_at b q) o) (sym (c.in_ok-pin.ensures.ok.others q ne)) (c.look_needed.ensures.others q ne there far))

pub returns-in-Err-clause-traced : goal.returns-in-Err-clause-traced
returns-in-Err-clause-traced g c =
    let a = c.args.self.now in
    let b = c.place.new.self in
    let p = c.args.place in
    let home : Home = home_at p.store p.space p.block.lo p.block.hi in
    placed-later a b home c.args.need.lo c.args.need.hi c.place.ensures.traced

pub returns-in_err-transfers-clause-traced : goal.returns-in_err-transfers-clause-traced
returns-in_err-transfers-clause-traced g c =
    let a = c.args.self.now in
    let b = c.place.new.self in
    let p = c.args.place in
    let home : Home = home_at p.store p.space p.block.lo p.block.hi in
    let n = c.look_needed.new.self in
    served-placed a b n c.in-Ok.copy.id home c.args.need.lo c.args.need.hi c.requires.far c.place.ensures.serves c.place.ensures.places c.in-Ok.ensures.home c.place.ensures.traced
    c.look_needed.ensures.traced

pub returns-in_err-pin-clause-traced : goal.returns-in_err-pin-clause-traced
returns-in_err-pin-clause-traced g c =
    let a = c.args.self.now in
    let b = c.place.new.self in
    let p = c.args.place in
    let home : Home = home_at p.store p.space p.block.lo p.block.hi in
    let n = c.look_needed.new.self in
    let k = c.pin.new.self in
    traces-pin (IsServingLater a home c.args.need.lo c.args.need.hi) a n k
    (served-placed a b n c.in-Ok.copy.id home c.args.need.lo c.args.need.hi c.requires.far c.place.ensures.serves c.place.ensures.places c.in-Ok.ensures.home c.place.ensures.traced
    c.look_needed.ensures.traced)
    c.pin.ensures.same c.pin.ensures.traced

pub returns-clause-traced : goal.returns-clause-traced
returns-clause-traced g c =
    let a = c.args.self.now in
    let b = c.place.new.self in
    let p = c.args.place in
    let home : Home = home_at p.store p.space p.block.lo p.block.hi in
    let n = c.look_needed.new.self in
    let k = c.pin.new.self in
    traces-pin (IsServingLater a home c.args.need.lo c.args.need.hi) a n k
    (served-placed a b n c.in-Ok.copy.id home c.args.need.lo c.args.need.hi c.requires.far c.place.ensures.serves c.place.ensures.places c.in-Ok.ensures.home c.place.ensures.traced
    c.look_needed.ensures.traced)
    c.pin.ensures.same c.pin.ensures.traced

pub returns-in-Err-clause-made : goal.returns-in-Err-clause-made
returns-in-Err-clause-made g c =
    let a = c.args.self.now in
    let b = c.place.new.self in
    let p = c.args.place in
    let home : Home = home_at p.store p.space p.block.lo p.block.hi in
    only-placed a b home c.place.ensures.places.made

pub returns-in_err-transfers-clause-made : goal.returns-in_err-transfers-clause-made
returns-in_err-transfers-clause-made g c =
    let a = c.args.self.now in
    let b = c.place.new.self in
    let p = c.args.place in
    let home : Home = home_at p.store p.space p.block.lo p.block.hi in
    let n = c.look_needed.new.self in
    only-trans a b n home c.place.ensures.serves c.look_needed.ensures.serves (only-placed a b home c.place.ensures.places.made) (only-hosts b n home c.requires.far c.look_needed.ensures.made)

pub returns-in_err-pin-clause-made : goal.returns-in_err-pin-clause-made
returns-in_err-pin-clause-made g c =
    let a = c.args.self.now in
    let b = c.place.new.self in
    let p = c.args.place in
    let home : Home = home_at p.store p.space p.block.lo p.block.hi in
    let n = c.look_needed.new.self in
    let k = c.pin.new.self in
    only-homes a n k home (λ q. ap home_in (c.in_err-pin.ensures.err q))
    (only-trans a b n home c.place.ensures.serves c.look_needed.ensures.serves (only-placed a b home c.place.ensures.places.made) (only-hosts b n home c.requires.far c.look_needed.ensures.made))

pub returns-clause-made : goal.returns-clause-made
returns-clause-made g c =
    let a = c.args.self.now in
    let b = c.place.new.self in
    let p = c.args.place in
    let home : Home = home_at p.store p.space p.block.lo p.block.hi in
    let n = c.look_needed.new.self in
    let k = c.pin.new.self in
    let id = c.in-Ok.copy.id in
    let there : IsSome (copy_at b id) = home_there (copy_at b id) home c.in-Ok.ensures.home in
    only-homes a n k home (homes-pinned n k id (some_home (copy_at b id) (copy_at n id) (sym (c.look_needed.ensures.grows id there).home) there) c.in_ok-pin.ensures.ok)
    (only-trans a b n home c.place.ensures.serves c.look_needed.ensures.serves (only-placed a b home c.place.ensures.places.made) (only-hosts b n home c.requires.far c.look_needed.ensures.made))

pub returns-clause-kept : goal.returns-clause-kept
returns-clause-kept g c =
    let a = c.args.self.now in
    let b = c.place.new.self in
    let p = c.args.place in
    let home : Home = home_at p.store p.space p.block.lo p.block.hi in
    let k = c.pin.new.self in
    left-placed a b k c.in-Ok.copy.id home c.place.ensures.places.kept c.in-Ok.ensures.home
    (λ q ne there out. subst (λ (o : Option Held). KeepsStates (copy_at b q) o) (sym (c.in_ok-pin.ensures.ok.others q ne))
    (⊎_elim (λ (e : home.space ≡ 0). absurd (omega (arith, e, c.requires.far))) (λ (far : IsFar (copy_at b q)). c.look_needed.ensures.others q ne there far) out))
