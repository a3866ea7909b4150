use Rattle.std.proofs.Common.{◌≡◌, ◌≢◌, ◌<◌, min, Option, Some, IfSome, IsSomeAnd, arith, rules, refl, sym, subst, ap, ◌∙◌}
use Rattle.sk_spaces.specs.Machine.{Home}
use Rattle.sk_copy_states.specs.Copies.{KeepsStates, home_in}
use Rattle.sk_copy_states.proofs.RoomLemmas.{kept-trans}
use Rattle.sk_coherence_laws.specs.Directory.{copy_at, store_at}
use Rattle.sk_coherence_laws.proofs.AcquireLemmas.{home_there, reaches_home, owned-on}
use Rattle.sk_coherence_laws.proofs.FreeLemmas.{store_listed}
use Rattle.sk_coherence_laws.proofs.ServesLemmas.{serves-trans, grows-trans}
use Rattle.sk_coherence_laws.proofs.TracedWrite.{some_home}
use Rattle.sk_coherence.specs.Evicts.{KeepsFar, MakesHostBlocks}
use Rattle.sk_coherence.proofs.LaterLemmas.{far-home, store-home, hosted-placed, hosted-filled, host-can, host-at, host-stale, alone-on, alone-less}
use Rattle.sk_coherence.proofs.PinnedLemmas.{far-placed}
use Rattle.sk_coherence.proofs.RetreatLemmas.{spaces_apart}
use Rattle.sk_coherence.proofs.WayLemmas.{index_inside, block_around, index-home}
use Rattle.sk_coherence.proofs.LeftLemmas.{makes-homes, hosts-made}
use Rattle.sk_coherence_laws.proofs.HostLemmas.{makes-map, home-of-on}
use Rattle.sk_coherence_laws.specs.HostBlocks.{home_at, IsHostHome, IsHostHomeOf}
use Rattle.sk_coherence.proofs.directory.Directory.leave.Goals as goal

pub host_block-block-requires-clause-there : goal.host_block-block-requires-clause-there
host_block-block-requires-clause-there g c =
    store_listed c.args.self.now c.args.copy.id c.store_of-store.result.id c.is_sound.ensures c.store_of-store.ensures

pub host_block-block-requires-clause-inside : goal.host_block-block-requires-clause-inside
host_block-block-requires-clause-inside g c =
    index_inside c.args.self.now c.args.copy.id c.store_of-store.result.id c.args.run.lo c.args.run.hi c.is_sound.ensures c.requires.there
    c.store_of-store.ensures c.requires.reaches c.requires.some

pub host_copy-requires-clause-there : goal.host_copy-requires-clause-there
host_copy-requires-clause-there g c =
    store_listed c.args.self.now c.args.copy.id c.store_of-store.result.id c.is_sound.ensures c.store_of-store.ensures

pub host_copy-requires-clause-block : goal.host_copy-requires-clause-block
host_copy-requires-clause-block g c =
    let e = c.host_block-block.ensures in
    block_around (store_at c.args.self.now c.store_of-store.result.id) c.host_block-block.result.lo c.host_block-block.result.hi c.args.run.lo e.above e.below e.within

pub fill_needed-requires-clause-there : goal.fill_needed-requires-clause-there
fill_needed-requires-clause-there g c =
    let a = c.args.self.now in
    let b = c.host_copy.new.self in
    let s = c.store_of-store.result.id in
    let block = c.host_block-block.result in
    let id = c.args.copy.id in
    let from = c.in_ok-from.from.id in
    let m : c.min.result ≡ min c.args.run.hi block.hi = search rules in
    home_there (copy_at b from) (home_at c.store_of-store.result.id 0 c.host_block-block.result.lo c.host_block-block.result.hi) c.in_ok-from.ensures.home

pub fill_needed-requires-clause-reaches : goal.fill_needed-requires-clause-reaches
fill_needed-requires-clause-reaches g c =
    let a = c.args.self.now in
    let b = c.host_copy.new.self in
    let s = c.store_of-store.result.id in
    let block = c.host_block-block.result in
    let id = c.args.copy.id in
    let from = c.in_ok-from.from.id in
    let m : c.min.result ≡ min c.args.run.hi block.hi = search rules in
    reaches_home (copy_at b from) (home_at c.store_of-store.result.id 0 c.host_block-block.result.lo c.host_block-block.result.hi) c.args.run.lo c.min.result c.in_ok-from.ensures.home c.host_block-block.ensures.above (omega (arith, m))

pub fill_needed-requires-clause-owned : goal.fill_needed-requires-clause-owned
fill_needed-requires-clause-owned g c =
    let a = c.args.self.now in
    let b = c.host_copy.new.self in
    let s = c.store_of-store.result.id in
    let block = c.host_block-block.result in
    let id = c.args.copy.id in
    let from = c.in_ok-from.from.id in
    let m : c.min.result ≡ min c.args.run.hi block.hi = search rules in
    λ i above below. let o = c.requires.owned i above (omega (arith, below, m)) in
    owned-on a b s 0 block.lo block.hi from i c.host_copy.ensures.serves c.in_ok-from.ensures.home (o.0, o.1 ∙ c.store_of-store.ensures, o.2)

pub returns-in_err-from-clause-kept : goal.returns-in_err-from-clause-kept
returns-in_err-from-clause-kept g c =
    let a = c.args.self.now in
    let b = c.host_copy.new.self in
    let block = c.host_block-block.result in
    let s = c.store_of-store.result.id in
    c.host_copy.ensures.places.kept c.args.copy.id c.requires.there

pub returns-in_err-fill_needed-clause-serves : goal.returns-in_err-fill_needed-clause-serves
returns-in_err-fill_needed-clause-serves g c =
    let a = c.args.self.now in
    let b = c.host_copy.new.self in
    let n = c.fill_needed.new.self in
    let s = c.store_of-store.result.id in
    let block = c.host_block-block.result in
    let id = c.args.copy.id in
    let from = c.in_ok-from.from.id in
    let m : c.min.result ≡ min c.args.run.hi block.hi = search rules in
    serves-trans a b n c.is_sound.ensures c.host_copy.ensures.serves c.fill_needed.ensures.serves

pub returns-in_err-fill_needed-clause-grows : goal.returns-in_err-fill_needed-clause-grows
returns-in_err-fill_needed-clause-grows g c =
    let a = c.args.self.now in
    let b = c.host_copy.new.self in
    let n = c.fill_needed.new.self in
    let s = c.store_of-store.result.id in
    let block = c.host_block-block.result in
    let id = c.args.copy.id in
    let from = c.in_ok-from.from.id in
    let m : c.min.result ≡ min c.args.run.hi block.hi = search rules in
    λ q some. grows-trans a b n q (c.host_copy.ensures.stays q some) (c.fill_needed.ensures.grows q)

pub returns-in_err-fill_needed-clause-kept : goal.returns-in_err-fill_needed-clause-kept
returns-in_err-fill_needed-clause-kept g c =
    let a = c.args.self.now in
    let b = c.host_copy.new.self in
    let n = c.fill_needed.new.self in
    let s = c.store_of-store.result.id in
    let block = c.host_block-block.result in
    let id = c.args.copy.id in
    let from = c.in_ok-from.from.id in
    let m : c.min.result ≡ min c.args.run.hi block.hi = search rules in
    let kb : KeepsStates (copy_at a id) (copy_at b id) = c.host_copy.ensures.places.kept id c.requires.there in
    let apart : id ≢ from = λ e. spaces_apart (copy_at b id) (copy_at b from) (home_at c.store_of-store.result.id 0 c.host_block-block.result.lo c.host_block-block.result.hi)
    (subst (λ (h : Option Home). IfSome h (λ home. 0 < home.space)) (sym kb.home) c.requires.far) (some_home (copy_at a id) (copy_at b id) (sym kb.home) c.requires.there)
    c.in_ok-from.ensures.home refl (ap (copy_at b) e) in
    let kept : KeepsStates (copy_at a id) (copy_at n id) = kept-trans (copy_at a id) (copy_at b id) (copy_at n id) kb (c.fill_needed.ensures.others id apart) in
    kept

pub returns-clause-serves : goal.returns-clause-serves
returns-clause-serves g c =
    let a = c.args.self.now in
    let b = c.host_copy.new.self in
    let n = c.fill_needed.new.self in
    let s = c.store_of-store.result.id in
    let block = c.host_block-block.result in
    let id = c.args.copy.id in
    let from = c.in_ok-from.from.id in
    let m : c.min.result ≡ min c.args.run.hi block.hi = search rules in
    serves-trans a b n c.is_sound.ensures c.host_copy.ensures.serves c.fill_needed.ensures.serves

pub returns-clause-grows : goal.returns-clause-grows
returns-clause-grows g c =
    let a = c.args.self.now in
    let b = c.host_copy.new.self in
    let n = c.fill_needed.new.self in
    let s = c.store_of-store.result.id in
    let block = c.host_block-block.result in
    let id = c.args.copy.id in
    let from = c.in_ok-from.from.id in
    let m : c.min.result ≡ min c.args.run.hi block.hi = search rules in
    λ q some. grows-trans a b n q (c.host_copy.ensures.stays q some) (c.fill_needed.ensures.grows q)

pub returns-clause-kept : goal.returns-clause-kept
returns-clause-kept g c =
    let a = c.args.self.now in
    let b = c.host_copy.new.self in
    let n = c.fill_needed.new.self in
    let s = c.store_of-store.result.id in
    let block = c.host_block-block.result in
    let id = c.args.copy.id in
    let from = c.in_ok-from.from.id in
    let m : c.min.result ≡ min c.args.run.hi block.hi = search rules in
    let kb : KeepsStates (copy_at a id) (copy_at b id) = c.host_copy.ensures.places.kept id c.requires.there in
    let apart : id ≢ from = λ e. spaces_apart (copy_at b id) (copy_at b from) (home_at c.store_of-store.result.id 0 c.host_block-block.result.lo c.host_block-block.result.hi)
    (subst (λ (h : Option Home). IfSome h (λ home. 0 < home.space)) (sym kb.home) c.requires.far) (some_home (copy_at a id) (copy_at b id) (sym kb.home) c.requires.there)
    c.in_ok-from.ensures.home refl (ap (copy_at b) e) in
    let kept : KeepsStates (copy_at a id) (copy_at n id) = kept-trans (copy_at a id) (copy_at b id) (copy_at n id) kb (c.fill_needed.ensures.others id apart) in
    kept

pub returns-clause-sends : goal.returns-clause-sends
returns-clause-sends g c =
    let a = c.args.self.now in
    let b = c.host_copy.new.self in
    let n = c.fill_needed.new.self in
    let s = c.store_of-store.result.id in
    let block = c.host_block-block.result in
    let id = c.args.copy.id in
    let from = c.in_ok-from.from.id in
    let m : c.min.result ≡ min c.args.run.hi block.hi = search rules in
    let kb : KeepsStates (copy_at a id) (copy_at b id) = c.host_copy.ensures.places.kept id c.requires.there in
    let apart : id ≢ from = λ e. spaces_apart (copy_at b id) (copy_at b from) (home_at c.store_of-store.result.id 0 c.host_block-block.result.lo c.host_block-block.result.hi)
    (subst (λ (h : Option Home). IfSome h (λ home. 0 < home.space)) (sym kb.home) c.requires.far) (some_home (copy_at a id) (copy_at b id) (sym kb.home) c.requires.there)
    c.in_ok-from.ensures.home refl (ap (copy_at b) e) in
    let kept : KeepsStates (copy_at a id) (copy_at n id) = kept-trans (copy_at a id) (copy_at b id) (copy_at n id) kb (c.fill_needed.ensures.others id apart) in
    let at : home_in (copy_at n from) ≡ Some (home_at c.store_of-store.result.id 0 c.host_block-block.result.lo c.host_block-block.result.hi) = c.fill_needed.ensures.stays.home ∙ c.in_ok-from.ensures.home in
    let others : KeepsFar a n id = far-placed a b n id from (home_at s 0 block.lo block.hi) c.host_copy.ensures.places.kept c.in_ok-from.ensures.home refl
    c.fill_needed.ensures.others in
    let host : IsHostHomeOf a c.args.run.lo (home_at s 0 block.lo block.hi) = index-home a s c.args.run.lo block.lo block.hi (store_listed a id s c.is_sound.ensures c.store_of-store.ensures)
    (index_inside a id s c.args.run.lo c.args.run.hi c.is_sound.ensures c.requires.there c.store_of-store.ensures c.requires.reaches c.requires.some) c.host_block-block.ensures.block in
    let made : MakesHostBlocks a n =
    makes-homes a b n (IsHostHome a) (λ q. (c.fill_needed.ensures.grows q).home)
    (makes-map a b (λ at. at ≡ home_at s 0 block.lo block.hi) (IsHostHome a) (λ at e. subst (λ (x : Home). IsHostHome a x) (sym e) host.0) c.host_copy.ensures.places.made) in
    record {
      to = refl;
      host = host-at a n id from s c.args.run.lo c.min.result c.args.run.hi block.lo block.hi c.requires.there c.requires.far c.store_of-store.ensures c.requires.reaches c.requires.missing kept at
          c.host_block-block.ensures.above (omega (arith, m)) (omega (arith, m)) c.in_ok-fill_needed.ensures.ok;
      block = subst (λ (h : Option Home). IsSomeAnd h (IsHostHomeOf n c.args.run.lo)) (sym at)
          (home-of-on a n (serves-trans a b n c.is_sound.ensures c.host_copy.ensures.serves c.fill_needed.ensures.serves) (hosts-made a n made) c.args.run.lo (home_at s 0 block.lo block.hi) host);
      some = omega (arith, m, c.requires.some, c.host_block-block.ensures.below);
      can = host-can a n id from s c.args.run.lo c.min.result c.args.run.hi block.lo block.hi c.requires.there c.requires.far c.store_of-store.ensures c.requires.reaches c.requires.missing kept at
          c.host_block-block.ensures.above (omega (arith, m)) (omega (arith, m)) c.in_ok-fill_needed.ensures.ok;
      stale = host-stale a n id from s c.args.run.lo c.min.result c.args.run.hi block.lo block.hi c.requires.there c.requires.far c.store_of-store.ensures c.requires.reaches c.requires.missing kept at
          c.host_block-block.ensures.above (omega (arith, m)) (omega (arith, m)) c.in_ok-fill_needed.ensures.ok;
      alone = alone-on a n id c.requires.there c.requires.far (λ q some. (c.fill_needed.ensures.grows q).home ∙ (c.host_copy.ensures.stays q some).home) others made c.args.run.lo c.min.result
          (alone-less a id c.args.run.lo c.min.result c.args.run.hi (omega (arith, m)) c.requires.alone);
    }

pub returns-in_err-fill_needed-clause-others : goal.returns-in_err-fill_needed-clause-others
returns-in_err-fill_needed-clause-others g c =
    far-placed c.args.self.now c.host_copy.new.self c.fill_needed.new.self c.args.copy.id c.in_ok-from.from.id (home_at c.store_of-store.result.id 0 c.host_block-block.result.lo c.host_block-block.result.hi)
    c.host_copy.ensures.places.kept c.in_ok-from.ensures.home refl c.fill_needed.ensures.others

pub returns-clause-others : goal.returns-clause-others
returns-clause-others g c =
    far-placed c.args.self.now c.host_copy.new.self c.fill_needed.new.self c.args.copy.id c.in_ok-from.from.id (home_at c.store_of-store.result.id 0 c.host_block-block.result.lo c.host_block-block.result.hi)
    c.host_copy.ensures.places.kept c.in_ok-from.ensures.home refl c.fill_needed.ensures.others

pub returns-in_err-from-clause-made : goal.returns-in_err-from-clause-made
returns-in_err-from-clause-made g c =
    let a = c.args.self.now in
    let b = c.host_copy.new.self in
    let s = c.store_of-store.result.id in
    let block = c.host_block-block.result in
    let id = c.args.copy.id in
    let host : IsHostHomeOf a c.args.run.lo (home_at s 0 block.lo block.hi) = index-home a s c.args.run.lo block.lo block.hi (store_listed a id s c.is_sound.ensures c.store_of-store.ensures)
    (index_inside a id s c.args.run.lo c.args.run.hi c.is_sound.ensures c.requires.there c.store_of-store.ensures c.requires.reaches c.requires.some) c.host_block-block.ensures.block in
    makes-map a b (λ at. at ≡ home_at s 0 block.lo block.hi) (IsHostHome a) (λ at e. subst (λ (x : Home). IsHostHome a x) (sym e) host.0) c.host_copy.ensures.places.made

pub returns-in_err-fill_needed-clause-made : goal.returns-in_err-fill_needed-clause-made
returns-in_err-fill_needed-clause-made g c =
    let a = c.args.self.now in
    let b = c.host_copy.new.self in
    let s = c.store_of-store.result.id in
    let block = c.host_block-block.result in
    let id = c.args.copy.id in
    let host : IsHostHomeOf a c.args.run.lo (home_at s 0 block.lo block.hi) = index-home a s c.args.run.lo block.lo block.hi (store_listed a id s c.is_sound.ensures c.store_of-store.ensures)
    (index_inside a id s c.args.run.lo c.args.run.hi c.is_sound.ensures c.requires.there c.store_of-store.ensures c.requires.reaches c.requires.some) c.host_block-block.ensures.block in
    let n = c.fill_needed.new.self in
    makes-homes a b n (IsHostHome a) (λ q. (c.fill_needed.ensures.grows q).home)
    (makes-map a b (λ at. at ≡ home_at s 0 block.lo block.hi) (IsHostHome a) (λ at e. subst (λ (x : Home). IsHostHome a x) (sym e) host.0) c.host_copy.ensures.places.made)

pub returns-clause-made : goal.returns-clause-made
returns-clause-made g c =
    let a = c.args.self.now in
    let b = c.host_copy.new.self in
    let s = c.store_of-store.result.id in
    let block = c.host_block-block.result in
    let id = c.args.copy.id in
    let host : IsHostHomeOf a c.args.run.lo (home_at s 0 block.lo block.hi) = index-home a s c.args.run.lo block.lo block.hi (store_listed a id s c.is_sound.ensures c.store_of-store.ensures)
    (index_inside a id s c.args.run.lo c.args.run.hi c.is_sound.ensures c.requires.there c.store_of-store.ensures c.requires.reaches c.requires.some) c.host_block-block.ensures.block in
    let n = c.fill_needed.new.self in
    makes-homes a b n (IsHostHome a) (λ q. (c.fill_needed.ensures.grows q).home)
    (makes-map a b (λ at. at ≡ home_at s 0 block.lo block.hi) (IsHostHome a) (λ at e. subst (λ (x : Home). IsHostHome a x) (sym e) host.0) c.host_copy.ensures.places.made)

pub returns-in_err-from-clause-traced : goal.returns-in_err-from-clause-traced
returns-in_err-from-clause-traced g c =
    let a = c.args.self.now in
    let b = c.host_copy.new.self in
    let s = c.store_of-store.result.id in
    let block = c.host_block-block.result in
    let id = c.args.copy.id in
    let host : IsHostHomeOf a c.args.run.lo (home_at s 0 block.lo block.hi) = index-home a s c.args.run.lo block.lo block.hi (store_listed a id s c.is_sound.ensures c.store_of-store.ensures)
    (index_inside a id s c.args.run.lo c.args.run.hi c.is_sound.ensures c.requires.there c.store_of-store.ensures c.requires.reaches c.requires.some) c.host_block-block.ensures.block in
    λ home lies. hosted-placed a b id home (home_at s 0 block.lo block.hi) c.args.run.lo c.args.run.hi lies (far-home (copy_at a id) home lies c.requires.far)
    (store-home (copy_at a id) s home c.store_of-store.ensures lies) host c.requires.some c.requires.missing c.requires.alone c.host_copy.ensures.traced

pub returns-in_err-fill_needed-clause-traced : goal.returns-in_err-fill_needed-clause-traced
returns-in_err-fill_needed-clause-traced g c =
    let a = c.args.self.now in
    let b = c.host_copy.new.self in
    let s = c.store_of-store.result.id in
    let block = c.host_block-block.result in
    let id = c.args.copy.id in
    let host : IsHostHomeOf a c.args.run.lo (home_at s 0 block.lo block.hi) = index-home a s c.args.run.lo block.lo block.hi (store_listed a id s c.is_sound.ensures c.store_of-store.ensures)
    (index_inside a id s c.args.run.lo c.args.run.hi c.is_sound.ensures c.requires.there c.store_of-store.ensures c.requires.reaches c.requires.some) c.host_block-block.ensures.block in
    let n = c.fill_needed.new.self in
    let m : c.min.result ≡ min c.args.run.hi block.hi = search rules in
    let kept : KeepsStates (copy_at a id) (copy_at b id) = c.host_copy.ensures.places.kept id c.requires.there in
    let made : MakesHostBlocks a b = makes-map a b (λ at. at ≡ home_at s 0 block.lo block.hi) (IsHostHome a) (λ at e. subst (λ (x : Home). IsHostHome a x) (sym e) host.0) c.host_copy.ensures.places.made in
    λ home lies. hosted-filled a b id home (home_at s 0 block.lo block.hi) c.args.run.lo c.args.run.hi lies (far-home (copy_at a id) home lies c.requires.far)
    (store-home (copy_at a id) s home c.store_of-store.ensures lies) host c.requires.some c.requires.missing c.requires.alone c.host_copy.ensures.traced
    n c.in_ok-from.from.id c.min.result c.in_ok-from.ensures.home c.fill_needed.ensures.traced (omega (arith, m))
    (kept.home ∙ lies) (λ i up down. kept.states i ∙ c.requires.missing i up down)
    (alone-on a b id c.requires.there c.requires.far (λ q some. (c.host_copy.ensures.stays q some).home) (λ q ne there far. c.host_copy.ensures.places.kept q there) made
    c.args.run.lo c.args.run.hi c.requires.alone)

pub returns-clause-traced : goal.returns-clause-traced
returns-clause-traced g c =
    let a = c.args.self.now in
    let b = c.host_copy.new.self in
    let s = c.store_of-store.result.id in
    let block = c.host_block-block.result in
    let id = c.args.copy.id in
    let host : IsHostHomeOf a c.args.run.lo (home_at s 0 block.lo block.hi) = index-home a s c.args.run.lo block.lo block.hi (store_listed a id s c.is_sound.ensures c.store_of-store.ensures)
    (index_inside a id s c.args.run.lo c.args.run.hi c.is_sound.ensures c.requires.there c.store_of-store.ensures c.requires.reaches c.requires.some) c.host_block-block.ensures.block in
    let n = c.fill_needed.new.self in
    let m : c.min.result ≡ min c.args.run.hi block.hi = search rules in
    let kept : KeepsStates (copy_at a id) (copy_at b id) = c.host_copy.ensures.places.kept id c.requires.there in
    let made : MakesHostBlocks a b = makes-map a b (λ at. at ≡ home_at s 0 block.lo block.hi) (IsHostHome a) (λ at e. subst (λ (x : Home). IsHostHome a x) (sym e) host.0) c.host_copy.ensures.places.made in
    λ home lies. hosted-filled a b id home (home_at s 0 block.lo block.hi) c.args.run.lo c.args.run.hi lies (far-home (copy_at a id) home lies c.requires.far)
    (store-home (copy_at a id) s home c.store_of-store.ensures lies) host c.requires.some c.requires.missing c.requires.alone c.host_copy.ensures.traced
    n c.in_ok-from.from.id c.min.result c.in_ok-from.ensures.home c.fill_needed.ensures.traced (omega (arith, m))
    (kept.home ∙ lies) (λ i up down. kept.states i ∙ c.requires.missing i up down)
    (alone-on a b id c.requires.there c.requires.far (λ q some. (c.host_copy.ensures.stays q some).home) (λ q ne there far. c.host_copy.ensures.places.kept q there) made
    c.args.run.lo c.args.run.hi c.requires.alone)
