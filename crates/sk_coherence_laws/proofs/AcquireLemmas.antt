-- A copy that is placed, filled and pinned.
use Rattle.std.proofs.Common.{◌≡◌, ℕ, ◌+◌, ◌≤◌, Option, Some, None, IfSome, IsSome, option_map, arith, refl, inl, inr, sym, subst, ◌∙◌, ap}
use Rattle.sk_spaces.specs.declared.step.Step.{Step}
use Rattle.sk_spaces.specs.declared.faults.SpaceFault.{SpaceFault}
use Rattle.sk_spaces.specs.declared.faults.SpaceFault.TheVariants.{NoRoom, Memory}
use Rattle.sk_spaces.specs.Machine.{Machine, Home}
use Rattle.sk_spaces.specs.Spaces.{SpacesView, IsSpaceFault}
use Rattle.sk_copy_states.specs.declared.held.Held.{Held}
use Rattle.sk_copy_states.specs.Copies.{KeepsStates, home_in, home_store, state_in, pins_in, ReachesIn}
use Rattle.sk_copy_states.specs.Stores.{StoreView}
use Rattle.sk_coherence_laws.specs.Moves.{Idles}
use Rattle.sk_coherence_laws.specs.Traced.{IsLike}
use Rattle.sk_coherence_laws.proofs.FillSums.{like-idle, traces-idle}
use Rattle.sk_coherence_laws.specs.Directory.{DirectoryView, copy_at, store_at, IsSound}
use Rattle.sk_coherence_laws.specs.HostBlocks.{HasBlock}
use Rattle.sk_copy_states.specs.Sources.{MayRead}
use Rattle.sk_coherence_laws.specs.Owned.{HasOwnerAt, IsOwned}
use Rattle.sk_coherence_laws.specs.Serves.{Serves, GrowsAt, unlisted}
use Rattle.sk_coherence_laws.specs.Steps.{Traces, IsAlloc, IsFill, IsServing, AreFilled}
use Rattle.sk_coherence_laws.specs.Acquires.{PinsOne, IsRoomFault}
use Rattle.sk_coherence_laws.proofs.TracesLemmas.{traces-map, traces-trans, traces-none}

pub home_there : (o : Option Held) (home : Home) → home_in o ≡ Some home → IsSome o
home_there None home is = cc
home_there (Some held) home is = refl

pub reaches_home : (o : Option Held) (home : Home) (lo hi : ℕ) → home_in o ≡ Some home → home.lo ≤ lo → hi ≤ home.hi → ReachesIn o lo hi
reaches_home None home lo hi is above below = tt
reaches_home (Some held) home lo hi is above below =
    let l : held.lo ≡ home.lo = grind arith in
    let h : held.hi ≡ home.hi = grind arith in
    (omega (arith, l, above), omega (arith, h, below))

-- an owner stays where copies are made and filled
pub owned-on : (a b : DirectoryView) (s space lo hi copy i : ℕ) → Serves a b → home_in (copy_at b copy) ≡ Some (record { store = s; space = space; lo = lo; hi = hi })
    → IsOwned a s i → HasOwnerAt b copy i
owned-on a b s space lo hi copy i x is o =
    let h = x.owned o.0 i o.2 in (h.at, h.store ∙ o.1 ∙ sym (ap home_store is), h.owns)

pub fault-room : (d : DirectoryView) (s space lo hi : ℕ) (fault : SpaceFault) → IsSpaceFault d.spaces space lo hi fault → (HasBlock d s space lo hi → ⊥) → IsRoomFault d s space lo hi fault
fault-room d s space lo hi (NoRoom used len capacity) is none = (is, none)
fault-room d s space lo hi Memory is none = tt

pub traces-place : (a b : DirectoryView) (home : Home) (from to : ℕ) → Traces (IsAlloc home) a b → Traces (IsServing home from to) a b
traces-place a b home from to x = traces-map (IsAlloc home) (IsServing home from to) a b (λ m step is. inl is) x

-- the copy was placed, and then filled
pub traces-filled : (a b n : DirectoryView) (home : Home) (copy from to : ℕ) → home_in (copy_at b copy) ≡ Some home → Traces (IsAlloc home) a b → AreFilled b n copy from to
    → Traces (IsServing home from to) a n
traces-filled a b n home copy from to lies x y = traces-trans (IsServing home from to) a b n (traces-place a b home from to x)
    (traces-map (IsFill home from to) (IsServing home from to) b n (λ m step is. inr is) (y home lies))

-- a pin notes nothing
pub traces-pin : (P : Machine → Step → Type 0) (a n k : DirectoryView) → Traces P a n → k ≡ record n { copies = k.copies } → ((m : Machine) → IsLike m n → IsLike m k) → Traces P a k
traces-pin P a n k x same like = traces-trans P a n k x
    (traces-none P n k (record {
      steps = ap (λ (v : DirectoryView). v.spaces.journal.steps) same;
      totals = ap (λ (v : DirectoryView). v.spaces.journal.totals) same;
    }) like)

pinned-home : (o p : Option Held) → IfSome o (λ held. p ≡ Some (record held { pins = held.pins + 1 })) → IsSome o → home_in p ≡ home_in o
pinned-home None p is there = cc
pinned-home (Some held) p is there = ap home_in is

pinned-state : (o p : Option Held) (i : ℕ) → IfSome o (λ held. p ≡ Some (record held { pins = held.pins + 1 })) → IsSome o → state_in p i ≡ state_in o i
pinned-state None p i is there = cc
pinned-state (Some held) p i is there = ap (λ o. state_in o i) is

pub home-pinned : (b n k : DirectoryView) (copy : ℕ) (home : Home) → home_in (copy_at b copy) ≡ Some home → GrowsAt b n copy → PinsOne n k copy → home_in (copy_at k copy) ≡ Some home
home-pinned b n k copy home is g p = pinned-home (copy_at n copy) (copy_at k copy) p.here (home_there (copy_at n copy) home (g.home ∙ is)) ∙ g.home ∙ is

pub read-pinned : (b n k : DirectoryView) (copy lo hi : ℕ) (home : Home) → home_in (copy_at b copy) ≡ Some home → GrowsAt b n copy → PinsOne n k copy → MayRead (copy_at n copy) lo hi
    → MayRead (copy_at k copy) lo hi
read-pinned b n k copy lo hi home is g p r = λ i above below e. r i above below
    (sym (pinned-state (copy_at n copy) (copy_at k copy) i p.here (home_there (copy_at n copy) home (g.home ∙ is))) ∙ e)

-- where each copy is as before, and nothing but copies was changed
pub serves-unpinned : (d n : DirectoryView) → n ≡ record d { copies = n.copies } → ((q : ℕ) → copy_at n q ≡ copy_at d q) → Serves d n
serves-unpinned d n same copies = Rattle.sk_coherence_laws.proofs.ServesLemmas.serves-kept d n
    (λ q. subst (λ (o : Option Held). KeepsStates (copy_at d q) o) (sym (copies q)) (record { home = refl; expected = refl; fit = λ fit. fit; room = omega arith; states = λ i. refl }))
    (λ q. ap pins_in (copies q))
    (λ t. ap (λ v. Rattle.sk_coherence_laws.specs.Directory.store_at v t) same)
    (ap (λ (v : DirectoryView). v.spaces.memories) same) (ap (λ (v : DirectoryView). v.next) same) (ap (λ (v : DirectoryView). v.owed) same) (ap (λ (v : DirectoryView). v.named) same)
    (ap (λ (v : DirectoryView). v.messages) same) (ap (λ (v : DirectoryView). v.aside) same)

-- a store stays
store_some : (o p : Option StoreView) → option_map unlisted p ≡ option_map unlisted o → IsSome o → IsSome p
store_some None p same there = cc
store_some (Some o) None same there = cc
store_some (Some o) (Some p) same there = refl

pub store-stays : (a b : DirectoryView) (s : ℕ) → Serves a b → IsSome (store_at a s) → IsSome (store_at b s)
store-stays a b s x there = store_some (store_at a s) (store_at b s) (x.stores s) there

-- room for a write is made without a step
pub traces-owed : (a b r n : DirectoryView) (home : Home) → Traces (IsAlloc home) a b → Idles b r → n.spaces ≡ r.spaces
    → ((m : Machine) → IsLike m r → IsLike m n) → Traces (IsAlloc home) a n
traces-owed a b r n home x i same like = traces-trans (IsAlloc home) a b n x
    (traces-none (IsAlloc home) b n (record {
      steps = ap (λ (v : SpacesView). v.journal.steps) same ∙ i.spaces.journal.steps;
      totals = ap (λ (v : SpacesView). v.journal.totals) same ∙ i.spaces.journal.totals;
    }) (λ m l. like m (like-idle b r i m l)))

pub traces-idled : (a b n : DirectoryView) (home : Home) → Traces (IsAlloc home) a b → Idles b n → Traces (IsAlloc home) a n
traces-idled a b n home x i = traces-trans (IsAlloc home) a b n x (traces-idle (IsAlloc home) b n i)
