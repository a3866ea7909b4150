-- Room that an eviction makes.
use Rattle.std.proofs.Common.{◌≡◌, ℕ, ◌+◌, ◌-◌, ◌<◌, ◌≤◌, if◌then◌else◌, Bool, List, [], Option, Some, None, IfSome, IsSome, option_map, arith, ⊎_elim, inl, inr, refl, sym, subst, ◌∙◌, ap}
use Rattle.sk_spaces.specs.declared.step.Step.{Step}
use Rattle.sk_spaces.specs.Machine.{Machine, Home}
use Rattle.sk_spaces.specs.Rules.{IsLegal, after}
use Rattle.sk_spaces.specs.Blocks.{BlockView, taken_in}
use Rattle.sk_spaces.specs.Spaces.{used_at}
use Rattle.sk_copy_states.specs.declared.held.Held.{Held}
use Rattle.sk_copy_states.specs.Copies.{KeepsStates, home_in, home_store, pins_in}
use Rattle.sk_copy_states.specs.Stores.{StoreView, IsBlockOf}
use Rattle.sk_coherence_laws.specs.Directory.{DirectoryView, copy_at, store_at, cells_of_copy, block_home, LiesInside, IsSound}
use Rattle.sk_coherence_laws.specs.Owned.{IsOwned}
use Rattle.sk_coherence_laws.specs.HostBlocks.{HasBlock, IsHostHome}
use Rattle.sk_coherence_laws.specs.Serves.{Serves, GrowsAt, WasEvicted, unlisted}
use Rattle.sk_coherence_laws.specs.Steps.{Traces, IsAbsent, IsAlloc, IsFill, IsServing}
use Rattle.sk_coherence_laws.proofs.OpenLemmas.{eq_yes}
use Rattle.sk_coherence_laws.proofs.HostLemmas.{if_some_map}
use Rattle.sk_coherence_laws.proofs.ServesLemmas.{there_or, not_there}
use Rattle.sk_coherence_laws.proofs.TracesLemmas.{traces-map, traces-with, traces-trans, is-absent}
use Rattle.sk_coherence_laws.proofs.AcquireLemmas.{home_there}
use Rattle.sk_coherence.specs.Evicts.{IsIn, IsFar, IsEviction, KeepsLeft, MakesHostBlocks, TracesEviction, Evicts}
use Rattle.sk_coherence.specs.Room.{IsFull, IsGivingWay, IsMakingWay, IsYielding, IsDue}
use Rattle.sk_coherence.proofs.BackHomes.{eviction-was, absent-after}
use Rattle.sk_coherence.proofs.LeftLemmas.{hosts-made}

-- a copy in a rank's space lies on a rank
pub far_in : (o : Option Held) (space : ℕ) → 0 < space → IsIn space o → IsFar o
far_in None space some is = tt
far_in (Some held) space some is = omega (arith, some, is)

taken_some : (d : DirectoryView) (b : Option BlockView) (o : Option Held) (space : ℕ) → block_home b ≡ home_in o → IsSome o → IsIn space o → LiesInside d (home_in o)
    → 0 < taken_in space b
taken_some d None None space same there is inside = cc
taken_some d (Some x) None space same there is inside = cc
taken_some d None (Some held) space same there is inside = cc
taken_some d (Some x) (Some held) space same there is inside =
    let at : x.space ≡ held.space = grind arith in
    let lo : x.lo ≡ held.lo = grind arith in
    let hi : x.hi ≡ held.hi = grind arith in
    let all : taken_in space (Some x) ≡ x.hi - x.lo = ap (λ (t : Bool). if t then x.hi - x.lo else 0) (eq_yes x.space space (at ∙ is)) in
    omega (arith, all, lo, hi, inside.0)

-- less is taken after an eviction
pub less-taken : (d n : DirectoryView) (copy space : ℕ) → IsSound d → 0 < space → IsSome (copy_at d copy) → IsIn space (copy_at d copy) → Evicts d n copy
    → used_at n.spaces space < used_at d.spaces space
less-taken d n copy space sound some there is e =
    let more : 0 < taken_in space (cells_of_copy d copy) = taken_some d (cells_of_copy d copy) (copy_at d copy) space (sound.tied copy) there is (sound.inside copy) in
    omega (arith, more, e.used space some)

-- the steps of an eviction are those of a copy that gives way
pub traces-giving : (d n : DirectoryView) (copy space : ℕ) → 0 < space → IsSome (copy_at d copy) → IsIn space (copy_at d copy) → pins_in (copy_at d copy) ≡ 0
    → TracesEviction d n copy → Traces (IsGivingWay d space (used_at d.spaces space)) d n
traces-giving d n copy space some there is unpinned t =
    traces-map (IsEviction d copy space (used_at d.spaces space)) (IsGivingWay d space (used_at d.spaces space)) d n
    (λ m step done. record { copy = copy; there = there; lies = is; unpinned = unpinned; evicts = done }) (t space some is)

-- a copy on a rank was there before only blocks of the host were made, as often pinned
was_there : (a b : DirectoryView) (q space : ℕ) → Serves a b → MakesHostBlocks a b → 0 < space → IsSome (copy_at b q) → IsIn space (copy_at b q)
    → IsSome (copy_at a q) × GrowsAt a b q
was_there a b q space x made some there is = ⊎_elim
    (λ (was : IsSome (copy_at a q)). (
      was,
      ⊎_elim
          (λ (g : GrowsAt a b q). g)
          (λ (w : WasEvicted a b q). absurd (not_there (copy_at b q) w.gone there))
          (x.stays q was),
    ))
    (λ (none : copy_at a q ≡ None). absurd (apart (copy_at b q) there is (if_some_map (home_in (copy_at b q)) (IsHostHome a) (λ home. home.space ≡ 0) (λ home h. h.host) (made q none))))
    (there_or (copy_at a q))
  where
    apart : (o : Option Held) → IsSome o → IsIn space o → IfSome (home_in o) (λ home. home.space ≡ 0) → ⊥
    apart None there is host = cc
    apart (Some held) there is host = omega (arith, some, is, host)

-- where no copy lay so before, none does where only blocks of the host were made
absent_on : (a b : DirectoryView) (home : Home) → Serves a b → MakesHostBlocks a b → 0 < home.space → (HasBlock a home.store home.space home.lo home.hi → ⊥)
    → (q : ℕ) → home_in (copy_at b q) ≡ Some home → ⊥
absent_on a b home x made some absent q lies =
    let was = was_there a b q home.space x made some (home_there (copy_at b q) home lies) (subst (λ (h : Option Home). IfSome h (λ at. at.space ≡ home.space)) (sym lies) refl) in
    absent (q, sym was.1.home ∙ lies)

-- the copy that gives way gave way before, where the space was too full for the copy that has to be made
giving-making : (a b : DirectoryView) (home : Home) → Serves a b → MakesHostBlocks a b → KeepsLeft a b home.space → 0 < home.space
    → a.spaces.memories.capacity < used_at b.spaces home.space + (home.hi - home.lo) → (m : Machine) (step : Step) → IsAbsent home m → IsLegal m step
    → IsGivingWay b home.space (used_at b.spaces home.space) m step → IsMakingWay a home m step × IsAbsent home (after m step)
giving-making a b home x made kept some full m step absent legal g =
    let was = was_there a b g.copy home.space x made some g.there g.lies in
    let lies : IsIn home.space (copy_at a g.copy) = subst (λ (h : Option Home). IfSome h (λ at. at.space ≡ home.space)) was.1.home g.lies in
    let same : KeepsStates (copy_at a g.copy) (copy_at b g.copy) = kept g.copy was.0 g.there (inr (far_in (copy_at a g.copy) home.space some lies)) in
    let used : m.used home.space ≡ used_at b.spaces home.space = g.evicts.taken in (
      record {
        crowded = record { limited = some; absent = absent; full = omega (arith, full, used) };
        goes = record {
          copy = g.copy;
          there = was.0;
          lies = lies;
          unpinned = sym was.1.pins ∙ g.unpinned;
          evicts = subst (λ (u : ℕ). IsEviction a g.copy home.space u m step) (sym used)
              (eviction-was a b x (hosts-made a b made) g.copy home.space (used_at b.spaces home.space) (ap home_store was.1.home) (λ i own. sym (same.states i) ∙ own) m step g.evicts);
        };
      },
      absent-after b g.copy home.space (used_at b.spaces home.space) home some m step absent g.evicts,
    )

-- one copy after another gives way
pub traces-making : (a b n : DirectoryView) (home : Home) → Serves a b → MakesHostBlocks a b → KeepsLeft a b home.space → (HasBlock a home.store home.space home.lo home.hi → ⊥)
    → IsFull b home.space (home.hi - home.lo) → Traces (IsMakingWay a home) a b → Traces (IsGivingWay b home.space (used_at b.spaces home.space)) b n
    → Traces (IsMakingWay a home) a n
traces-making a b n home x made kept absent full before more = traces-trans (IsMakingWay a home) a b n before
    (traces-with (IsGivingWay b home.space (used_at b.spaces home.space)) (IsMakingWay a home) (IsAbsent home) b n
    (λ m l. is-absent m b home l (absent_on a b home x made full.limited absent))
    (giving-making a b home x made kept full.limited (omega (arith, x.capacity, full.full))) more)

-- room was made for an acquire
pub traces-way : (a b : DirectoryView) (home : Home) (from to : ℕ) → Traces (IsMakingWay a home) a b → Traces (IsDue a home from to) a b
traces-way a b home from to x = traces-map (IsMakingWay a home) (IsDue a home from to) a b (λ m step is. inl (inr is)) x

-- and then the copy was made and filled
pub traces-due : (a b n : DirectoryView) (home : Home) (from to : ℕ) → Traces (IsMakingWay a home) a b → Traces (IsServing home from to) b n → Traces (IsDue a home from to) a n
traces-due a b n home from to x y = traces-trans (IsDue a home from to) a b n (traces-way a b home from to x)
    (traces-map (IsServing home from to) (IsDue a home from to) b n
    (λ m step is. ⊎_elim (λ (alloc : IsAlloc home m step). inl (inl alloc)) (λ (f : IsFill home from to m step). inr f) is) y)

pub traces-way-yielding : (a b : DirectoryView) (home : Home) → Traces (IsMakingWay a home) a b → Traces (IsYielding a home) a b
traces-way-yielding a b home x = traces-map (IsMakingWay a home) (IsYielding a home) a b (λ m step is. inr is) x

-- or was made alone
pub traces-yielding : (a b n : DirectoryView) (home : Home) → Traces (IsMakingWay a home) a b → Traces (IsAlloc home) b n → Traces (IsYielding a home) a n
traces-yielding a b n home x y = traces-trans (IsYielding a home) a b n
    (traces-map (IsMakingWay a home) (IsYielding a home) a b (λ m step is. inr is) x)
    (traces-map (IsAlloc home) (IsYielding a home) b n (λ m step is. inl is) y)

-- a store that is there with its sizes
block_on : (o p : Option StoreView) (lo hi : ℕ) → option_map unlisted p ≡ option_map unlisted o → IfSome o (IsBlockOf lo hi) → IfSome p (IsBlockOf lo hi)
block_on None None lo hi same is = tt
block_on (Some o) None lo hi same is = tt
block_on None (Some p) lo hi same is = cc
block_on (Some o) (Some p) lo hi same is =
    let shape : p.shape ≡ o.shape = ap shape_of same in
    record { some = is.some; inside = subst (λ s. hi ≤ Rattle.sk_base.specs.Shape.cells_of s) (sym shape) is.inside }
  where
    shape_of : Option StoreView → List ℕ
    shape_of None = []
    shape_of (Some store) = store.shape

pub block-stays : (a b : DirectoryView) (s lo hi : ℕ) → Serves a b → IfSome (store_at a s) (IsBlockOf lo hi) → IfSome (store_at b s) (IsBlockOf lo hi)
block-stays a b s lo hi x is = block_on (store_at a s) (store_at b s) lo hi (x.stores s) is

pub owned-stays : (a b : DirectoryView) (s i : ℕ) → Serves a b → IsOwned a s i → IsOwned b s i
owned-stays a b s i x o = let h = x.owned o.0 i o.2 in (h.at, h.store ∙ o.1, h.owns)
