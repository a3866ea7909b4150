-- The lines of the host.
use Rattle.std.proofs.Common.{◌≡◌, ℕ, ◌<◌, ◌≤◌, Option, Some, None, IfSome, IsSome, IsSomeAnd, arith, ⊎_elim, inl, inr, refl, sym, subst, ◌∙◌}
use Rattle.sk_base.specs.Shape.{cells_of}
use Rattle.sk_spaces.specs.declared.step.Step.TheVariants as line
use Rattle.sk_spaces.specs.Machine.{Machine, Home, CopyState}
use Rattle.sk_spaces.specs.Rules.{IsThere, Covers, IsOnHost as IsHosted}
use Rattle.sk_copy_states.specs.declared.held.Held.{Held}
use Rattle.sk_copy_states.specs.Copies.{home_in, state_in}
use Rattle.sk_copy_states.specs.Sources.{MayRead}
use Rattle.sk_copy_states.specs.Stores.{StoreView}
use Rattle.sk_coherence_laws.specs.Directory.{DirectoryView, copy_at, store_at}
use Rattle.sk_coherence_laws.specs.HostBlocks.{home_at, IsHostBlock}
use Rattle.sk_coherence_laws.specs.Steps.{Traces, IsAlloc, IsFill, IsServing}
use Rattle.sk_coherence_laws.specs.Traced.{IsLike, TracesStep}
use Rattle.sk_coherence_laws.proofs.LegalMoves.{readable_mark}
use Rattle.sk_coherence_laws.proofs.OpenLemmas.{some_of}
use Rattle.sk_coherence_laws.proofs.TracedWrite.{live_of}
use Rattle.sk_coherence_laws.proofs.TracesLemmas.{traces-map}
use Rattle.sk_coherence.specs.Room.{IsMakingWay, IsYielding, IsDue}
use Rattle.sk_coherence.proofs.WayLemmas.{index-home}
use Rattle.sk_container.specs.Lines.{IsPlacing, IsHosting}
use Rattle.sk_container.specs.Parts.{IsHostOf}

-- on the host nothing gives way
pub traces-serving : (a b : DirectoryView) (home : Home) (from to : ℕ) → home.space ≡ 0 → Traces (IsDue a home from to) a b → Traces (IsServing home from to) a b
traces-serving a b home from to host x = traces-map (IsDue a home from to) (IsServing home from to) a b
    (λ m step is. ⊎_elim
    (λ (y : IsYielding a home m step). ⊎_elim
    (λ (alloc : IsAlloc home m step). inl alloc)
    (λ (way : IsMakingWay a home m step). absurd (omega (arith, way.crowded.limited, host)))
    y)
    (λ (f : IsFill home from to m step). inr f)
    is)
    x

pub traces-placing : (a b : DirectoryView) (home : Home) → home.space ≡ 0 → Traces (IsYielding a home) a b → Traces (IsAlloc home) a b
traces-placing a b home host x = traces-map (IsYielding a home) (IsAlloc home) a b
    (λ m step is. ⊎_elim
    (λ (alloc : IsAlloc home m step). alloc)
    (λ (way : IsMakingWay a home m step). absurd (omega (arith, way.crowded.limited, host)))
    is)
    x

-- the host's block of an index
pub host-of : (d : DirectoryView) (s i lo hi from to : ℕ) → IsSome (store_at d s) → IfSome (store_at d s) (λ st. i < cells_of st.shape)
    → IfSome (store_at d s) (λ st. IsHostBlock d s st i lo hi) → lo ≤ from → to ≤ hi → IsHostOf d s from to (home_at s 0 lo hi)
host-of d s i lo hi from to there inside block above below = record { store = refl; host = (index-home d s i lo hi there inside block).0; above = above; below = below }

pub hosting-of : (d a b : DirectoryView) (s lo hi : ℕ) (home : Home) → IsHostOf d s lo hi home → Traces (IsServing home lo hi) a b → Traces (IsHosting d s lo hi) a b
hosting-of d a b s lo hi home host x = traces-map (IsServing home lo hi) (IsHosting d s lo hi) a b (λ m step is. (home, host, is)) x

pub placing-of : (d a b : DirectoryView) (s lo hi : ℕ) (home : Home) → IsHostOf d s lo hi home → Traces (IsAlloc home) a b → Traces (IsPlacing d s lo hi) a b
placing-of d a b s lo hi home host x = traces-map (IsAlloc home) (IsPlacing d s lo hi) a b (λ m step is. (home, host, is)) x

pub lies-so : (d : DirectoryView) (copy : ℕ) (home : Home) (Q : Home → Type 0) → home_in (copy_at d copy) ≡ Some home → Q home → IsSomeAnd (home_in (copy_at d copy)) Q
lies-so d copy home Q is holds = subst (λ (h : Option Home). IsSomeAnd h Q) (sym is) holds

pub there-with : (o : Option StoreView) (P : StoreView → Type 0) → IsSomeAnd o P → IsSome o × IfSome o P
there-with None P is = absurd is
there-with (Some store) P is = (refl, is)

-- a copy on the host may be read where it is not stale
module _ (d : DirectoryView) (q lo hi : ℕ) (home : Home) (is : home_in (copy_at d q) ≡ Some home) (host : home.space ≡ 0)
    (above : home.lo ≤ lo) (below : hi ≤ home.hi) (ordered : lo ≤ hi) (readable : MayRead (copy_at d q) lo hi) where
  there_of : (o : Option Held) → home_in o ≡ Some home → IsSome o
  there_of None is = cc
  there_of (Some held) is = refl

  some_same : (a b : Home) → Some a ≡ Some b → a ≡ b
  some_same a b e = cc

  hosted : (m : Machine) → IsLike m d → IsHosted m q lo hi
  hosted m l =
      let t = live_of (m.copies q) (copy_at d q) (l.copies q) (there_of (copy_at d q) is) in
      let e : home ≡ t.0 = some_same home t.0 (sym is ∙ t.2) in
      subst (λ (k : CopyState). IsThere k (λ home. (home.space ≡ 0) × Covers lo hi home)) (sym t.1)
      (subst (λ (h : Home). (h.space ≡ 0) × Covers lo hi h) e (host, record { above = above; ordered = ordered; below = below }))

  pub traces-read : (n : DirectoryView) → ((m : Machine) → IsLike m d → IsLike m n) → TracesStep d n (line.Read q lo hi)
  traces-read n like m l = (
    (
      some_of m.memory _ l.memory,
      (hosted m l, λ i above below e. readable_mark (state_in (copy_at d q) i) (readable i above below) (sym (l.marks q i (there_of (copy_at d q) is)) ∙ e)),
    ),
    like m l,
  )
