-- Blocks to which cells go back, and the steps of an eviction, where the host's blocks are what they were.
use Rattle.std.proofs.Common.{◌≡◌, ◌≢◌, ℕ, ◌+◌, ◌-◌, ◌<◌, if◌then◌else◌, Bool, Some, None, arith, ⊎_elim, inl, inr, sym, subst, ◌∙◌, ap}
use Rattle.std.proofs.lemmas.Bool.{cases_eq}
use Rattle.sk_spaces.specs.declared.step.Step.{Step}
use Rattle.sk_spaces.specs.declared.step.Step.TheVariants.{Free}
use Rattle.sk_spaces.specs.Machine.{Machine, Home, CopyState, unused, live, freed, replaced, frees_at}
use Rattle.sk_spaces.specs.Rules.{IsLegal, IsThere, after}
use Rattle.sk_ranges.specs.declared.state.State.TheVariants.{Owner}
use Rattle.sk_copy_states.specs.Copies.{store_in, state_in}
use Rattle.sk_coherence_laws.specs.Directory.{DirectoryView, copy_at}
use Rattle.sk_coherence_laws.specs.Serves.{Serves}
use Rattle.sk_coherence_laws.specs.Steps.{IsAbsent, IsAlloc, StandsIn}
use Rattle.sk_coherence_laws.specs.Traced.{live_home}
use Rattle.sk_coherence_laws.proofs.HostLemmas.{MakesHosts, index-was}
use Rattle.sk_coherence_laws.proofs.OpenLemmas.{replaced_here, replaced_else, eq_no}
use Rattle.sk_coherence.specs.Evicts.{IsBackHome, IsBackAlloc, IsBack, IsEviction}

there_map : (k : CopyState) (P Q : Home → Type 0) → ((home : Home) → P home → Q home) → IsThere k P → IsThere k Q
there_map unused P Q more is = absurd is
there_map (live home) P Q more is = more home is
there_map freed P Q more is = absurd is

-- the host's blocks are what they were, and the copy is of the store that it was of
module _ (a b : DirectoryView) (x : Serves a b) (made : MakesHosts a b) where
  pub back-was : (copy : ℕ) → store_in (copy_at b copy) ≡ store_in (copy_at a copy)
      → ((i : ℕ) → state_in (copy_at b copy) i ≡ Owner → state_in (copy_at a copy) i ≡ Owner) → (home : Home) → IsBackHome b copy home → IsBackHome a copy home
  back-was copy same owns home h = let k = index-was a b x made home h.host in
      record { store = sym same ∙ h.store; host = k.0; owns = subst (λ (i : ℕ). state_in (copy_at a copy) i ≡ Owner) (sym k.1) (owns h.host.index h.owns) }

  pub eviction-was : (copy space used : ℕ) → store_in (copy_at b copy) ≡ store_in (copy_at a copy)
      → ((i : ℕ) → state_in (copy_at b copy) i ≡ Owner → state_in (copy_at a copy) i ≡ Owner) → (m : Machine) (step : Step) → IsEviction b copy space used m step
      → IsEviction a copy space used m step
  eviction-was copy space used same owns m step e = record {
    leaves = ⊎_elim
        (λ (made : IsBackAlloc b copy m step). inl (made.0, back-was copy same owns made.0 made.1, made.2))
        (λ rest. inr (⊎_elim
        (λ (h : IsBack b copy m step). inl (record {
          target = h.target;
          lo = h.lo;
          hi = h.hi;
          step_is = h.step_is;
          some = h.some;
          target_home = there_map (m.copies h.target) (IsBackHome b copy) (IsBackHome a copy) (back-was copy same owns) h.target_home;
        }))
        (λ gone. inr gone)
        rest))
        e.leaves;
    stands = e.stands;
    taken = e.taken;
  }

-- a copy on a rank stays where a block of the host is made, and as much is taken of its space
pub alloc-eviction : (d : DirectoryView) (copy space used : ℕ) (home : Home) → 0 < space → IsBackHome d copy home → (m : Machine) (step : Step)
    → StandsIn space (m.copies copy) × (m.used space ≡ used) → IsLegal m step → IsAlloc home m step
    → IsEviction d copy space used m step × (StandsIn space ((after m step).copies copy) × ((after m step).used space ≡ used))
alloc-eviction d copy space used home some back m step holds legal alloc = (
  record { leaves = inl (home, back, alloc); stands = holds.0; taken = holds.1 },
  (
    subst (λ (s : Step). StandsIn space ((after m s).copies copy)) (sym alloc.step_is)
        (subst (λ (k : CopyState). StandsIn space k) (sym (replaced_else m.copies alloc.id (live home) copy (λ e. stands_unused (m.copies copy) holds.0 (ap m.copies e ∙ fresh)))) holds.0),
    subst (λ (s : Step). (after m s).used space ≡ used) (sym alloc.step_is)
        (ap (λ (t : Bool). if t then m.used space + (home.hi - home.lo) else m.used space) (eq_no space home.space (λ e. omega (arith, e, some, back.host.host))) ∙ holds.1),
  ),
)
  where
    fresh : m.copies alloc.id ≡ unused
    fresh = (subst (λ (s : Step). IsLegal m s) alloc.step_is legal).1.0

    stands_unused : (k : CopyState) → StandsIn space k → k ≡ unused → ⊥
    stands_unused k stands is = subst (λ (k : CopyState). StandsIn space k) is stands

-- where no copy lies so on a rank, none does after a step of an eviction
pub absent-after : (d : DirectoryView) (copy space used : ℕ) (home : Home) → 0 < home.space → (m : Machine) (step : Step) → IsAbsent home m
    → IsEviction d copy space used m step → IsAbsent home (after m step)
absent-after d copy space used home some m step absent e = ⊎_elim
    (λ (made : IsBackAlloc d copy m step). subst (λ (s : Step). IsAbsent home (after m s)) (sym made.2.step_is) (allocated made.0 made.2.id made.1.host.host))
    (λ rest. ⊎_elim
    (λ (h : IsBack d copy m step). subst (λ (s : Step). IsAbsent home (after m s)) (sym h.step_is) absent)
    (λ (gone : step ≡ Free copy). subst (λ (s : Step). IsAbsent home (after m s)) (sym gone) (λ q. freed_still (m.copies copy) q))
    rest)
    e.leaves
  where
    apart : (at : Home) → at.space ≡ 0 → Some at ≡ Some home → ⊥
    apart at host same = let e : at.space ≡ home.space = grind arith in omega (arith, e, host, some)

    allocated : (at : Home) (id : ℕ) → at.space ≡ 0 → (q : ℕ) → live_home (replaced m.copies id (live at) q) ≡ Some home → ⊥
    allocated at id host q lies = ⊎_elim
        (λ (e : q ≡ id). apart at host (sym (ap live_home (replaced_here m.copies id (live at) q e)) ∙ lies))
        (λ (ne : q ≢ id). absent q (sym (ap live_home (replaced_else m.copies id (live at) q ne)) ∙ lies))
        (cases_eq q id)

    none_freed : None ≡ Some home → ⊥
    none_freed e = cc

    freed_still : (k : CopyState) (q : ℕ) → live_home ((frees_at k copy m).copies q) ≡ Some home → ⊥
    freed_still unused q lies = absent q lies
    freed_still freed q lies = absent q lies
    freed_still (live at) q lies = ⊎_elim
        (λ (e : q ≡ copy). none_freed (sym (ap live_home (replaced_here m.copies copy freed q e)) ∙ lies))
        (λ (ne : q ≢ copy). absent q (sym (ap live_home (replaced_else m.copies copy freed q ne)) ∙ lies))
        (cases_eq q copy)
