-- A copy that is found, or made where there is room in the journal.
use Rattle.std.proofs.Common.{◌≡◌, ◌≢◌, ℕ, ◌+◌, ◌-◌, ◌==◌, if◌then◌else◌, Bool, Option, Some, None, IfSome, IsSome, arith, ⊎_elim, refl, sym, subst, ◌∙◌, ap}
use Rattle.std.proofs.lemmas.Bool.{cases_eq}
use Rattle.sk_spaces.specs.declared.step.Step.TheVariants.{Alloc}
use Rattle.sk_spaces.specs.declared.faults.SpaceFault.{SpaceFault}
use Rattle.sk_spaces.specs.declared.faults.SpaceFault.TheVariants.{NoRoom, Memory}
use Rattle.sk_spaces.specs.Machine.{Home}
use Rattle.sk_spaces.specs.Memories.{MemoriesView}
use Rattle.sk_spaces.specs.Spaces.{SpacesView, NotesStep, IsSpaceFault}
use Rattle.sk_copy_states.specs.declared.held.Held.{Held}
use Rattle.sk_copy_states.specs.Copies.{home_in, KeepsStates}
use Rattle.sk_coherence_laws.specs.Directory.{DirectoryView, copy_at, IsSound}
use Rattle.sk_coherence_laws.specs.Traced.{TracesStep}
use Rattle.sk_coherence_laws.specs.Adds.{AddsSome, Places}
use Rattle.sk_coherence_laws.specs.HostBlocks.{HasBlock, home_at}
use Rattle.sk_coherence_laws.specs.Moves.{Idles}
use Rattle.sk_coherence_laws.specs.Serves.{Serves, GrowsAt}
use Rattle.sk_coherence_laws.specs.Steps.{Traces, IsAlloc}
use Rattle.sk_coherence_laws.proofs.ServesLemmas.{not_there, serves-trans, serves-idle, serves-add, grows-idle, grows-trans, grows_same}
use Rattle.sk_coherence_laws.proofs.TracesLemmas.{traces-one, traces-trans, is-absent}
use Rattle.sk_coherence_laws.proofs.OpenLemmas.{eq_no}
use Rattle.sk_coherence_laws.proofs.FillSums.{traces-idle}

pub fault_same : (a b : SpacesView) (space lo hi : ℕ) (fault : SpaceFault) → b.memories ≡ a.memories → IsSpaceFault b space lo hi fault → IsSpaceFault a space lo hi fault
fault_same a b space lo hi (NoRoom used len capacity) same is =
    subst (λ (m : MemoriesView). Rattle.sk_spaces.specs.Memories.LacksRoom m space len × (lo + len ≡ hi) × (used ≡ Rattle.sk_spaces.specs.Memories.used_of m space) × (capacity ≡ m.capacity)) same is
fault_same a b space lo hi Memory same is = tt

none_lies : (h : Option Home) (home : Home) → h ≡ None → IfSome h (λ at. at ≡ home)
none_lies h home none = subst (λ (h : Option Home). IfSome h (λ at. at ≡ home)) (sym none) tt

-- nothing that is seen of copies and cells changed
pub places-idle : (d n : DirectoryView) (home : Home) → Idles d n → Places d n home
places-idle d n home i = record {
  kept = λ q there. i.copies q;
  used = λ at ne. ap (λ x. Rattle.sk_spaces.specs.Memories.used_of x at) i.spaces.memories;
  made = λ q none. none_lies (home_in (copy_at n q)) home ((i.copies q).home ∙ ap home_in none);
}

other_space : (at space lo hi : ℕ) → at ≢ space → (if space == at then hi - lo else 0) ≡ 0
other_space at space lo hi ne = ap (λ (t : Bool). if t then hi - lo else 0) (eq_no space at (λ e. ne (sym e)))

module _ (a b n : DirectoryView) (id s space lo hi : ℕ) (sa : IsSound a) (sb : IsSound b) (i : Idles a b)
    (adds : AddsSome b n id s space lo hi) (kept : (n.owed ≡ b.owed) × (n.named ≡ b.named)) where
  absent : copy_at b id ≡ None
  absent = sb.new_copies id (omega (arith, adds.2.memories.number))

  pub placed-serves : Serves a n
  placed-serves = serves-trans a b n sa (serves-idle a b i) (serves-add b n id s space lo hi adds.0 adds.1 sb kept.0 kept.1 adds.2)

  pub placed-home : home_in (copy_at n id) ≡ Some (home_at s space lo hi)
  placed-home = ap home_in adds.2.copies.here ∙ ap Some adds.2.home

  pub placed-grows : (q : ℕ) → IsSome (copy_at a q) → GrowsAt a n q
  placed-grows q there =
      let g = grows-idle a b i q in
      let ne : q ≢ id = λ e. not_there (copy_at b q) (ap (copy_at b) e ∙ absent) (Rattle.sk_coherence_laws.proofs.TracedWrite.some_home (copy_at a q) (copy_at b q) (sym g.home) there) in
      grows-trans a b n q g (grows_same b n q (adds.2.copies.others q ne) (adds.2.memories.blocks.others q ne))

  pub placed-traced : (HasBlock a s space lo hi → ⊥) → NotesStep b.spaces n.spaces (Alloc id s space lo hi) → TracesStep b n (Alloc id s space lo hi)
      → Traces (IsAlloc (home_at s space lo hi)) a n
  placed-traced none noted t = traces-trans (IsAlloc (home_at s space lo hi)) a b n (traces-idle (IsAlloc (home_at s space lo hi)) a b i)
      (traces-one (IsAlloc (home_at s space lo hi)) b n (Alloc id s space lo hi) noted t
      (λ m l. record {
        id = id;
        step_is = refl;
        absent = is-absent m b (home_at s space lo hi) l (λ q lies. none (q, sym (i.copies q).home ∙ lies));
      })
      (λ m l. refl))

  pub placed-places : Places a n (home_at s space lo hi)
  placed-places = record {
    kept = λ q there.
        let ne : q ≢ id = λ e. not_there (copy_at b q) (ap (copy_at b) e ∙ absent) (Rattle.sk_coherence_laws.proofs.TracedWrite.some_home (copy_at a q) (copy_at b q) (sym (i.copies q).home) there) in
        subst (λ (o : Option Held). KeepsStates (copy_at a q) o) (sym (adds.2.copies.others q ne)) (i.copies q);
    used = λ at ne. omega (arith, adds.2.memories.used at, other_space at space lo hi ne, ap (λ x. Rattle.sk_spaces.specs.Memories.used_of x at) i.spaces.memories);
    made = λ q none. ⊎_elim
        (λ (e : q ≡ id). subst (λ (h : Option Home). IfSome h (λ at. at ≡ home_at s space lo hi)) (sym (ap (λ (x : ℕ). home_in (copy_at n x)) e ∙ placed-home)) refl)
        (λ (ne : q ≢ id). none_lies (home_in (copy_at n q)) (home_at s space lo hi) (ap home_in (adds.2.copies.others q ne) ∙ (i.copies q).home ∙ ap home_in none))
        (cases_eq q id);
  }
