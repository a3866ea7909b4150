-- A write of a copy that was acquired for it, with its pin taken away.
use Rattle.std.proofs.Common.{◌≡◌, ◌≢◌, ℕ, ℤ, ◌-◌, ◌<◌, ◌≤◌, min, List, Option, Some, None, IfSome, IsSome, arith, ⊎_elim, refl, sym, subst, ◌∙◌, ap, ◌⊎◌}
use Rattle.std.proofs.lemmas.Bool.{cases_eq}
use Rattle.sk_spaces.specs.declared.step.Step.{Step}
use Rattle.sk_spaces.specs.Machine.{Machine}
use Rattle.sk_spaces.specs.Spaces.{SpacesView, NotesStep}
use Rattle.sk_copy_states.specs.declared.held.Held.{Held}
use Rattle.sk_copy_states.specs.Copies.{home_in, store_in, state_in, cell_in, pins_in, expected_in}
use Rattle.sk_copy_states.specs.Stores.{UsesWrite, changes_in}
use Rattle.sk_messages.specs.Messages.{MessagesView, Spoils}
use Rattle.sk_coherence_laws.specs.Directory.{DirectoryView, copy_at, store_at, cells_of_copy}
use Rattle.sk_coherence_laws.specs.Traced.{IsLike, TracesStep}
use Rattle.sk_coherence_laws.specs.Writes.{WritesCopy, WritesIn}
use Rattle.sk_coherence_laws.proofs.KeptLemmas.{like-same}
use Rattle.sk_coherence_laws.proofs.StateLemmas.{same_store}
use Rattle.sk_coherence_laws.proofs.TracedWrite.{some_home}
use Rattle.sk_coherence_laws.proofs.WriteLemmas.{homes, state_outside}
use Rattle.sk_container.specs.Changes.{Puts}
use Rattle.sk_container.specs.Lines.{TracesOne}

-- the copy with a pin less
abbrev pub Unpinned : Option Held → Option Held → Type 0
Unpinned p r = IfSome p (λ held. r ≡ Some (record held { pins = held.pins - 1 }))

unpinned-home : (p r : Option Held) → IsSome p → Unpinned p r → home_in r ≡ home_in p
unpinned-home None r there is = cc
unpinned-home (Some held) r there is = ap home_in is

unpinned-state : (p r : Option Held) (i : ℕ) → IsSome p → Unpinned p r → state_in r i ≡ state_in p i
unpinned-state None r i there is = cc
unpinned-state (Some held) r i there is = ap (λ o. state_in o i) is

unpinned-pins : (p r : Option Held) → IsSome p → Unpinned p r → pins_in r ≡ pins_in p - 1
unpinned-pins None r there is = cc
unpinned-pins (Some held) r there is = ap pins_in is

unpinned-expected : (p r : Option Held) → IsSome p → Unpinned p r → expected_in r ≡ expected_in p
unpinned-expected None r there is = cc
unpinned-expected (Some held) r there is = ap expected_in is

-- the directory with a name for the next write
abbrev pub named_as : DirectoryView → Step → DirectoryView
named_as d line = record d { named = Some line }

module _ (d w n : DirectoryView) (line : Step) (copy lo hi : ℕ) (cells : List ℤ)
    (there : IsSome (copy_at d copy)) (pinned : 0 < pins_in (copy_at d copy))
    (written : WritesCopy (named_as d line) w copy lo hi cells)
    (unpinned : Unpinned (copy_at w copy) (copy_at n copy)) (others : (q : ℕ) → q ≢ copy → copy_at n q ≡ copy_at w q)
    (same : n ≡ record w { copies = n.copies }) where
  home_written : (q : ℕ) → home_in (copy_at w q) ≡ home_in (copy_at d q)
  home_written q = homes (copy_at d) (copy_at w) (cells_of_copy d) (cells_of_copy w) copy lo hi cells written.states written.values written.others q

  there_still : IsSome (copy_at w copy)
  there_still = some_home (copy_at d copy) (copy_at w copy) (sym (home_written copy)) there

  home_put : (q : ℕ) → home_in (copy_at n q) ≡ home_in (copy_at w q)
  home_put q = ⊎_elim
      (λ (e : q ≡ copy). subst (λ (x : ℕ). home_in (copy_at n x) ≡ home_in (copy_at w x)) (sym e) (unpinned-home (copy_at w copy) (copy_at n copy) there_still unpinned))
      (λ (ne : q ≢ copy). ap home_in (others q ne))
      (cases_eq q copy)

  state_put : (q i : ℕ) → state_in (copy_at n q) i ≡ state_in (copy_at w q) i
  state_put q i = ⊎_elim
      (λ (e : q ≡ copy). subst (λ (x : ℕ). state_in (copy_at n x) i ≡ state_in (copy_at w x) i) (sym e) (unpinned-state (copy_at w copy) (copy_at n copy) i there_still unpinned))
      (λ (ne : q ≢ copy). ap (λ o. state_in o i) (others q ne))
      (cases_eq q copy)

  cells_put : (q : ℕ) → cells_of_copy n q ≡ cells_of_copy w q
  cells_put q = ap (λ (v : DirectoryView). cells_of_copy v q) same

  pins_written : (q : ℕ) → pins_in (copy_at w q) ≡ pins_in (copy_at d q)
  pins_written q = ⊎_elim
      (λ (e : q ≡ copy). subst (λ (x : ℕ). pins_in (copy_at w x) ≡ pins_in (copy_at d x)) (sym e) written.states.own.pins)
      (λ (ne : q ≢ copy). ⊎_elim
      (λ (fellow : store_in (copy_at d q) ≡ store_in (copy_at d copy)). (written.states.fellows q ne fellow).pins)
      (λ (other : store_in (copy_at d q) ≢ store_in (copy_at d copy)). ap pins_in (written.states.others q other))
      (same_store (store_in (copy_at d q)) (store_in (copy_at d copy))))
      (cases_eq q copy)

  expected_written : (q : ℕ) → expected_in (copy_at w q) ≡ expected_in (copy_at d q)
  expected_written q = ⊎_elim
      (λ (e : q ≡ copy). subst (λ (x : ℕ). expected_in (copy_at w x) ≡ expected_in (copy_at d x)) (sym e) written.states.own.expected)
      (λ (ne : q ≢ copy). ⊎_elim
      (λ (fellow : store_in (copy_at d q) ≡ store_in (copy_at d copy)). (written.states.fellows q ne fellow).expected)
      (λ (other : store_in (copy_at d q) ≢ store_in (copy_at d copy)). ap expected_in (written.states.others q other))
      (same_store (store_in (copy_at d q)) (store_in (copy_at d copy))))
      (cases_eq q copy)

  expected_put : (q : ℕ) → expected_in (copy_at n q) ≡ expected_in (copy_at w q)
  expected_put q = ⊎_elim
      (λ (e : q ≡ copy). subst (λ (x : ℕ). expected_in (copy_at n x) ≡ expected_in (copy_at w x)) (sym e)
      (unpinned-expected (copy_at w copy) (copy_at n copy) there_still unpinned))
      (λ (ne : q ≢ copy). ap expected_in (others q ne))
      (cases_eq q copy)

  spoilt_put : IfSome (copy_at d copy) (λ held. Spoils d.messages n.messages held.store lo hi)
  spoilt_put = subst (λ (x : MessagesView). IfSome (copy_at d copy) (λ held. Spoils d.messages x held.store lo hi))
      (sym (ap (λ (v : DirectoryView). v.messages) same)) written.messages

  state_written : (q i : ℕ) → (store_in (copy_at d q) ≡ store_in (copy_at d copy) → (i < lo) ⊎ (hi ≤ i)) → state_in (copy_at w q) i ≡ state_in (copy_at d q) i
  state_written q i out = ⊎_elim
      (λ (fellow : store_in (copy_at d q) ≡ store_in (copy_at d copy)).
      state_outside (copy_at d) (copy_at w) (cells_of_copy d) (cells_of_copy w) copy lo hi cells written.states written.values written.others q i (out fellow))
      (λ (other : store_in (copy_at d q) ≢ store_in (copy_at d copy)). ap (λ o. state_in o i) (written.states.others q other))
      (same_store (store_in (copy_at d q)) (store_in (copy_at d copy)))

  module _ (stores : IfSome (copy_at d copy) (λ held. UsesWrite d.stores w.stores held.store))
      (owed : IfSome (copy_at d copy) (λ held. w.owed ≡ d.owed - min (changes_in (store_at d held.store)) 2))
      (next : w.next ≡ d.next) (next_copy : w.spaces.memories.next ≡ d.spaces.memories.next)
      (ranks : w.spaces.memories.ranks ≡ d.spaces.memories.ranks) (capacity : w.spaces.memories.capacity ≡ d.spaces.memories.capacity) where
    pub puts : Puts d n copy lo hi cells
    puts = record {
      homes = λ q. home_put q ∙ home_written q;
      unpinned = omega (arith, pinned, pins_written copy, unpinned-pins (copy_at w copy) (copy_at n copy) there_still unpinned);
      pins = λ q ne. ap pins_in (others q ne) ∙ pins_written q;
      expected = λ q. expected_put q ∙ expected_written q;
      owns = λ i above below. state_put copy i ∙ written.states.own.states.inside i above below;
      states = λ q i out. state_put q i ∙ state_written q i out;
      values = subst (λ (o : Option Rattle.sk_spaces.specs.Blocks.BlockView). WritesIn (cell_in (cells_of_copy d copy)) (cell_in o) lo hi cells) (sym (cells_put copy)) written.values;
      others = λ q ne. cells_put q ∙ written.others q ne;
      stores = subst (λ (v : DirectoryView). IfSome (copy_at d copy) (λ held. UsesWrite d.stores v.stores held.store)) (sym same) stores;
      owed = subst (λ (v : DirectoryView). IfSome (copy_at d copy) (λ held. v.owed ≡ d.owed - min (changes_in (store_at d held.store)) 2)) (sym same) owed;
      named = ap (λ (v : DirectoryView). v.named) same ∙ written.named;
      messages = spoilt_put;
      aside = ap (λ (v : DirectoryView). v.aside) same ∙ written.aside;
      next = ap (λ (v : DirectoryView). v.next) same ∙ next;
      next_copy = ap (λ (v : DirectoryView). v.spaces.memories.next) same ∙ next_copy;
      ranks = ap (λ (v : DirectoryView). v.spaces.memories.ranks) same ∙ ranks;
      capacity = ap (λ (v : DirectoryView). v.spaces.memories.capacity) same ∙ capacity;
    }

  pub puts-line : TracesStep (named_as d line) w line → ((m : Machine) → IsLike m w → IsLike m n) → TracesOne line d n
  puts-line step like = record {
    noted = subst (λ (v : SpacesView). NotesStep d.spaces v line) (sym (ap (λ (v : DirectoryView). v.spaces) same)) written.noted;
    traced = λ m l. let t = step m (like-same d (named_as d line) m refl refl refl refl refl l) in (t.0, like (Rattle.sk_spaces.specs.Rules.after m line) t.1);
  }
