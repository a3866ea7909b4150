-- A directory is as sound, and like the same machine, where states and cells stay.
use Rattle.std.proofs.Common.{◌≡◌, ◌≢◌, ℕ, ◌+◌, ◌<◌, ◌≤◌, List, length, slice_index, Option, Some, None, IfSome, IsSomeAnd, arith, ⊎_elim, refl, sym, subst, ◌∙◌, ap}
use Rattle.std.proofs.lemmas.Bool.{cases_eq}
use Rattle.sk_spaces.specs.Machine.{Machine}
use Rattle.sk_spaces.specs.Blocks.{BlockView, IsWhole}
use Rattle.sk_copy_states.specs.declared.held.Held.{Held}
use Rattle.sk_copy_states.specs.Held.{mark_of}
use Rattle.sk_copy_states.specs.Copies.{KeepsStates, home_in, home_store, store_in, state_in, cell_in, room_in}
use Rattle.sk_copy_states.specs.Stores.{StoreView, copies_in, changes_in, AreRising, HasTile}
use Rattle.sk_coherence_laws.specs.Directory.{DirectoryView, copy_at, store_at, cells_of_copy, block_home, IsSound, AreCoherent}
use Rattle.sk_coherence_laws.specs.Traced.{IsLike, IsLineOf}
use Rattle.sk_coherence_laws.proofs.InsideLemmas.{inside_on, lens_same}
use Rattle.sk_coherence_laws.proofs.MailLemmas.{mailed-so, like-mail-kept}
use Rattle.sk_coherence_laws.proofs.SoundWrite.{none_of_home}
use Rattle.sk_coherence_laws.proofs.TracedWrite.{some_home}

room_kept : (d : DirectoryView) (o p : Option Held) → KeepsStates o p
    → IfSome o (λ held. changes_in (store_at d held.store) + held.expected ≤ held.states.reserved)
    → IfSome p (λ held. changes_in (store_at d held.store) + held.expected ≤ held.states.reserved)
room_kept d o None k room = tt
room_kept d None (Some p) k room = let h = k.home in cc
room_kept d (Some o) (Some p) k room =
    let same : p.store ≡ o.store = grind (arith, ap home_store k.home) in
    omega (arith, room, k.room, k.expected, ap (λ (x : ℕ). changes_in (store_at d x)) same)

room_store : (d n : DirectoryView) (o : Option Held) → ((t : ℕ) → store_at n t ≡ store_at d t)
    → IfSome o (λ held. changes_in (store_at d held.store) + held.expected ≤ held.states.reserved)
    → IfSome o (λ held. changes_in (store_at n held.store) + held.expected ≤ held.states.reserved)
room_store d n None same room = tt
room_store d n (Some held) same room = subst (λ (x : Option StoreView). changes_in x + held.expected ≤ held.states.reserved) (sym (same held.store)) room

module _ (d n : DirectoryView) (kept : (q : ℕ) → KeepsStates (copy_at d q) (copy_at n q)) where
  pub coherent-kept : AreCoherent (copy_at d) (cells_of_copy d) → ((q : ℕ) → cells_of_copy n q ≡ cells_of_copy d q) → AreCoherent (copy_at n) (cells_of_copy n)
  coherent-kept h cells = record {
    single = λ j k i s a b. h.single j k i (ap home_store (sym (kept j).home) ∙ s ∙ ap home_store (kept k).home)
        (sym ((kept j).states i) ∙ a) (sym ((kept k).states i) ∙ b);
    equal = λ j k i s a r. ap (λ o. cell_in o i) (cells k)
        ∙ h.equal j k i (ap home_store (sym (kept j).home) ∙ s ∙ ap home_store (kept k).home) (sym ((kept j).states i) ∙ a) (λ e. r ((kept k).states i ∙ e))
        ∙ ap (λ o. cell_in o i) (sym (cells j));
  }

  -- the copies alone changed, and not in their states
  pub sound-kept : IsSound d → n.spaces.memories ≡ d.spaces.memories → ((t : ℕ) → store_at n t ≡ store_at d t) → n.next ≡ d.next → n.messages ≡ d.messages → n.aside ≡ d.aside
      → n.owed ≤ n.ready → n.ready + n.aside ≤ n.spaces.journal.spare → IsSound n
  sound-kept s spaces store next messages aside owed ready =
      let cells : (q : ℕ) → cells_of_copy n q ≡ cells_of_copy d q = λ q. ap (λ x. Rattle.sk_spaces.specs.Memories.block_of x q) spaces in
      record {
        fit = λ q. (kept q).fit (s.fit q);
        whole = λ q. subst (λ (o : Option BlockView). IfSome o IsWhole) (sym (cells q)) (s.whole q);
        tied = λ q. ap block_home (cells q) ∙ s.tied q ∙ sym (kept q).home;
        inside = λ q. inside_on d n (home_in (copy_at d q)) (home_in (copy_at n q)) (kept q).home (lens_same d n store) (s.inside q);
        listed = λ t k below. ap home_store (kept _).home ∙ subst (λ (o : Option StoreView). store_in (copy_at d (slice_index (copies_in o) k)) ≡ Some t) (sym (store t))
            (s.listed t k (subst (λ (o : Option StoreView). k < length (copies_in o)) (store t) below));
        complete = λ t q is. subst (λ (o : Option StoreView). (k : ℕ) × (k < length (copies_in o)) × (slice_index (copies_in o) k ≡ q)) (sym (store t))
            (s.complete t q (ap home_store (sym (kept q).home) ∙ is));
        rising = λ t. subst (λ (o : Option StoreView). AreRising (copies_in o)) (sym (store t)) (s.rising t);
        tiles = λ t. subst (λ (o : Option StoreView). IfSome o HasTile) (sym (store t)) (s.tiles t);
        room = λ q. room_store d n (copy_at n q) store (room_kept d (copy_at d q) (copy_at n q) (kept q) (s.room q));
        owed = owed;
        ready = ready;
        new_copies = λ q above. none_of_home (copy_at n q) ((kept q).home ∙ ap home_in (s.new_copies q (subst (λ x. x.next ≤ q) spaces above)));
        new_stores = λ t above. store t ∙ s.new_stores t (omega (arith, above, next));
        coherent = coherent-kept s.coherent cells;
        mailed = mailed-so d n s.mailed messages aside (ap (λ x. x.next) spaces) next (λ q. (kept q).home) (λ q. (kept q).expected)
            (λ q i own. record { at = q; store = sym (ap home_store (kept q).home); owns = sym ((kept q).states i) ∙ own; cell = sym (ap (λ o. cell_in o i) (cells q)) });
      }

  -- the same machine
  pub like-kept : (m : Machine) → n.spaces.memories ≡ d.spaces.memories → ((t : ℕ) → store_at n t ≡ store_at d t) → n.next ≡ d.next → n.messages ≡ d.messages → IsLike m d → IsLike m n
  like-kept m spaces stores next messages l =
      let cells : (q : ℕ) → cells_of_copy n q ≡ cells_of_copy d q = λ q. ap (λ x. Rattle.sk_spaces.specs.Memories.block_of x q) spaces in
      record {
        memory = subst (λ x. IsSomeAnd m.memory (λ line. (line.ranks ≡ x.ranks) × (line.capacity ≡ x.capacity))) (sym spaces) l.memory;
        stores = λ t. subst (λ (x : Option StoreView). IfSome x (λ store. IsSomeAnd (m.stores t) (IsLineOf store))) (sym (stores t)) (l.stores t);
        new_stores = λ t above. l.new_stores t (omega (arith, above, next));
        copies = λ q. l.copies q ∙ sym (kept q).home;
        new_copies = λ q above. l.new_copies q (subst (λ x. x.next ≤ q) spaces above);
        marks = λ q i some. l.marks q i (some_home (copy_at n q) (copy_at d q) (kept q).home some) ∙ ap mark_of (sym ((kept q).states i));
        cells = λ q i readable. l.cells q i (λ e. readable ((kept q).states i ∙ e)) ∙ ap (λ o. cell_in o i) (sym (cells q));
        used = λ space some. l.used space some ∙ ap (λ x. Rattle.sk_spaces.specs.Memories.used_of x space) (sym spaces);
        messages = like-mail-kept m.messages m.copies d n l.messages messages (ap (λ x. x.next) spaces);
      }

pub keeps_same : (o : Option Held) → KeepsStates o o
keeps_same o = record { home = refl; expected = refl; fit = λ fit. fit; room = omega arith; states = λ i. refl }

-- each copy keeps its states, where one does and the others are the same
pub keeps_all : (old new : ℕ → Option Held) (c : ℕ) → KeepsStates (old c) (new c) → ((q : ℕ) → q ≢ c → new q ≡ old q)
    → (q : ℕ) → KeepsStates (old q) (new q)
keeps_all old new c here others q = ⊎_elim
    (λ (e : q ≡ c). subst (λ (x : ℕ). KeepsStates (old x) (new x)) (sym e) here)
    (λ (ne : q ≢ c). subst (λ (o : Option Held). KeepsStates (old q) o) (sym (others q ne)) (keeps_same (old q)))
    (cases_eq q c)

-- the same machine, where the journal alone changed
pub like-same : (d n : DirectoryView) (m : Machine) → n.spaces.memories ≡ d.spaces.memories → n.copies ≡ d.copies
    → n.stores ≡ d.stores → n.next ≡ d.next → n.messages ≡ d.messages → IsLike m d → IsLike m n
like-same d n m memories copies stores next messages l =
    like-kept d n (λ q. subst (λ (es : List (ℕ × Held)). KeepsStates (copy_at d q) (Rattle.sk_copy_states.specs.Copies.held_in es q)) (sym copies) (keeps_same (copy_at d q)))
    m memories (λ t. ap (λ x. Rattle.sk_copy_states.specs.Stores.store_of x t) stores) next messages l
