-- A directory is as sound with one copy more, and the machine is like it.
use Rattle.std.proofs.Common.{◌≡◌, ◌≢◌, ℕ, ◌+◌, ◌-◌, ◌<◌, ◌≤◌, ◌==◌, if◌then◌else◌, Bool, List, [], ◌∷◌, ◌++◌, length, slice_index, Option, Some, None, IfSome, IsSome, IsSomeAnd, arith, ⊎_elim, refl, inr, sym, subst, ◌∙◌, ap}
use Rattle.std.proofs.lemmas.Bool.{cases_eq, cases_lt}
use Rattle.std.proofs.lemmas.Grind.{common_steps}
use Rattle.sk_ranges.specs.declared.state.State.TheVariants.{Stale, Owner}
use Rattle.sk_spaces.specs.declared.step.Step.TheVariants.{Alloc}
use Rattle.sk_spaces.specs.Machine.{Machine, Home, live, stale, replaced}
use Rattle.sk_spaces.specs.Rules.{IsLegal, after, IsInside, HasRoom}
use Rattle.sk_spaces.specs.Blocks.{BlockView, IsWhole}
use Rattle.sk_spaces.specs.Memories.{used_of, AddsBlock, fresh_block, LacksRoom}
use Rattle.sk_copy_states.specs.declared.held.Held.{Held}
use Rattle.sk_copy_states.specs.Held.{IsFit, IsFresh, mark_of}
use Rattle.sk_copy_states.specs.Copies.{KeepsStates, pins_in, expected_in, ChangesCopy, home_in, store_in, state_in, cell_in}
use Rattle.sk_copy_states.specs.Stores.{StoreView, PutsStore, copies_in, changes_in, AreRising, HasTile, IsBlockOf, with_copy}
use Rattle.sk_coherence_laws.specs.Directory.{DirectoryView, copy_at, store_at, cells_of_copy, block_home, IsSound, AreCoherent, LiesInside}
use Rattle.sk_messages.specs.Messages.{MessagesView, mail_of, next_of}
use Rattle.sk_coherence_laws.specs.Traced.{IsLike, IsLineOf, HasMessages, live_home}
use Rattle.sk_coherence_laws.specs.Serves.{HasOwner}
use Rattle.sk_coherence_laws.proofs.InsideLemmas.{lens_on}
use Rattle.sk_coherence_laws.proofs.MailLemmas.{StaysOrNew, stays_so, mailed-kept, like-mail-same, like-mail-beside}
use Rattle.sk_spaces.specs.Spaces.{Stays}
use Rattle.sk_coherence_laws.specs.Moves.{Idles}
use Rattle.sk_coherence_laws.specs.Adds.{AddsCopy}
use Rattle.sk_copy_states.specs.Entries.{Enters}
use Rattle.sk_copy_states.specs.Stores as store
use Rattle.sk_base.specs.Shape.{cells_of}
use Rattle.sk_spaces.proofs.RoomLemmas.{fits_in}
use Rattle.sk_coherence_laws.proofs.StateLemmas.{stale_not_owner}
use Rattle.sk_coherence_laws.proofs.OpenLemmas.{replaced_here, replaced_else, some_of, eq_yes, eq_no}

index_front : (ids : List ℕ) (id k : ℕ) → k < length ids → slice_index (ids ++ id ∷ []) k ≡ slice_index ids k
index_front ids id k below = grind (arith, common_steps)

index_last : (ids : List ℕ) (id : ℕ) → slice_index (ids ++ id ∷ []) (length ids) ≡ id
index_last ids id = grind (arith, common_steps)

length_more : (ids : List ℕ) (id : ℕ) → length (ids ++ id ∷ []) ≡ length ids + 1
length_more ids id = grind (arith, common_steps)

store_there : (o : Option Held) (s : ℕ) → store_in o ≡ Some s → IsSome o
store_there None s is = cc
store_there (Some held) s is = refl

none_there : (o : Option Held) → o ≡ None → IsSome o → ⊥
none_there None is there = cc
none_there (Some held) is there = cc

-- where the room of each copy is enough, and its store's is the same
room_same : (d n : DirectoryView) (o : Option Held) → ((t : ℕ) → changes_in (store_at n t) ≡ changes_in (store_at d t))
    → IfSome o (λ held. changes_in (store_at d held.store) + held.expected ≤ held.states.reserved)
    → IfSome o (λ held. changes_in (store_at n held.store) + held.expected ≤ held.states.reserved)
room_same d n None same room = tt
room_same d n (Some held) same room = omega (arith, room, same held.store)

fresh-whole : (store space lo hi : ℕ) → lo ≤ hi → IsWhole (fresh_block store space lo hi)
fresh-whole store space lo hi ordered = record { ordered = ordered; cells = grind (arith, common_steps) }

module _ (d n : DirectoryView) (id s space lo hi : ℕ) (st : StoreView) (held : Held) (sound : IsSound d) (a : AddsCopy d n id s space lo hi st held) where
  absent : copy_at d id ≡ None
  absent = sound.new_copies id (omega (arith, a.memories.number))

  listed_here : (k : ℕ) → k < length st.copies → store_in (copy_at d (slice_index st.copies k)) ≡ Some s
  listed_here k below = subst (λ (o : Option StoreView). store_in (copy_at d (slice_index (copies_in o) k)) ≡ Some s) a.store
      (sound.listed s k (subst (λ (o : Option StoreView). k < length (copies_in o)) (sym a.store) below))

  listed_below : (k : ℕ) → k < length st.copies → slice_index st.copies k < id
  listed_below k below = ⊎_elim
      (λ (less : slice_index st.copies k < id). less)
      (λ (more : id ≤ slice_index st.copies k). absurd (none_there (copy_at d (slice_index st.copies k))
      (sound.new_copies (slice_index st.copies k) (omega (arith, more, a.memories.number))) (store_there _ s (listed_here k below))))
      (cases_lt (slice_index st.copies k) id)

  copies_now : copies_in (store_at n s) ≡ st.copies ++ id ∷ []
  copies_now = ap copies_in a.stores.here

  copies_else : (t : ℕ) → t ≢ s → copies_in (store_at n t) ≡ copies_in (store_at d t)
  copies_else t ne = ap copies_in (a.stores.others t ne)

  changes_same : (t : ℕ) → changes_in (store_at n t) ≡ changes_in (store_at d t)
  changes_same t = ⊎_elim
      (λ (e : t ≡ s). subst (λ (x : ℕ). changes_in (store_at n x) ≡ changes_in (store_at d x)) (sym e) (ap changes_in a.stores.here ∙ sym (ap changes_in a.store)))
      (λ (ne : t ≢ s). ap changes_in (a.stores.others t ne))
      (cases_eq t s)

  each : (P : Option Held → Option BlockView → Type 0) → P (Some held) (Some (fresh_block s space lo hi)) → ((q : ℕ) → P (copy_at d q) (cells_of_copy d q))
      → (q : ℕ) → P (copy_at n q) (cells_of_copy n q)
  each P here all q = ⊎_elim
      (λ (e : q ≡ id). subst (λ (x : ℕ). P (copy_at n x) (cells_of_copy n x)) (sym e)
      (subst (λ (b : Option BlockView). P (copy_at n id) b) (sym a.memories.blocks.here) (subst (λ (o : Option Held). P o (Some (fresh_block s space lo hi))) (sym a.copies.here) here)))
      (λ (ne : q ≢ id). subst (λ (b : Option BlockView). P (copy_at n q) b) (sym (a.memories.blocks.others q ne)) (subst (λ (o : Option Held). P o (cells_of_copy d q)) (sym (a.copies.others q ne)) (all q)))
      (cases_eq q id)

  state_new : (i : ℕ) → state_in (copy_at n id) i ≡ Stale
  state_new i = ap (λ o. state_in o i) a.copies.here ∙ a.stale i

  listed_now : (t k : ℕ) → k < length (copies_in (store_at n t)) → store_in (copy_at n (slice_index (copies_in (store_at n t)) k)) ≡ Some t
  listed_now t k below = ⊎_elim
      (λ (e : t ≡ s). subst (λ (x : ℕ). store_in (copy_at n (slice_index (copies_in (store_at n x)) k)) ≡ Some x) (sym e)
      (subst (λ (ids : List ℕ). store_in (copy_at n (slice_index ids k)) ≡ Some s) (sym copies_now)
      (in_list (subst (λ (ids : List ℕ). k < length ids) copies_now (subst (λ (x : ℕ). k < length (copies_in (store_at n x))) e below)))))
      (λ (ne : t ≢ s). subst (λ (ids : List ℕ). store_in (copy_at n (slice_index ids k)) ≡ Some t) (sym (copies_else t ne))
      (of_old (slice_index (copies_in (store_at d t)) k) t (sound.listed t k (subst (λ (ids : List ℕ). k < length ids) (copies_else t ne) below))))
      (cases_eq t s)
    where
      of_old : (q t : ℕ) → store_in (copy_at d q) ≡ Some t → store_in (copy_at n q) ≡ Some t
      of_old q t is = ap store_in (a.copies.others q (λ e. none_there (copy_at d q) (subst (λ (x : ℕ). copy_at d x ≡ None) (sym e) absent) (store_there (copy_at d q) t is))) ∙ is

      in_list : k < length (st.copies ++ id ∷ []) → store_in (copy_at n (slice_index (st.copies ++ id ∷ []) k)) ≡ Some s
      in_list inside = ⊎_elim
          (λ (front : k < length st.copies). subst (λ (q : ℕ). store_in (copy_at n q) ≡ Some s) (sym (index_front st.copies id k front)) (of_old (slice_index st.copies k) s (listed_here k front)))
          (λ (back : length st.copies ≤ k).
          let last : k ≡ length st.copies = omega (arith, back, inside, length_more st.copies id) in
          subst (λ (q : ℕ). store_in (copy_at n q) ≡ Some s) (sym (ap (slice_index (st.copies ++ id ∷ [])) last ∙ index_last st.copies id)) (ap store_in a.copies.here ∙ ap Some a.home_store))
          (cases_lt k (length st.copies))

  complete_now : (t q : ℕ) → store_in (copy_at n q) ≡ Some t → (k : ℕ) × (k < length (copies_in (store_at n t))) × (slice_index (copies_in (store_at n t)) k ≡ q)
  complete_now t q is = ⊎_elim
      (λ (e : q ≡ id).
      let same : t ≡ s = some_eq t s (sym is ∙ ap (λ x. store_in (copy_at n x)) e ∙ ap store_in a.copies.here ∙ ap Some a.home_store) in
      subst (λ (x : ℕ). (k : ℕ) × (k < length (copies_in (store_at n x))) × (slice_index (copies_in (store_at n x)) k ≡ q)) (sym same)
      (subst (λ (ids : List ℕ). (k : ℕ) × (k < length ids) × (slice_index ids k ≡ q)) (sym copies_now)
      (length st.copies, omega (arith, length_more st.copies id), index_last st.copies id ∙ sym e)))
      (λ (ne : q ≢ id). let before = sound.complete t q (ap store_in (sym (a.copies.others q ne)) ∙ is) in ⊎_elim
      (λ (e : t ≡ s).
      let inside : before.0 < length st.copies = subst (λ (o : Option StoreView). before.0 < length (copies_in o)) (ap (store_at d) e ∙ a.store) before.1 in
      let at : slice_index st.copies before.0 ≡ q = subst (λ (o : Option StoreView). slice_index (copies_in o) before.0 ≡ q) (ap (store_at d) e ∙ a.store) before.2 in
      subst (λ (x : ℕ). (k : ℕ) × (k < length (copies_in (store_at n x))) × (slice_index (copies_in (store_at n x)) k ≡ q)) (sym e)
      (subst (λ (ids : List ℕ). (k : ℕ) × (k < length ids) × (slice_index ids k ≡ q)) (sym copies_now)
      (before.0, omega (arith, inside, length_more st.copies id), index_front st.copies id before.0 inside ∙ at)))
      (λ (apart : t ≢ s). subst (λ (ids : List ℕ). (k : ℕ) × (k < length ids) × (slice_index ids k ≡ q)) (sym (copies_else t apart)) before)
      (cases_eq t s))
      (cases_eq q id)
    where
      some_eq : (x y : ℕ) → Some x ≡ Some y → x ≡ y
      some_eq x y same = cc

  rising_now : (t : ℕ) → AreRising (copies_in (store_at n t))
  rising_now t = ⊎_elim
      (λ (e : t ≡ s). subst (λ (x : ℕ). AreRising (copies_in (store_at n x))) (sym e) (subst AreRising (sym copies_now)
      (λ j k less below. ⊎_elim
      (λ (front : k < length st.copies).
      let before : slice_index st.copies j < slice_index st.copies k = subst (λ (o : Option StoreView). slice_index (copies_in o) j < slice_index (copies_in o) k) a.store
      (sound.rising s j k less (subst (λ (o : Option StoreView). k < length (copies_in o)) (sym a.store) front)) in
      omega (arith, index_front st.copies id j (omega (arith, less, front)), index_front st.copies id k front, before))
      (λ (back : length st.copies ≤ k).
      let last : k ≡ length st.copies = omega (arith, back, below, length_more st.copies id) in
      omega (arith, index_front st.copies id j (omega (arith, less, last)), ap (slice_index (st.copies ++ id ∷ [])) last ∙ index_last st.copies id, listed_below j (omega (arith, less, last))))
      (cases_lt k (length st.copies)))))
      (λ (ne : t ≢ s). subst AreRising (sym (copies_else t ne)) (sound.rising t))
      (cases_eq t s)

  tiles_now : (t : ℕ) → IfSome (store_at n t) HasTile
  tiles_now t = ⊎_elim
      (λ (e : t ≡ s). subst (λ (x : ℕ). IfSome (store_at n x) HasTile) (sym e) (subst (λ (o : Option StoreView). IfSome o HasTile) (sym a.stores.here)
      (subst (λ (o : Option StoreView). IfSome o HasTile) a.store (sound.tiles s))))
      (λ (ne : t ≢ s). subst (λ (o : Option StoreView). IfSome o HasTile) (sym (a.stores.others t ne)) (sound.tiles t))
      (cases_eq t s)

  not_new : (q i : ℕ) → state_in (copy_at n q) i ≢ Stale → q ≢ id
  not_new q i readable e = readable (ap (λ x. state_in (copy_at n x) i) e ∙ state_new i)

  owner_not_new : (q i : ℕ) → state_in (copy_at n q) i ≡ Owner → q ≢ id
  owner_not_new q i own e = stale_not_owner (sym (ap (λ x. state_in (copy_at n x) i) e ∙ state_new i) ∙ own)

  coherent_now : AreCoherent (copy_at n) (cells_of_copy n)
  coherent_now = record {
    single = λ j k i same x y.
        let jn = a.copies.others j (owner_not_new j i x) in let kn = a.copies.others k (owner_not_new k i y) in
        sound.coherent.single j k i (sym (ap store_in jn) ∙ same ∙ ap store_in kn) (sym (ap (λ o. state_in o i) jn) ∙ x) (sym (ap (λ o. state_in o i) kn) ∙ y);
    equal = λ j k i same x r.
        let jn = a.copies.others j (owner_not_new j i x) in let kn = a.copies.others k (not_new k i r) in
        ap (λ o. cell_in o i) (a.memories.blocks.others k (not_new k i r))
        ∙ sound.coherent.equal j k i (sym (ap store_in jn) ∙ same ∙ ap store_in kn) (sym (ap (λ o. state_in o i) jn) ∙ x) (λ e. r (ap (λ o. state_in o i) kn ∙ e))
        ∙ ap (λ o. cell_in o i) (sym (a.memories.blocks.others j (owner_not_new j i x)));
  }

  lens_kept : (t : ℕ) → store.len_in (store_at d t) ≤ store.len_in (store_at n t)
  lens_kept t = ⊎_elim
      (λ (e : t ≡ s). subst (λ (x : ℕ). store.len_in (store_at d x) ≤ store.len_in (store_at n x)) (sym e) here)
      (λ (ne : t ≢ s). omega (arith, ap store.len_in (a.stores.others t ne)))
      (cases_eq t s)
    where
      here : store.len_in (store_at d s) ≤ store.len_in (store_at n s)
      here =
          let now : store.len_in (store_at n s) ≡ cells_of st.shape = ap store.len_in a.stores.here in
          let before : store.len_in (store_at d s) ≡ cells_of st.shape = ap store.len_in a.store in
          omega (arith, now, before)

  inside_new : IsBlockOf lo hi st → LiesInside d (home_in (Some held))
  inside_new block = subst (λ (h : Home). LiesInside d (Some h)) (sym a.home)
      (block.some, subst (λ (o : Option StoreView). hi ≤ store.len_in o) (sym a.store) block.inside)

  stays_now : (q : ℕ) → IsSome (copy_at n q) → StaysOrNew d n q
  stays_now q there = ⊎_elim
      (λ (e : q ≡ id). inr (omega (arith, e, a.memories.number)))
      (λ (ne : q ≢ id). stays_so d n q (ap home_in (a.copies.others q ne)) (ap expected_in (a.copies.others q ne)) there)
      (cases_eq q id)

  owner_before : (q i : ℕ) → state_in (copy_at n q) i ≡ Owner → HasOwner n d q i
  owner_before q i own = let c = a.copies.others q (owner_not_new q i own) in
      record { at = q; store = ap store_in (sym c); owns = ap (λ o. state_in o i) (sym c) ∙ own; cell = ap (λ o. cell_in o i) (sym (a.memories.blocks.others q (owner_not_new q i own))) }

  pub sound-add : IsBlockOf lo hi st → n.owed ≤ n.ready → n.ready + n.aside ≤ n.spaces.journal.spare → IsSound n
  sound-add block owed ready = record {
    fit = each (λ o b. IfSome o IsFit) a.fit sound.fit;
    whole = each (λ o b. IfSome b IsWhole) (fresh-whole s space lo hi (omega (arith, block.some))) sound.whole;
    tied = each (λ o b. block_home b ≡ home_in o) (ap Some (sym a.home)) sound.tied;
    inside = λ q. lens_on d n (home_in (copy_at n q)) lens_kept (each (λ o b. LiesInside d (home_in o)) (inside_new block) sound.inside q);
    listed = listed_now;
    complete = complete_now;
    rising = rising_now;
    tiles = tiles_now;
    room = λ q. room_same d n (copy_at n q) changes_same
        (each (λ o b. IfSome o (λ held. changes_in (store_at d held.store) + held.expected ≤ held.states.reserved))
        (subst (λ (x : ℕ). changes_in (store_at d x) + held.expected ≤ held.states.reserved) (sym a.home_store) (subst (λ (o : Option StoreView). changes_in o + held.expected ≤ held.states.reserved) (sym a.store) (omega (arith, a.room, a.expected)))) sound.room q);
    owed = owed;
    ready = ready;
    new_copies = λ q above. a.copies.others q (λ e. omega (arith, above, e, a.memories.next, a.memories.number)) ∙ sound.new_copies q (omega (arith, above, a.memories.next));
    new_stores = λ t above. a.stores.others t (λ e. some_store (store_at d t) (ap (store_at d) e ∙ a.store) (sound.new_stores t (omega (arith, above, a.next)))) ∙ sound.new_stores t (omega (arith, above, a.next));
    coherent = coherent_now;
    mailed = mailed-kept d n sound.mailed a.messages a.aside (omega (arith, a.memories.next)) (omega (arith, a.next)) stays_now owner_before;
  }
    where
      some_store : (o : Option StoreView) → o ≡ Some st → o ≡ None → ⊥
      some_store o one other = cc

  used_now : (m : Machine) → IsLike m d → (p : ℕ) → 0 < p
      → (if p == space then m.used p + (hi - lo) else m.used p) ≡ used_of n.spaces.memories p
  used_now m l p some = ⊎_elim
      (λ (e : p ≡ space). ap (λ (t : Bool). if t then m.used p + (hi - lo) else m.used p) (eq_yes p space e)
      ∙ ap (λ x. x + (hi - lo)) (l.used p some)
      ∙ sym (a.memories.used p ∙ ap (λ (t : Bool). used_of d.spaces.memories p + (if t then hi - lo else 0)) (eq_yes space p (sym e))))
      (λ (ne : p ≢ space). ap (λ (t : Bool). if t then m.used p + (hi - lo) else m.used p) (eq_no p space ne)
      ∙ l.used p some
      ∙ sym (a.memories.used p ∙ ap (λ (t : Bool). used_of d.spaces.memories p + (if t then hi - lo else 0)) (eq_no space p (λ e. ne (sym e))) ∙ omega arith))
      (cases_eq p space)

  marks_now : (m : Machine) → IsLike m d → (q i : ℕ) → IsSome (copy_at n q)
      → (if q == id then stale else m.marks q i) ≡ mark_of (state_in (copy_at n q) i)
  marks_now m l q i some = ⊎_elim
      (λ (e : q ≡ id). ap (λ (t : Bool). if t then stale else m.marks q i) (eq_yes q id e)
      ∙ sym (ap mark_of (ap (λ x. state_in (copy_at n x) i) e ∙ state_new i)))
      (λ (ne : q ≢ id). ap (λ (t : Bool). if t then stale else m.marks q i) (eq_no q id ne)
      ∙ l.marks q i (subst (λ (o : Option Held). IsSome o) (a.copies.others q ne) some) ∙ ap (λ o. mark_of (state_in o i)) (sym (a.copies.others q ne)))
      (cases_eq q id)

  copies_like : (m : Machine) → IsLike m d → (q : ℕ)
      → live_home (replaced m.copies id (live (record { store = s; space = space; lo = lo; hi = hi })) q) ≡ home_in (copy_at n q)
  copies_like m l q = ⊎_elim
      (λ (e : q ≡ id). ap live_home (replaced_here m.copies id (live (record { store = s; space = space; lo = lo; hi = hi })) q e)
      ∙ sym (ap (λ x. home_in (copy_at n x)) e ∙ ap home_in a.copies.here ∙ ap Some a.home))
      (λ (ne : q ≢ id). ap live_home (replaced_else m.copies id (live (record { store = s; space = space; lo = lo; hi = hi })) q ne)
      ∙ l.copies q ∙ ap home_in (sym (a.copies.others q ne)))
      (cases_eq q id)

  stores_like : (m : Machine) → IsLike m d → (t : ℕ) → IfSome (store_at n t) (λ store. IsSomeAnd (m.stores t) (IsLineOf store))
  stores_like m l t = ⊎_elim
      (λ (e : t ≡ s). subst (λ (x : ℕ). IfSome (store_at n x) (λ store. IsSomeAnd (m.stores x) (IsLineOf store))) (sym e)
      (subst (λ (o : Option StoreView). IfSome o (λ store. IsSomeAnd (m.stores s) (IsLineOf store))) (sym a.stores.here)
      (subst (λ (o : Option StoreView). IfSome o (λ store. IsSomeAnd (m.stores s) (IsLineOf store))) a.store (l.stores s))))
      (λ (ne : t ≢ s). subst (λ (o : Option StoreView). IfSome o (λ store. IsSomeAnd (m.stores t) (IsLineOf store))) (sym (a.stores.others t ne)) (l.stores t))
      (cases_eq t s)

  -- no message goes to the new copy
  messages_like : (m : Machine) → IsLike m d
      → HasMessages m.messages (replaced m.copies id (live (record { store = s; space = space; lo = lo; hi = hi }))) n
  messages_like m l = like-mail-same m.messages (replaced m.copies id (live (record { store = s; space = space; lo = lo; hi = hi }))) d n
      (like-mail-beside m.messages m.copies (replaced m.copies id (live (record { store = s; space = space; lo = lo; hi = hi }))) d l.messages
      (λ q below gone. ap live_home (replaced_else m.copies id (live (record { store = s; space = space; lo = lo; hi = hi })) q (λ e. omega (arith, below, e, a.memories.number))) ∙ gone))
      (λ number. ap (λ (x : MessagesView). mail_of x number) a.messages) (ap next_of a.messages) (omega (arith, a.memories.next))

  -- the machine is like the directory with the copy
  pub like-added : (m : Machine) → IsLike m d → IsLike (after m (Alloc id s space lo hi)) n
  like-added m l = record {
    memory = subst (λ (r : ℕ). IsSomeAnd m.memory (λ line. (line.ranks ≡ r) × (line.capacity ≡ n.spaces.memories.capacity))) (sym a.memories.ranks)
        (subst (λ (k : ℕ). IsSomeAnd m.memory (λ line. (line.ranks ≡ d.spaces.memories.ranks) × (line.capacity ≡ k))) (sym a.memories.capacity) l.memory);
    stores = stores_like m l;
    new_stores = λ t above. l.new_stores t (omega (arith, above, a.next));
    copies = copies_like m l;
    new_copies = λ q above. replaced_else m.copies id (live (record { store = s; space = space; lo = lo; hi = hi })) q (λ e. omega (arith, above, e, a.memories.next, a.memories.number))
        ∙ l.new_copies q (omega (arith, above, a.memories.next));
    marks = marks_now m l;
    cells = λ q i readable. let qn = a.copies.others q (not_new q i readable) in
        l.cells q i (λ e. readable (ap (λ o. state_in o i) qn ∙ e)) ∙ ap (λ o. cell_in o i) (sym (a.memories.blocks.others q (not_new q i readable)));
    used = used_now m l;
    messages = messages_like m l;
  }

take_held : (o : Option Held) (P : Held → Type 0) → IsSome o → IfSome o P → (held : Held) × (o ≡ Some held) × P held
take_held None P there holds = cc
take_held (Some held) P there holds = (held, refl, holds)

pub take_store : (o : Option StoreView) → IsSome o → (st : StoreView) × (o ≡ Some st)
take_store None there = cc
take_store (Some st) there = (st, refl)

some_and_map : {A : Type 0} (o : Option A) (P Q : A → Type 0) → ((x : A) → P x → Q x) → IsSomeAnd o P → IsSomeAnd o Q
some_and_map None P Q more holds = holds
some_and_map (Some x) P Q more holds = more x holds

pub if_some : {A : Type 0} (o : Option A) (x : A) (P : A → Type 0) → o ≡ Some x → IfSome o P → P x
if_some o x P is holds = subst (λ (o : Option _). IfSome o P) is holds

-- a listed copy and a new block are a new copy
pub adds_of : (d n : DirectoryView) (id s space lo hi : ℕ) (st : StoreView) → store_at d s ≡ Some st
    → Enters d.copies n.copies d.stores n.stores id s space lo hi st
    → AddsBlock d.spaces.memories n.spaces.memories id (fresh_block s space lo hi) → n.next ≡ d.next → n.messages ≡ d.messages → n.aside ≡ d.aside
    → (held : Held) × AddsCopy d n id s space lo hi st held
adds_of d n id s space lo hi st is e b next messages aside =
    let t = take_held (copy_at n id) (IsFresh s space lo hi st.room) e.there e.fresh in (
      t.0,
      record {
        memories = b;
        copies = record { here = t.1; others = e.others };
        store = is;
        stores = e.stores;
        next = next;
        messages = messages;
        aside = aside;
        home_store = ap (λ (h : Home). h.store) t.2.home;
        home = t.2.home;
        pins = t.2.pins;
        expected = t.2.expected;
        fit = t.2.fit;
        room = t.2.ready;
        stale = t.2.stale;
      },
    )

pub legal-add : (d : DirectoryView) (id s space lo hi : ℕ) (st : StoreView) (m : Machine) → IsLike m d → store_at d s ≡ Some st
    → id ≡ d.spaces.memories.next → IsBlockOf lo hi st → space ≤ d.spaces.memories.ranks
    → ((len : ℕ) → lo + len ≡ hi → LacksRoom d.spaces.memories space len → ⊥)
    → IsLegal m (Alloc id s space lo hi)
legal-add d id s space lo hi st m l is number block ranks room = (
  some_of m.memory _ l.memory,
  (
    l.new_copies id (omega (arith, number)),
    block.some,
    some_and_map (m.stores s) (IsLineOf st) (IsInside lo hi)
        (λ line of. record { ordered = omega (arith, block.some); below = subst (λ (sh : List ℕ). hi ≤ Rattle.sk_base.specs.Shape.cells_of sh) (sym of.1) block.inside })
        (if_some (store_at d s) st (λ store. IsSomeAnd (m.stores s) (IsLineOf store)) is (l.stores s)),
    some_and_map m.memory _ (HasRoom m space (hi - lo))
        (λ line of. record {
          rank = omega (arith, of.0, ranks);
          room = λ some. let fits = fits_in d.spaces.memories space (hi - lo) (room (hi - lo) (omega (arith, block.some))) some in
              omega (arith, fits, l.used space some, of.1);
        })
        l.memory,
  ),
)

-- where a listed copy is taken off the lists again, each look-up answers as before
module _ (d e n : DirectoryView) (id s space lo hi : ℕ) (st : StoreView) (absent : copy_at d id ≡ None) (is : store_at d s ≡ Some st)
    (enters : Enters d.copies e.copies d.stores e.stores id s space lo hi st)
    (gone : ChangesCopy e.copies n.copies id None) (back : PutsStore e.stores n.stores s st) where
  pub copies_undone : (q : ℕ) → copy_at n q ≡ copy_at d q
  copies_undone q = ⊎_elim
      (λ (same : q ≡ id). subst (λ (x : ℕ). copy_at n x ≡ copy_at d x) (sym same) (gone.here ∙ sym absent))
      (λ (ne : q ≢ id). gone.others q ne ∙ enters.others q ne)
      (cases_eq q id)

  pub stores_undone : (t : ℕ) → store_at n t ≡ store_at d t
  stores_undone t = ⊎_elim
      (λ (same : t ≡ s). subst (λ (x : ℕ). store_at n x ≡ store_at d x) (sym same) (back.here ∙ sym is))
      (λ (ne : t ≢ s). back.others t ne ∙ enters.stores.others t ne)
      (cases_eq t s)

-- where each look-up answers as before, nothing changed
pub idle_at : (d n : DirectoryView) → ((q : ℕ) → copy_at n q ≡ copy_at d q) → ((t : ℕ) → store_at n t ≡ store_at d t)
    → Stays d.spaces n.spaces d.spaces.named → n.next ≡ d.next → n.owed ≡ d.owed → n.named ≡ d.named → n.ready ≡ d.ready
    → n.messages ≡ d.messages → n.aside ≡ d.aside → Idles d n
idle_at d n copies stores stays next owed named ready messages aside = record {
  copies = λ q. subst (λ (o : Option Held). KeepsStates (copy_at d q) o) (sym (copies q)) (record { home = refl; expected = refl; fit = λ fit. fit; room = omega arith; states = λ i. refl });
  pins = λ q. ap pins_in (copies q);
  stores = stores;
  next = next;
  owed = owed;
  named = named;
  ready = omega (arith, ready);
  messages = messages;
  aside = aside;
  spaces = stays;
}
