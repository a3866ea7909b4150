-- A directory is as sound without a copy that owns nothing, and the machine is like it.
use Rattle.std.proofs.Common.{◌≡◌, ◌≢◌, ℕ, ◌+◌, ◌-◌, ◌<◌, ◌≤◌, ◌==◌, if◌then◌else◌, Bool, List, ◌++◌, length, take, drop, slice_index, Option, Some, None, IfSome, IsSome, IsSomeAnd, arith, ⊎_elim, refl, sym, subst, ◌∙◌, ap}
use Rattle.std.proofs.lemmas.Bool.{cases_eq, cases_lt}
use Rattle.std.proofs.lemmas.Grind.{common_steps}
use Rattle.sk_ranges.specs.declared.state.State.TheVariants.{Stale, Owner}
use Rattle.sk_spaces.specs.declared.step.Step.TheVariants.{Free}
use Rattle.sk_spaces.specs.Machine.{Machine, Home, CopyState, live, freed, replaced, frees_at}
use Rattle.sk_spaces.specs.Rules.{IsThere}
use Rattle.sk_base.specs.Shape.{cells_of}
use Rattle.sk_spaces.specs.Blocks.{BlockView, IsWhole, taken_in}
use Rattle.sk_spaces.specs.Memories.{used_of}
use Rattle.sk_copy_states.specs.declared.held.Held.{Held}
use Rattle.sk_copy_states.specs.Held.{IsFit, mark_of}
use Rattle.sk_copy_states.specs.Copies.{home_in, store_in, state_in, cell_in, expected_in}
use Rattle.sk_copy_states.specs.Stores.{StoreView, copies_in, changes_in, len_in, AreRising, HasTile}
use Rattle.sk_coherence_laws.specs.Directory.{DirectoryView, copy_at, store_at, cells_of_copy, block_home, IsSound, AreCoherent, LiesInside}
use Rattle.sk_coherence_laws.specs.Traced.{IsLike, IsLineOf, live_home, TracesStep}
use Rattle.sk_coherence_laws.specs.Frees.{FreesCopy}
use Rattle.sk_coherence_laws.specs.Retires.{IsPlaced}
use Rattle.sk_coherence_laws.specs.Serves.{HasOwner}
use Rattle.sk_coherence_laws.proofs.InsideLemmas.{lens_on}
use Rattle.sk_coherence_laws.proofs.MailLemmas.{StaysOrNew, stays_so, mailed-kept, like-mail-kept, like-mail-beside}
use Rattle.sk_coherence_laws.proofs.PlacedLemmas.{placed-like, like-placed}
use Rattle.sk_coherence_laws.proofs.LegalMoves.{not_owner_mark}
use Rattle.sk_coherence_laws.proofs.OpenLemmas.{some_of, eq_yes, eq_no, replaced_here, replaced_else}
use Rattle.sk_coherence_laws.proofs.TracedWrite.{live_of}
use Rattle.sk_coherence_laws.proofs.StateLemmas.{stale_not_owner}

without_low : (xs : List ℕ) (at k : ℕ) → at < length xs → k < at → slice_index (take at xs ++ drop (at + 1) xs) k ≡ slice_index xs k
without_low xs at k inside below = grind (arith, common_steps)

without_high : (xs : List ℕ) (at k : ℕ) → at < length xs → at ≤ k → slice_index (take at xs ++ drop (at + 1) xs) k ≡ slice_index xs (k + 1)
without_high xs at k inside above = grind (arith, common_steps)

pub length_without : (xs : List ℕ) (at : ℕ) → at < length xs → length (take at xs ++ drop (at + 1) xs) + 1 ≡ length xs
length_without xs at inside = grind (arith, common_steps)

gone_there : (o : Option Held) → o ≡ None → IsSome o → ⊥
gone_there None is there = cc
gone_there (Some held) is there = cc

store_there : (o : Option Held) (s : ℕ) → store_in o ≡ Some s → IsSome o
store_there None s is = cc
store_there (Some held) s is = refl

room_free : (d n : DirectoryView) (o : Option Held) → ((t : ℕ) → changes_in (store_at n t) ≡ changes_in (store_at d t))
    → IfSome o (λ held. changes_in (store_at d held.store) + held.expected ≤ held.states.reserved)
    → IfSome o (λ held. changes_in (store_at n held.store) + held.expected ≤ held.states.reserved)
room_free d n None same room = tt
room_free d n (Some held) same room = omega (arith, room, same held.store)

taken_home : (b : Option BlockView) (home : Home) (space : ℕ) → block_home b ≡ Some home
    → taken_in space b ≡ (if home.space == space then home.hi - home.lo else 0)
taken_home None home space is = cc
taken_home (Some b) home space is =
    let at : b.space ≡ home.space = grind arith in
    let lo : b.lo ≡ home.lo = grind arith in
    let hi : b.hi ≡ home.hi = grind arith in
    rw (at, lo, hi) refl

module _ (d n : DirectoryView) (id s : ℕ) (st now : StoreView) (sound : IsSound d) (f : FreesCopy d n id s st now) where
  abbrev at : ℕ
  at = f.loses.copies.at

  abbrev ids : List ℕ
  ids = take at st.copies ++ drop (at + 1) st.copies

  there : IsSome (copy_at d id)
  there = store_there (copy_at d id) s f.home

  copies_now : copies_in (store_at n s) ≡ ids
  copies_now = ap copies_in f.stores.here ∙ f.loses.copies.rest

  copies_else : (t : ℕ) → t ≢ s → copies_in (store_at n t) ≡ copies_in (store_at d t)
  copies_else t ne = ap copies_in (f.stores.others t ne)

  changes_same : (t : ℕ) → changes_in (store_at n t) ≡ changes_in (store_at d t)
  changes_same t = ⊎_elim
      (λ (e : t ≡ s). subst (λ (x : ℕ). changes_in (store_at n x) ≡ changes_in (store_at d x)) (sym e)
      (ap changes_in f.stores.here ∙ ap (λ (x : StoreView). x.room) f.loses.same ∙ sym (ap changes_in f.store)))
      (λ (ne : t ≢ s). ap changes_in (f.stores.others t ne))
      (cases_eq t s)

  each : (P : Option Held → Option BlockView → Type 0) → P None None → ((q : ℕ) → P (copy_at d q) (cells_of_copy d q))
      → (q : ℕ) → P (copy_at n q) (cells_of_copy n q)
  each P here all q = ⊎_elim
      (λ (e : q ≡ id). subst (λ (x : ℕ). P (copy_at n x) (cells_of_copy n x)) (sym e)
      (subst (λ (b : Option BlockView). P (copy_at n id) b) (sym f.memories.blocks.here) (subst (λ (o : Option Held). P o None) (sym f.copies.here) here)))
      (λ (ne : q ≢ id). subst (λ (b : Option BlockView). P (copy_at n q) b) (sym (f.memories.blocks.others q ne))
      (subst (λ (o : Option Held). P o (cells_of_copy d q)) (sym (f.copies.others q ne)) (all q)))
      (cases_eq q id)

  not_gone : (q : ℕ) → IsSome (copy_at n q) → q ≢ id
  not_gone q some e = gone_there (copy_at n q) (ap (copy_at n) e ∙ f.copies.here) some

  state_gone : (i : ℕ) → state_in (copy_at n id) i ≡ Stale
  state_gone i = ap (λ o. state_in o i) f.copies.here

  pub owner_stays : (q i : ℕ) → state_in (copy_at n q) i ≡ Owner → q ≢ id
  owner_stays q i own e = stale_not_owner (sym (ap (λ x. state_in (copy_at n x) i) e ∙ state_gone i) ∙ own)

  pub readable_stays : (q i : ℕ) → state_in (copy_at n q) i ≢ Stale → q ≢ id
  readable_stays q i readable e = readable (ap (λ x. state_in (copy_at n x) i) e ∙ state_gone i)

  listed_before : (k : ℕ) → k < length st.copies → store_in (copy_at d (slice_index st.copies k)) ≡ Some s
  listed_before k below = subst (λ (o : Option StoreView). store_in (copy_at d (slice_index (copies_in o) k)) ≡ Some s) f.store
      (sound.listed s k (subst (λ (o : Option StoreView). k < length (copies_in o)) (sym f.store) below))

  rising_before : (j k : ℕ) → j < k → k < length st.copies → slice_index st.copies j < slice_index st.copies k
  rising_before = subst (λ (o : Option StoreView). AreRising (copies_in o)) f.store (sound.rising s)

  -- each number that is left is another one
  listed_left : (k : ℕ) → k < length ids → store_in (copy_at n (slice_index ids k)) ≡ Some s
  listed_left k below = ⊎_elim
      (λ (low : k < at). subst (λ (q : ℕ). store_in (copy_at n q) ≡ Some s) (sym (without_low st.copies at k f.loses.copies.inside low))
      (ap store_in (f.copies.others (slice_index st.copies k) (λ e. omega (arith, e, f.loses.copies.here, rising_before k at low f.loses.copies.inside)))
      ∙ listed_before k (omega (arith, low, f.loses.copies.inside))))
      (λ (high : at ≤ k). let inside : k + 1 < length st.copies = omega (arith, below, length_without st.copies at f.loses.copies.inside) in
      subst (λ (q : ℕ). store_in (copy_at n q) ≡ Some s) (sym (without_high st.copies at k f.loses.copies.inside high))
      (ap store_in (f.copies.others (slice_index st.copies (k + 1)) (λ e. omega (arith, e, f.loses.copies.here, rising_before at (k + 1) (omega (arith, high)) inside)))
      ∙ listed_before (k + 1) inside))
      (cases_lt k at)

  listed_now : (t k : ℕ) → k < length (copies_in (store_at n t)) → store_in (copy_at n (slice_index (copies_in (store_at n t)) k)) ≡ Some t
  listed_now t k below = ⊎_elim
      (λ (e : t ≡ s). subst (λ (x : ℕ). store_in (copy_at n (slice_index (copies_in (store_at n x)) k)) ≡ Some x) (sym e)
      (subst (λ (l : List ℕ). store_in (copy_at n (slice_index l k)) ≡ Some s) (sym copies_now)
      (listed_left k (subst (λ (l : List ℕ). k < length l) copies_now (subst (λ (x : ℕ). k < length (copies_in (store_at n x))) e below)))))
      (λ (ne : t ≢ s). subst (λ (l : List ℕ). store_in (copy_at n (slice_index l k)) ≡ Some t) (sym (copies_else t ne))
      (let is = sound.listed t k (subst (λ (l : List ℕ). k < length l) (copies_else t ne) below) in
      ap store_in (f.copies.others (slice_index (copies_in (store_at d t)) k) (λ e. ne (some_eq t s (sym is ∙ ap (λ x. store_in (copy_at d x)) e ∙ f.home)))) ∙ is))
      (cases_eq t s)
    where
      some_eq : (x y : ℕ) → Some x ≡ Some y → x ≡ y
      some_eq x y same = cc

  complete_now : (t q : ℕ) → store_in (copy_at n q) ≡ Some t → (k : ℕ) × (k < length (copies_in (store_at n t))) × (slice_index (copies_in (store_at n t)) k ≡ q)
  complete_now t q is =
      let nq : q ≢ id = not_gone q (store_there (copy_at n q) t is) in
      let before = sound.complete t q (ap store_in (sym (f.copies.others q nq)) ∙ is) in
      ⊎_elim
      (λ (e : t ≡ s).
      let inside : before.0 < length st.copies = subst (λ (o : Option StoreView). before.0 < length (copies_in o)) (ap (store_at d) e ∙ f.store) before.1 in
      let here : slice_index st.copies before.0 ≡ q = subst (λ (o : Option StoreView). slice_index (copies_in o) before.0 ≡ q) (ap (store_at d) e ∙ f.store) before.2 in
      subst (λ (x : ℕ). (k : ℕ) × (k < length (copies_in (store_at n x))) × (slice_index (copies_in (store_at n x)) k ≡ q)) (sym e)
      (subst (λ (l : List ℕ). (k : ℕ) × (k < length l) × (slice_index l k ≡ q)) (sym copies_now)
      (⊎_elim
      (λ (low : before.0 < at). (before.0, omega (arith, low, f.loses.copies.inside, length_without st.copies at f.loses.copies.inside), without_low st.copies at before.0 f.loses.copies.inside low ∙ here))
      (λ (high : at ≤ before.0).
      let past : at < before.0 = omega (arith, high, λ (x : at ≡ before.0). nq (sym here ∙ ap (slice_index st.copies) (sym x) ∙ f.loses.copies.here)) in
      let back : before.0 - 1 + 1 ≡ before.0 = omega (arith, past) in (
        before.0 - 1,
        omega (arith, past, inside, length_without st.copies at f.loses.copies.inside),
        without_high st.copies at (before.0 - 1) f.loses.copies.inside (omega (arith, past)) ∙ ap (slice_index st.copies) back ∙ here,
      ))
      (cases_lt before.0 at))))
      (λ (ne : t ≢ s). subst (λ (l : List ℕ). (k : ℕ) × (k < length l) × (slice_index l k ≡ q)) (sym (copies_else t ne)) before)
      (cases_eq t s)

  rising_left : AreRising ids
  rising_left j k less below = let n1 = length_without st.copies at f.loses.copies.inside in ⊎_elim
      (λ (low : k < at). subst (λ (x : ℕ). x < slice_index ids k) (sym (without_low st.copies at j f.loses.copies.inside (omega (arith, less, low))))
      (subst (λ (x : ℕ). slice_index st.copies j < x) (sym (without_low st.copies at k f.loses.copies.inside low)) (rising_before j k less (omega (arith, low, f.loses.copies.inside)))))
      (λ (high : at ≤ k). subst (λ (x : ℕ). slice_index ids j < x) (sym (without_high st.copies at k f.loses.copies.inside high))
      (⊎_elim
      (λ (lj : j < at). subst (λ (x : ℕ). x < slice_index st.copies (k + 1)) (sym (without_low st.copies at j f.loses.copies.inside lj))
      (rising_before j (k + 1) (omega (arith, less)) (omega (arith, below, n1))))
      (λ (hj : at ≤ j). subst (λ (x : ℕ). x < slice_index st.copies (k + 1)) (sym (without_high st.copies at j f.loses.copies.inside hj))
      (rising_before (j + 1) (k + 1) (omega (arith, less)) (omega (arith, below, n1))))
      (cases_lt j at)))
      (cases_lt k at)

  rising_now : (t : ℕ) → AreRising (copies_in (store_at n t))
  rising_now t = ⊎_elim
      (λ (e : t ≡ s). subst (λ (x : ℕ). AreRising (copies_in (store_at n x))) (sym e) (subst AreRising (sym copies_now) rising_left))
      (λ (ne : t ≢ s). subst AreRising (sym (copies_else t ne)) (sound.rising t))
      (cases_eq t s)

  now_of : now ≡ record st { copies = now.copies }
  now_of = f.loses.same

  tiles_now : (t : ℕ) → IfSome (store_at n t) HasTile
  tiles_now t = ⊎_elim
      (λ (e : t ≡ s). subst (λ (x : ℕ). IfSome (store_at n x) HasTile) (sym e) (subst (λ (o : Option StoreView). IfSome o HasTile) (sym f.stores.here)
      (subst HasTile (sym now_of) (subst (λ (o : Option StoreView). IfSome o HasTile) f.store (sound.tiles s)))))
      (λ (ne : t ≢ s). subst (λ (o : Option StoreView). IfSome o HasTile) (sym (f.stores.others t ne)) (sound.tiles t))
      (cases_eq t s)

  lens_kept : (t : ℕ) → len_in (store_at d t) ≤ len_in (store_at n t)
  lens_kept t = ⊎_elim
      (λ (e : t ≡ s). subst (λ (x : ℕ). len_in (store_at d x) ≤ len_in (store_at n x)) (sym e) here)
      (λ (ne : t ≢ s). omega (arith, ap len_in (f.stores.others t ne)))
      (cases_eq t s)
    where
      here : len_in (store_at d s) ≤ len_in (store_at n s)
      here =
          let after : len_in (store_at n s) ≡ cells_of now.shape = ap len_in f.stores.here in
          let same : cells_of now.shape ≡ cells_of st.shape = ap (λ (x : StoreView). cells_of x.shape) now_of in
          let before : len_in (store_at d s) ≡ cells_of st.shape = ap len_in f.store in
          omega (arith, after, same, before)

  coherent_now : AreCoherent (copy_at n) (cells_of_copy n)
  coherent_now = record {
    single = λ j k i same x y.
        let jn = f.copies.others j (owner_stays j i x) in let kn = f.copies.others k (owner_stays k i y) in
        sound.coherent.single j k i (sym (ap store_in jn) ∙ same ∙ ap store_in kn) (sym (ap (λ o. state_in o i) jn) ∙ x) (sym (ap (λ o. state_in o i) kn) ∙ y);
    equal = λ j k i same x r.
        let jn = f.copies.others j (owner_stays j i x) in let kn = f.copies.others k (readable_stays k i r) in
        ap (λ o. cell_in o i) (f.memories.blocks.others k (readable_stays k i r))
        ∙ sound.coherent.equal j k i (sym (ap store_in jn) ∙ same ∙ ap store_in kn) (sym (ap (λ o. state_in o i) jn) ∙ x) (λ e. r (ap (λ o. state_in o i) kn ∙ e))
        ∙ ap (λ o. cell_in o i) (sym (f.memories.blocks.others j (owner_stays j i x)));
  }

  pub id_below : (q : ℕ) → d.spaces.memories.next ≤ q → q ≢ id
  id_below q above e = gone_there (copy_at d id) (sound.new_copies id (omega (arith, above, e))) there

  s_below : (t : ℕ) → d.next ≤ t → t ≢ s
  s_below t above e = some_store (store_at d t) (ap (store_at d) e ∙ f.store) (sound.new_stores t above)
    where
      some_store : (o : Option StoreView) → o ≡ Some st → o ≡ None → ⊥
      some_store o one other = cc

  stays_now : (q : ℕ) → IsSome (copy_at n q) → StaysOrNew d n q
  stays_now q some = let c = f.copies.others q (not_gone q some) in stays_so d n q (ap home_in c) (ap expected_in c) some

  owner_before : (q i : ℕ) → state_in (copy_at n q) i ≡ Owner → HasOwner n d q i
  owner_before q i own = let ne = owner_stays q i own in let c = f.copies.others q ne in
      record { at = q; store = ap store_in (sym c); owns = ap (λ o. state_in o i) (sym c) ∙ own; cell = ap (λ o. cell_in o i) (sym (f.memories.blocks.others q ne)) }

  pub sound-free : n.owed ≤ n.ready → n.ready + n.aside ≤ n.spaces.journal.spare → IsSound n
  sound-free owed ready = record {
    fit = each (λ o b. IfSome o IsFit) tt sound.fit;
    whole = each (λ o b. IfSome b IsWhole) tt sound.whole;
    tied = each (λ o b. block_home b ≡ home_in o) refl sound.tied;
    inside = λ q. lens_on d n (home_in (copy_at n q)) lens_kept (each (λ o b. LiesInside d (home_in o)) tt sound.inside q);
    listed = listed_now;
    complete = complete_now;
    rising = rising_now;
    tiles = tiles_now;
    room = λ q. room_free d n (copy_at n q) changes_same (each (λ o b. IfSome o (λ held. changes_in (store_at d held.store) + held.expected ≤ held.states.reserved)) tt sound.room q);
    owed = owed;
    ready = ready;
    new_copies = λ q above. let below : d.spaces.memories.next ≤ q = omega (arith, above, f.memories.next) in f.copies.others q (id_below q below) ∙ sound.new_copies q below;
    new_stores = λ t above. let below : d.next ≤ t = omega (arith, above, f.next) in f.stores.others t (s_below t below) ∙ sound.new_stores t below;
    coherent = coherent_now;
    mailed = mailed-kept d n sound.mailed f.messages f.aside (omega (arith, f.memories.next)) (omega (arith, f.next)) stays_now owner_before;
  }

  stores_like : (m : Machine) → IsPlaced m d → (t : ℕ) → IfSome (store_at n t) (λ store. IsSomeAnd (m.stores t) (IsLineOf store))
  stores_like m l t = ⊎_elim
      (λ (e : t ≡ s). subst (λ (x : ℕ). IfSome (store_at n x) (λ store. IsSomeAnd (m.stores x) (IsLineOf store))) (sym e)
      (subst (λ (o : Option StoreView). IfSome o (λ store. IsSomeAnd (m.stores s) (IsLineOf store))) (sym f.stores.here)
      (subst (λ (x : StoreView). IsSomeAnd (m.stores s) (IsLineOf x)) (sym now_of)
      (subst (λ (o : Option StoreView). IfSome o (λ store. IsSomeAnd (m.stores s) (IsLineOf store))) f.store (l.stores s)))))
      (λ (ne : t ≢ s). subst (λ (o : Option StoreView). IfSome o (λ store. IsSomeAnd (m.stores t) (IsLineOf store))) (sym (f.stores.others t ne)) (l.stores t))
      (cases_eq t s)

  used_now : (m : Machine) → IsPlaced m d → (home : Home) → home_in (copy_at d id) ≡ Some home → (p : ℕ) → 0 < p
      → (if p == home.space then m.used p - (home.hi - home.lo) else m.used p) ≡ used_of n.spaces.memories p
  used_now m l home is p some = let u = f.memories.used p in let t = taken_home (cells_of_copy d id) home p (sound.tied id ∙ is) in ⊎_elim
      (λ (e : p ≡ home.space). ap (λ (b : Bool). if b then m.used p - (home.hi - home.lo) else m.used p) (eq_yes p home.space e)
      ∙ omega (arith, u, t, l.used p some, ap (λ (b : Bool). if b then home.hi - home.lo else 0) (eq_yes home.space p (sym e))))
      (λ (ne : p ≢ home.space). ap (λ (b : Bool). if b then m.used p - (home.hi - home.lo) else m.used p) (eq_no p home.space ne)
      ∙ omega (arith, u, t, l.used p some, ap (λ (b : Bool). if b then home.hi - home.lo else 0) (eq_no home.space p (λ e. ne (sym e)))))
      (cases_eq p home.space)

  copies_like : (m : Machine) → IsPlaced m d → (q : ℕ) → live_home (replaced m.copies id freed q) ≡ home_in (copy_at n q)
  copies_like m l q = ⊎_elim
      (λ (e : q ≡ id). ap live_home (replaced_here m.copies id freed q e) ∙ sym (ap (λ x. home_in (copy_at n x)) e ∙ ap home_in f.copies.here))
      (λ (ne : q ≢ id). ap live_home (replaced_else m.copies id freed q ne) ∙ l.copies q ∙ ap home_in (sym (f.copies.others q ne)))
      (cases_eq q id)

  -- a copy that was gone is gone still
  gone_still : (m : Machine) (q : ℕ) → live_home (m.copies q) ≡ None → live_home (replaced m.copies id freed q) ≡ None
  gone_still m q gone = ⊎_elim
      (λ (e : q ≡ id). ap live_home (replaced_here m.copies id freed q e))
      (λ (ne : q ≢ id). ap live_home (replaced_else m.copies id freed q ne) ∙ gone)
      (cases_eq q id)

  -- the copies and stores that are left lie as before
  pub placed-free : (m : Machine) → IsPlaced m d → (home : Home) → home_in (copy_at d id) ≡ Some home → IsPlaced (frees_at (live home) id m) n
  placed-free m l home is = record {
    memory = subst (λ (r : ℕ). IsSomeAnd m.memory (λ line. (line.ranks ≡ r) × (line.capacity ≡ n.spaces.memories.capacity))) (sym f.memories.ranks)
        (subst (λ (k : ℕ). IsSomeAnd m.memory (λ line. (line.ranks ≡ d.spaces.memories.ranks) × (line.capacity ≡ k))) (sym f.memories.capacity) l.memory);
    stores = stores_like m l;
    new_stores = λ t above. l.new_stores t (omega (arith, above, f.next));
    copies = copies_like m l;
    new_copies = λ q above. let below : d.spaces.memories.next ≤ q = omega (arith, above, f.memories.next) in
        replaced_else m.copies id freed q (id_below q below) ∙ l.new_copies q below;
    used = used_now m l home is;
    messages = like-mail-kept m.messages (replaced m.copies id freed) d n
        (like-mail-beside m.messages m.copies (replaced m.copies id freed) d l.messages (λ q below gone. gone_still m q gone)) f.messages f.memories.next;
  }

  pub copy_left : (q : ℕ) → IsSome (copy_at n q) → copy_at n q ≡ copy_at d q
  copy_left q some = f.copies.others q (not_gone q some)

  pub cells_left : (q : ℕ) → IsSome (copy_at n q) → cells_of_copy n q ≡ cells_of_copy d q
  cells_left q some = f.memories.blocks.others q (not_gone q some)

  like_at : (m : Machine) → IsLike m d → (home : Home) → home_in (copy_at d id) ≡ Some home → IsLike (frees_at (live home) id m) n
  like_at m l home is = like-placed (frees_at (live home) id m) n (placed-free m (placed-like m d l) home is)
      (λ q i some. let ne = not_gone q some in
      l.marks q i (subst (λ (o : Option Held). IsSome o) (f.copies.others q ne) some) ∙ ap (λ o. mark_of (state_in o i)) (sym (f.copies.others q ne)))
      (λ q i readable. let ne = readable_stays q i readable in
      l.cells q i (λ e. readable (ap (λ o. state_in o i) (f.copies.others q ne) ∙ e)) ∙ ap (λ o. cell_in o i) (sym (f.memories.blocks.others q ne)))

  pub traced-free : ((i : ℕ) → state_in (copy_at d id) i ≢ Owner) → TracesStep d n (Free id)
  traced-free none m l =
      let t = live_of (m.copies id) (copy_at d id) (l.copies id) there in (
        (
          some_of m.memory _ l.memory,
          (subst (λ (k : CopyState). IsThere k (λ home. Unit {0})) (sym t.1) tt, λ i e. not_owner_mark (state_in (copy_at d id) i) (none i) (sym (l.marks id i there) ∙ e)),
        ),
        subst (λ (k : CopyState). IsLike (frees_at k id m) n) (sym t.1) (like_at m l t.0 t.2),
      )

-- a store that lists something is there
some_listed : (o : Option StoreView) (k : ℕ) → k < length (copies_in o) → IsSome o
some_listed None k below = absurd (omega (arith, below))
some_listed (Some st) k below = refl

-- the store of a copy is there
pub store_listed : (d : DirectoryView) (q s : ℕ) → IsSound d → store_in (copy_at d q) ≡ Some s → IsSome (store_at d s)
store_listed d q s sound is = let c = sound.complete s q is in some_listed (store_at d s) c.0 c.1
