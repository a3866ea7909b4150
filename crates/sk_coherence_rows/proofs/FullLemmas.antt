-- What keeps all cells of a store.
use Rattle.std.proofs.Common.{◌≡◌, ◌≢◌, ℕ, ℤ, ◌+◌, ◌-◌, ◌<◌, ◌≤◌, List, [], Option, Some, None, IfSome, IsSome, IsSomeAnd, option_map, arith, ⊎_elim, refl, sym, subst, ◌∙◌, ap, ◌⊎◌}
use Rattle.std.proofs.lemmas.Bool.{cases_eq}
use Rattle.sk_base.specs.Shape.{cells_of}
use Rattle.sk_ranges.specs.declared.state.State.TheVariants.{Owner}
use Rattle.sk_copy_states.specs.declared.held.Held.{Held}
use Rattle.sk_copy_states.specs.Copies.{KeepsStates, home_in, home_store, store_in, state_in, pins_in}
use Rattle.sk_spaces.specs.Machine.{Home}
use Rattle.sk_spaces.specs.declared.step.Step.{Step}
use Rattle.sk_copy_states.specs.Stores.{StoreView, IsBlockOf, UsesWrite, after_write, before_write}
use Rattle.sk_coherence_laws.specs.Directory.{DirectoryView, copy_at, store_at, IsSound}
use Rattle.sk_coherence_laws.specs.Owned.{IsOwned}
use Rattle.sk_coherence_laws.specs.Serves.{Serves, GrowsAt, WasEvicted, unlisted}
use Rattle.sk_coherence_laws.proofs.ServesLemmas.{there_or}
use Rattle.sk_coherence_laws.specs.Acquires.{PinsOne, Acquires}
use Rattle.sk_coherence_laws.specs.Owes.{OwesWrite, AcquiresWrite}
use Rattle.sk_coherence_laws.specs.Traced.{Opens}
use Rattle.sk_coherence_laws.specs.Writes.{WritesCopy, SameRoom}
use Rattle.sk_coherence_laws.proofs.StateLemmas.{owner_not_stale, same_store}
use Rattle.sk_coherence_laws.proofs.SourceLemmas.{readable_there}
use Rattle.sk_coherence_laws.proofs.FillLemmas.{within_or}
use Rattle.sk_coherence_rows.specs.Full.{HasCells, IsFull, Keeps}

abbrev shape_in : Option StoreView → List ℕ
shape_in None = []
shape_in (Some store) = store.shape

cells_on : (o p : Option StoreView) (n : ℕ) → shape_in p ≡ shape_in o → (IsSome o → IsSome p) → IsSomeAnd o (λ store. cells_of store.shape ≡ n) → IsSomeAnd p (λ store. cells_of store.shape ≡ n)
cells_on None p n same there is = absurd is
cells_on (Some o) None n same there is = let x = there refl in cc
cells_on (Some o) (Some p) n same there is = ap cells_of same ∙ is

shape_unlisted : (o p : Option StoreView) → option_map unlisted p ≡ option_map unlisted o → shape_in p ≡ shape_in o
shape_unlisted None None e = refl
shape_unlisted None (Some p) e = cc
shape_unlisted (Some o) None e = cc
shape_unlisted (Some o) (Some p) e = ap shape_in e

there_unlisted : (o p : Option StoreView) → option_map unlisted p ≡ option_map unlisted o → IsSome o → IsSome p
there_unlisted None p e is = cc
there_unlisted (Some o) None e is = cc
there_unlisted (Some o) (Some p) e is = refl

pub keeps-trans : (a b n : DirectoryView) → Keeps a b → Keeps b n → Keeps a n
keeps-trans a b n x y = record {
  cells = λ s k is. y.cells s k (x.cells s k is);
  full = λ s k is. y.full s k (x.full s k is);
  ranks = y.ranks ∙ x.ranks;
}

pub keeps-serves : (a b : DirectoryView) → Serves a b → Keeps a b
keeps-serves a b x = record {
  cells = cells;
  full = λ s n is. record {
    cells = cells s n is.cells;
    owned = λ i below. let o = is.owned i below in let h = x.owned o.0 i o.2 in (h.at, h.store ∙ o.1, h.owns);
  };
  ranks = x.ranks;
}
  where
    cells : (s n : ℕ) → HasCells a s n → HasCells b s n
    cells s n is = cells_on (store_at a s) (store_at b s) n (shape_unlisted (store_at a s) (store_at b s) (x.stores s)) (there_unlisted (store_at a s) (store_at b s) (x.stores s)) is

-- copies that are there lie where they did, and own what they owned
pub keeps-owned : (a b : DirectoryView) → ((q : ℕ) → IsSome (copy_at a q) → home_in (copy_at b q) ≡ home_in (copy_at a q))
    → ((q i : ℕ) → IsSome (copy_at a q) → state_in (copy_at a q) i ≡ Owner → state_in (copy_at b q) i ≡ Owner)
    → ((s n : ℕ) → HasCells a s n → HasCells b s n) → b.spaces.memories.ranks ≡ a.spaces.memories.ranks → Keeps a b
keeps-owned a b homes owns cells ranks = record {
  cells = cells;
  full = λ s n is. record {
    cells = cells s n is.cells;
    owned = λ i below. let o = is.owned i below in
        let some = readable_there (copy_at a o.0) i (λ e. owner_not_stale (sym o.2 ∙ e)) in
        (o.0, ap home_store (homes o.0 some) ∙ o.1, owns o.0 i some o.2);
  };
  ranks = ranks;
}

-- copies that are there keep their states
keeps-states : (a b : DirectoryView) → ((q : ℕ) → IsSome (copy_at a q) → KeepsStates (copy_at a q) (copy_at b q))
    → ((s n : ℕ) → HasCells a s n → HasCells b s n) → b.spaces.memories.ranks ≡ a.spaces.memories.ranks → Keeps a b
keeps-states a b kept = keeps-owned a b (λ q some. (kept q some).home) (λ q i some own. (kept q some).states i ∙ own)

same_states : (o : Option Held) → KeepsStates o o
same_states o = record { home = refl; expected = refl; fit = λ fit. fit; room = omega arith; states = λ i. refl }

pinned : (o p : Option Held) → IsSome o → IfSome o (λ held. p ≡ Some (record held { pins = held.pins + 1 })) → KeepsStates o p
pinned None p there is = cc
pinned (Some held) p there is = subst (λ (x : Option Held). KeepsStates (Some held) x) (sym is) (record {
  home = refl;
  expected = refl;
  fit = λ fit. record { ordered = fit.ordered; states = fit.states };
  room = omega arith;
  states = λ i. refl;
})

keeps-pins : (a b : DirectoryView) (copy : ℕ) → PinsOne a b copy → Keeps a b
keeps-pins a b copy p = keeps-states a b
    (λ q some. ⊎_elim
    (λ (e : q ≡ copy). subst (λ (x : ℕ). KeepsStates (copy_at a x) (copy_at b x)) (sym e) (pinned (copy_at a copy) (copy_at b copy) (subst (λ (x : ℕ). IsSome (copy_at a x)) e some) p.here))
    (λ (ne : q ≢ copy). subst (λ (o : Option Held). KeepsStates (copy_at a q) o) (sym (p.others q ne)) (same_states (copy_at a q)))
    (cases_eq q copy))
    (λ s n is. subst (λ (d : DirectoryView). HasCells d s n) (sym p.rest) is)
    (ap (λ (d : DirectoryView). d.spaces.memories.ranks) p.rest)

pub keeps-acquires : (a b : DirectoryView) (copy : ℕ) → Acquires a b copy → Keeps a b
keeps-acquires a b copy x = keeps-trans a x.before b (keeps-serves a x.before x.serves) (keeps-pins x.before b copy x.pins)

-- the sizes of one store change in no way
cells_put : (a b : DirectoryView) (s : ℕ) (f : StoreView → StoreView) → ((x : StoreView) → (f x).shape ≡ x.shape) → store_at b s ≡ option_map f (store_at a s)
    → ((t : ℕ) → t ≢ s → store_at b t ≡ store_at a t) → (t n : ℕ) → HasCells a t n → HasCells b t n
cells_put a b s f shape here others t n is = ⊎_elim
    (λ (e : t ≡ s). subst (λ (x : ℕ). HasCells b x n) (sym e) (subst (λ (o : Option StoreView). IsSomeAnd o (λ store. cells_of store.shape ≡ n)) (sym here)
    (mapped (store_at a s) (subst (λ (x : ℕ). HasCells a x n) e is))))
    (λ (ne : t ≢ s). subst (λ (o : Option StoreView). IsSomeAnd o (λ store. cells_of store.shape ≡ n)) (sym (others t ne)) is)
    (cases_eq t s)
  where
    mapped : (o : Option StoreView) → IsSomeAnd o (λ store. cells_of store.shape ≡ n) → IsSomeAnd (option_map f o) (λ store. cells_of store.shape ≡ n)
    mapped None is = absurd is
    mapped (Some x) is = ap cells_of (shape x) ∙ is

keeps-owes : (a b : DirectoryView) (s copy : ℕ) → OwesWrite a b s copy → Keeps a b
keeps-owes a b s copy o = keeps-states a b (λ q some. o.copies q)
    (cells_put a b s before_write (λ x. refl) o.stores.here o.stores.others)
    (ap (λ x. x.memories.ranks) o.spaces)

pub keeps-acquires-write : (a b : DirectoryView) (s copy : ℕ) → AcquiresWrite a b s copy → Keeps a b
keeps-acquires-write a b s copy x = keeps-trans a x.before b (keeps-serves a x.before x.serves) (keeps-owes x.before b s copy x.owes)

some_eq : (x y : ℕ) → Some x ≡ Some y → x ≡ y
some_eq x y same = cc

-- a write makes its indices owned, and keeps the others
module _ (a b : DirectoryView) (copy s lo hi : ℕ) (cells : List ℤ) (of_store : store_in (copy_at a copy) ≡ Some s) (w : WritesCopy a b copy lo hi cells)
    (u : UsesWrite a.stores b.stores s) where
  pub written-owned : (i : ℕ) → lo ≤ i → i < hi → IsOwned b s i
  written-owned i above below = (copy, ap home_store w.states.own.home ∙ of_store, w.states.own.states.inside i above below)

  pub written-cells : (t n : ℕ) → HasCells a t n → HasCells b t n
  written-cells = cells_put a b s after_write (λ x. refl) u.here u.others

  outside : (q i : ℕ) → store_in (copy_at a q) ≡ Some s → (i < lo) ⊎ (hi ≤ i) → state_in (copy_at a q) i ≡ Owner → IsOwned b s i
  outside q i of out own = ⊎_elim
      (λ (e : q ≡ copy). (
        copy,
        ap home_store w.states.own.home ∙ of_store,
        ⊎_elim (λ (x : i < lo). w.states.own.states.before i x) (λ (x : hi ≤ i). w.states.own.states.after i x) out ∙ ap (λ x. state_in (copy_at a x) i) (sym e) ∙ own,
      ))
      (λ (ne : q ≢ copy). let f = w.states.fellows q ne (of ∙ sym of_store) in (
        q,
        ap home_store f.home ∙ of,
        ⊎_elim (λ (x : i < lo). f.states.before i x) (λ (x : hi ≤ i). f.states.after i x) out ∙ own,
      ))
      (cases_eq q copy)

  pub written-full : (t n : ℕ) → IsFull a t n → IsFull b t n
  written-full t n is = record { cells = written-cells t n is.cells; owned = λ i below. owned i (is.owned i below) }
    where
      owned : (i : ℕ) → IsOwned a t i → IsOwned b t i
      owned i o = ⊎_elim
          (λ (e : store_in (copy_at a o.0) ≡ Some s). subst (λ (x : ℕ). IsOwned b x i) (some_eq s t (sym e ∙ o.1))
          (within_or (IsOwned b s i) lo hi i (written-owned i) (λ out. outside o.0 i e out o.2)))
          (λ (ne : store_in (copy_at a o.0) ≢ Some s). let k = w.states.others o.0 (λ e. ne (e ∙ of_store)) in
          (o.0, ap store_in k ∙ o.1, ap (λ x. state_in x i) k ∙ o.2))
          (same_store (store_in (copy_at a o.0)) (Some s))

-- a new store has its cells, and the others have theirs
pub opened-cells : (a b : DirectoryView) (s n : ℕ) (st : StoreView) → Opens a b s st → cells_of st.shape ≡ n → HasCells b s n
opened-cells a b s n st o is = subst (λ (x : Option StoreView). IsSomeAnd x (λ store. cells_of store.shape ≡ n)) (sym o.stores.here) is

pub keeps-opens : (a b : DirectoryView) (s : ℕ) (st : StoreView) → IsSound a → Opens a b s st → Keeps a b
keeps-opens a b s st sound o = keeps-states a b
    (λ q some. subst (λ es. KeepsStates (copy_at a q) (Rattle.sk_copy_states.specs.Copies.held_in es q)) (sym o.copies) (same_states (copy_at a q)))
    (λ t n is. subst (λ (x : Option StoreView). IsSomeAnd x (λ store. cells_of store.shape ≡ n)) (sym (o.stores.others t (other t n is))) is)
    (ap (λ x. x.ranks) o.spaces.memories)
  where
    other : (t n : ℕ) → HasCells a t n → t ≢ s
    other t n is e = gone (store_at a t) (ap (store_at a) (e ∙ o.number) ∙ sound.new_stores a.next (omega arith)) is
      where
        gone : (x : Option StoreView) → x ≡ None → IsSomeAnd x (λ store. cells_of store.shape ≡ n) → ⊥
        gone None e is = is
        gone (Some x) e is = cc

pub keeps-same : (a : DirectoryView) → Keeps a a
keeps-same a = record { cells = λ s n is. is; full = λ s n is. is; ranks = refl }

-- the whole store is one of its blocks
pub whole-block : (o : Option StoreView) (n : ℕ) → 0 < n → IsSomeAnd o (λ store. cells_of store.shape ≡ n) → IfSome o (IsBlockOf 0 n)
whole-block None n some is = tt
whole-block (Some st) n some is = record { some = some; inside = omega (arith, is) }

pub some-cells : (o : Option StoreView) (n : ℕ) → IsSomeAnd o (λ store. cells_of store.shape ≡ n) → IsSome o
some-cells None n is = absurd is
some-cells (Some st) n is = refl

-- a step was named
pub keeps-named : (a b : DirectoryView) → b ≡ record a { named = b.named } → Keeps a b
keeps-named a b same = keeps-states a b
    (λ q some. subst (λ (o : Option Held). KeepsStates (copy_at a q) o) (sym (ap (λ (d : DirectoryView). copy_at d q) same)) (same_states (copy_at a q)))
    (λ s n is. subst (λ (o : Option StoreView). IsSomeAnd o (λ store. cells_of store.shape ≡ n)) (sym (ap (λ (d : DirectoryView). store_at d s) same)) is)
    (ap (λ (d : DirectoryView). d.spaces.memories.ranks) same)

pub named-any : (a b : DirectoryView) (x : Option Step) → b ≡ record a { named = x } → b ≡ record a { named = b.named }
named-any a b x same = same ∙ ap (λ (y : Option Step). record a { named = y }) (sym (ap (λ (d : DirectoryView). d.named) same))

unpinned : (o p : Option Held) → IsSome o → IfSome o (λ held. p ≡ Some (record held { pins = held.pins - 1 })) → KeepsStates o p
unpinned None p there is = cc
unpinned (Some held) p there is = subst (λ (x : Option Held). KeepsStates (Some held) x) (sym is) (record {
  home = refl;
  expected = refl;
  fit = λ fit. record { ordered = fit.ordered; states = fit.states };
  room = omega arith;
  states = λ i. refl;
})

pub keeps-unpins : (a b : DirectoryView) (copy : ℕ) → IfSome (copy_at a copy) (λ held. copy_at b copy ≡ Some (record held { pins = held.pins - 1 }))
    → ((q : ℕ) → q ≢ copy → copy_at b q ≡ copy_at a q) → b ≡ record a { copies = b.copies } → Keeps a b
keeps-unpins a b copy here others same = keeps-states a b
    (λ q some. ⊎_elim
    (λ (e : q ≡ copy). subst (λ (x : ℕ). KeepsStates (copy_at a x) (copy_at b x)) (sym e) (unpinned (copy_at a copy) (copy_at b copy) (subst (λ (x : ℕ). IsSome (copy_at a x)) e some) here))
    (λ (ne : q ≢ copy). subst (λ (o : Option Held). KeepsStates (copy_at a q) o) (sym (others q ne)) (same_states (copy_at a q)))
    (cases_eq q copy))
    (λ s n is. subst (λ (o : Option StoreView). IsSomeAnd o (λ store. cells_of store.shape ≡ n)) (sym (ap (λ (d : DirectoryView). store_at d s) same)) is)
    (ap (λ (d : DirectoryView). d.spaces.memories.ranks) same)

store_of_home : (o : Option Held) (home : Home) → home_in o ≡ Some home → IsSome o × (store_in o ≡ Some home.store)
store_of_home None home is = cc
store_of_home (Some held) home is = (refl, ap home_store is)

with_store : (o : Option Held) (s : ℕ) (P : ℕ → Type 0) → store_in o ≡ Some s → IfSome o (λ held. P held.store) → P s
with_store None s P of is = cc
with_store (Some held) s P of is = subst P (some_eq held.store s of) is

-- a block of a vector is acquired, some of its cells are written, and it is released
module _ (a b k r n : DirectoryView) (copy s len space first last lo hi : ℕ) (cells : List ℤ) (cells_a : HasCells a s len)
    (x : AcquiresWrite a b s copy) (home : home_in (copy_at b copy) ≡ Some (record { store = s; space = space; lo = first; hi = last }))
    (named : k ≡ record b { named = k.named }) (w : WritesCopy k r copy lo hi cells) (room : SameRoom k r)
    (u : IfSome (copy_at k copy) (λ held. UsesWrite k.stores r.stores held.store))
    (here : IfSome (copy_at r copy) (λ held. copy_at n copy ≡ Some (record held { pins = held.pins - 1 })))
    (others : (q : ℕ) → q ≢ copy → copy_at n q ≡ copy_at r q) (same : n ≡ record r { copies = n.copies }) where
  acquired : Keeps a k
  acquired = keeps-trans a b k (keeps-acquires-write a b s copy x) (keeps-named b k named)

  of_k : store_in (copy_at k copy) ≡ Some s
  of_k = ap (λ (d : DirectoryView). store_in (copy_at d copy)) named
      ∙ (store_of_home (copy_at b copy) (record { store = s; space = space; lo = first; hi = last }) home).1

  used : UsesWrite k.stores r.stores s
  used = with_store (copy_at k copy) s (λ (t : ℕ). UsesWrite k.stores r.stores t) of_k u

  written : Keeps k r
  written = record {
    cells = written-cells k r copy s lo hi cells of_k w used;
    full = written-full k r copy s lo hi cells of_k w used;
    ranks = room.ranks;
  }

  released : Keeps r n
  released = keeps-unpins r n copy here others same

  pub wrote-keeps : Keeps a n
  wrote-keeps = keeps-trans a k n acquired (keeps-trans k r n written released)

  pub wrote-full : ((i : ℕ) → i < len → (lo ≤ i) × (i < hi)) → IsFull n s len
  wrote-full all = released.full s len (record {
    cells = written.cells s len (acquired.cells s len cells_a);
    owned = λ i below. let w_in = all i below in written-owned k r copy s lo hi cells of_k w used i w_in.0 w_in.1;
  })

-- a copy is pinned no less often after a step, or is not there
pins_none : (o : Option Held) → o ≡ None → pins_in o ≡ 0
pins_none o e = ap pins_in e

pub pins-serves : (a b : DirectoryView) → Serves a b → (q : ℕ) → pins_in (copy_at a q) ≤ pins_in (copy_at b q)
pins-serves a b x q = ⊎_elim
    (λ (some : IsSome (copy_at a q)). ⊎_elim
    (λ (g : GrowsAt a b q). omega (arith, g.pins))
    (λ (e : WasEvicted a b q). omega (arith, e.unpinned))
    (x.stays q some))
    (λ (none : copy_at a q ≡ None). omega (arith, pins_none (copy_at a q) none))
    (there_or (copy_at a q))

pins_more : (o p : Option Held) → IfSome o (λ held. p ≡ Some (record held { pins = held.pins + 1 })) → pins_in o ≤ pins_in p
pins_more None p is = omega arith
pins_more (Some held) p is = omega (arith, ap pins_in is)

pub pins-acquires : (a b : DirectoryView) (copy : ℕ) → Acquires a b copy → (q : ℕ) → pins_in (copy_at a q) ≤ pins_in (copy_at b q)
pins-acquires a b copy x q = ⊎_elim
    (λ (e : q ≡ copy). subst (λ (y : ℕ). pins_in (copy_at a y) ≤ pins_in (copy_at b y)) (sym e)
    (omega (arith, pins-serves a x.before x.serves copy, pins_more (copy_at x.before copy) (copy_at b copy) x.pins.here)))
    (λ (ne : q ≢ copy). omega (arith, pins-serves a x.before x.serves q, ap pins_in (x.pins.others q ne)))
    (cases_eq q copy)

pinned_more : (o p : Option Held) → IfSome o (λ held. p ≡ Some (record held { pins = held.pins + 1 })) → 0 < pins_in p → pins_in o < pins_in p
pinned_more None p is some = some
pinned_more (Some held) p is some = omega (arith, ap pins_in is)

-- the copy that is acquired is pinned once more
pub pinned-acquires : (a b : DirectoryView) (copy : ℕ) → Acquires a b copy → 0 < pins_in (copy_at b copy) → pins_in (copy_at a copy) < pins_in (copy_at b copy)
pinned-acquires a b copy x some = omega (arith, pins-serves a x.before x.serves copy, pinned_more (copy_at x.before copy) (copy_at b copy) x.pins.here some)

pub pins_less : (o p : Option Held) → IfSome o (λ held. p ≡ Some (record held { pins = held.pins - 1 })) → pins_in o ≤ pins_in p + 1
pins_less None p is = omega arith
pins_less (Some held) p is = omega (arith, ap pins_in is)

module _ (a b k r n : DirectoryView) (copy s : ℕ) (x : AcquiresWrite a b s copy) (named : k ≡ record b { named = k.named })
    (lo hi : ℕ) (cells : List ℤ) (w : WritesCopy k r copy lo hi cells)
    (here : IfSome (copy_at r copy) (λ held. copy_at n copy ≡ Some (record held { pins = held.pins - 1 })))
    (others : (q : ℕ) → q ≢ copy → copy_at n q ≡ copy_at r q) where
  same_pins : (q : ℕ) → pins_in (copy_at r q) ≡ pins_in (copy_at b q)
  same_pins q = ⊎_elim
      (λ (e : q ≡ copy). subst (λ (y : ℕ). pins_in (copy_at r y) ≡ pins_in (copy_at k y)) (sym e) w.states.own.pins)
      (λ (ne : q ≢ copy). ⊎_elim
      (λ (of : store_in (copy_at k q) ≡ store_in (copy_at k copy)). (w.states.fellows q ne of).pins)
      (λ (other : store_in (copy_at k q) ≢ store_in (copy_at k copy)). ap pins_in (w.states.others q other))
      (same_store (store_in (copy_at k q)) (store_in (copy_at k copy))))
      (cases_eq q copy)
      ∙ ap (λ (d : DirectoryView). pins_in (copy_at d q)) named

  pub wrote-pins : (q : ℕ) → pins_in (copy_at a q) ≤ pins_in (copy_at n q)
  wrote-pins q = ⊎_elim
      (λ (e : q ≡ copy). subst (λ (y : ℕ). pins_in (copy_at a y) ≤ pins_in (copy_at n y)) (sym e)
      (omega (arith, pins-serves a x.before x.serves copy, x.owes.pinned, same_pins copy, pins_less (copy_at r copy) (copy_at n copy) here)))
      (λ (ne : q ≢ copy). omega (arith, pins-serves a x.before x.serves q, x.owes.others q ne, same_pins q, ap pins_in (others q ne)))
      (cases_eq q copy)

pub pins-opens : (a b : DirectoryView) (s : ℕ) (st : StoreView) → Opens a b s st → (q : ℕ) → pins_in (copy_at a q) ≤ pins_in (copy_at b q)
pins-opens a b s st o q = omega (arith, ap (λ es. pins_in (Rattle.sk_copy_states.specs.Copies.held_in es q)) o.copies)

-- a pinned copy is there
pub pinned-there : (o : Option Held) → 0 < pins_in o → IsSome o
pinned-there None some = absurd (omega (arith, some))
pinned-there (Some held) some = refl

pub pinned-so : (o : Option Held) → 0 < pins_in o → IfSome o (λ held. 0 < held.pins)
pinned-so None some = tt
pinned-so (Some held) some = some
