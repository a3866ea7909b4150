-- A copy that is acquired for writing, and then written.
use Rattle.std.proofs.Common.{◌≡◌, ◌≢◌, ℕ, ℤ, ◌+◌, ◌-◌, ◌<◌, ◌≤◌, min, List, Option, Some, None, IfSome, IsSome, IsSomeAnd, option_map, arith, ⊎_elim, inl, inr, refl, sym, subst, ◌∙◌, ap}
use Rattle.std.proofs.lemmas.Bool.{cases_eq}
use Rattle.sk_base.specs.Shape.{cells_of}
use Rattle.sk_spaces.specs.Machine.{Home}
use Rattle.sk_spaces.specs.Memories.{block_of}
use Rattle.sk_spaces.specs.Spaces.{SpacesView}
use Rattle.sk_copy_states.specs.declared.held.Held.{Held}
use Rattle.sk_copy_states.specs.Copies.{home_in, home_store, store_in, state_in, cell_in, pins_in, expected_in}
use Rattle.sk_copy_states.specs.Stores.{StoreView, UsesWrite, changes_in, before_write, after_write}
use Rattle.sk_messages.specs.Messages.{Spoils}
use Rattle.sk_coherence_laws.specs.Directory.{DirectoryView, copy_at, store_at, cells_of_copy, IsSound}
use Rattle.sk_coherence_laws.specs.Owes.{OwesWrite}
use Rattle.sk_coherence_laws.specs.Serves.{Serves, GrowsAt, WasEvicted, unlisted}
use Rattle.sk_coherence_laws.proofs.AcquireLemmas.{home_there, store-stays}
use Rattle.sk_coherence_laws.proofs.MailLemmas.{spoilt-between}
use Rattle.sk_coherence_laws.proofs.TracedWrite.{some_home}
use Rattle.sk_coherence.specs.Evicts.{IsOnHost}
use Rattle.sk_container.specs.Cells.{HasCell, IsElse}
use Rattle.sk_container.specs.Changes.{GrowsBut, Alters, Puts, Writes}
use Rattle.sk_container.proofs.CellLemmas.{has-served, has-before}

-- where a block lies
abbrev pub home_at : ℕ → ℕ → ℕ → ℕ → Home
home_at s space from to = record { store = s; space = space; lo = from; hi = to }

-- the home of a block of the host
abbrev pub host_home : ℕ → ℕ → ℕ → Home
host_home s from to = home_at s 0 from to

none_of_home : (o p : Option Held) → home_in p ≡ home_in o → o ≡ None → p ≡ None
none_of_home o None same none = refl
none_of_home None (Some held) same none = cc
none_of_home (Some other) (Some held) same none = cc

store_of_home : (o : Option Held) (P : ℕ → Type 0) (home : Home) → home_in o ≡ Some home → IfSome o (λ held. P held.store) → P home.store
store_of_home None P home is p = cc
store_of_home (Some held) P home is p = let e : held.store ≡ home.store = grind arith in subst P e p

if_store : (o : Option Held) (P : ℕ → Type 0) (home : Home) → home_in o ≡ Some home → P home.store → IfSome o (λ held. P held.store)
if_store None P home is p = tt
if_store (Some held) P home is p = let e : held.store ≡ home.store = grind arith in subst P (sym e) p

-- a store of which something is true is there
pub some-there : (d : DirectoryView) (s : ℕ) (P : ℕ → Type 0) → IsSomeAnd (store_at d s) (λ store. P (cells_of store.shape)) → IsSome (store_at d s)
some-there d s P has = go (store_at d s) has
  where
    go : (o : Option StoreView) → IsSomeAnd o (λ store. P (cells_of store.shape)) → IsSome o
    go None has = absurd has
    go (Some store) has = refl

room_back : (store : StoreView) (k : ℕ) → k ≡ store.room → Some (record store { room = k }) ≡ Some store
room_back store k e = subst (λ (n : ℕ). Some (record store { room = n }) ≡ Some store) (sym e) refl

-- the room for a write that was made is used up
written_back : (o : Option StoreView) → option_map after_write (option_map before_write o) ≡ o
written_back None = refl
written_back (Some store) = room_back store (store.room + 2 - 2) (omega arith)

changes_more : (o : Option StoreView) → IsSome o → changes_in (option_map before_write o) ≡ changes_in o + 2
changes_more None there = cc
changes_more (Some store) there = refl

-- what is known of a copy that was acquired for writing
module _ (a b c : DirectoryView) (s space copy from to : ℕ) (there : IsSome (store_at a s)) (x : Serves a b) (o : OwesWrite b c s copy)
    (home : home_in (copy_at c copy) ≡ Some (home_at s space from to)) where
  pub there-owed : IsSome (copy_at c copy)
  there-owed = home_there (copy_at c copy) (home_at s space from to) home

  pub pinned-owed : 0 < pins_in (copy_at c copy)
  pinned-owed = omega (arith, o.pinned)

  pub host-owed : space ≡ 0 → IsOnHost (copy_at c copy)
  host-owed host = subst (λ (h : Option Home). IfSome h (λ home. home.space ≡ 0)) (sym home) host

  pub owed-owed : 0 < c.owed
  owed-owed = omega (arith, o.owed)

  store_there : IsSome (store_at b s)
  store_there = store-stays a b s x there

  changes : changes_in (store_at c s) ≡ changes_in (store_at b s) + 2
  changes = ap changes_in o.stores.here ∙ changes_more (store_at b s) store_there

  pub room-owed : IfSome (copy_at c copy) (λ held. 0 < changes_in (store_at c held.store))
  room-owed = if_store (copy_at c copy) (λ (t : ℕ). 0 < changes_in (store_at c t)) (home_at s space from to) home (omega (arith, changes))

  module _ (n : DirectoryView) (lo hi : ℕ) (cells : List ℤ) (sound : IsSound a) (p : Puts c n copy lo hi cells) where
    home_on : (q : ℕ) → home_in (copy_at n q) ≡ home_in (copy_at b q)
    home_on q = p.homes q ∙ (o.copies q).home

    pins_on : (q : ℕ) → pins_in (copy_at n q) ≡ pins_in (copy_at b q)
    pins_on q = ⊎_elim
        (λ (e : q ≡ copy). subst (λ (k : ℕ). pins_in (copy_at n k) ≡ pins_in (copy_at b k)) (sym e) (omega (arith, p.unpinned, o.pinned)))
        (λ (ne : q ≢ copy). p.pins q ne ∙ o.others q ne)
        (cases_eq q copy)

    expected_on : (q : ℕ) → expected_in (copy_at n q) ≡ expected_in (copy_at b q)
    expected_on q = p.expected q ∙ (o.copies q).expected

    store_copy : store_in (copy_at b copy) ≡ Some s
    store_copy = ap home_store (sym (o.copies copy).home ∙ home)

    state_on : (q i : ℕ) → IsElse s lo hi (store_in (copy_at b q)) i → state_in (copy_at n q) i ≡ state_in (copy_at b q) i
    state_on q i out = p.states q i (λ fellow. out (ap home_store (sym (o.copies q).home) ∙ fellow ∙ ap home_store home)) ∙ (o.copies q).states i

    cell_owed : (q i : ℕ) → cell_in (cells_of_copy c q) i ≡ cell_in (cells_of_copy b q) i
    cell_owed q i = ap (λ (v : SpacesView). cell_in (block_of v.memories q) i) o.spaces

    cell_on : (q i : ℕ) → IsElse s lo hi (store_in (copy_at b q)) i → cell_in (cells_of_copy n q) i ≡ cell_in (cells_of_copy b q) i
    cell_on q i out = ⊎_elim
        (λ (e : q ≡ copy). subst (λ (k : ℕ). cell_in (cells_of_copy n k) i ≡ cell_in (cells_of_copy c k) i) (sym e)
        (⊎_elim (λ (l : i < lo). p.values.before i l) (λ (h : hi ≤ i). p.values.after i h)
        (out (subst (λ (k : ℕ). store_in (copy_at b k) ≡ Some s) (sym e) store_copy))))
        (λ (ne : q ≢ copy). ap (λ v. cell_in v i) (p.others q ne))
        (cases_eq q copy)
        ∙ cell_owed q i

    has_on : (t i : ℕ) (v : ℤ) → IsElse s lo hi (Some t) i → HasCell b t i v → HasCell n t i v
    has_on t i v out h =
        let other : IsElse s lo hi (store_in (copy_at b h.at)) i = subst (λ (k : Option ℕ). IsElse s lo hi k i) (sym h.store) out in record {
          at = h.at;
          store = ap home_store (home_on h.at) ∙ h.store;
          owns = state_on h.at i other ∙ h.owns;
          cell = cell_on h.at i other ∙ h.cell;
        }

    has_back : (t i : ℕ) (v : ℤ) → IsElse s lo hi (Some t) i → HasCell n t i v → HasCell b t i v
    has_back t i v out h =
        let store : store_in (copy_at b h.at) ≡ Some t = ap home_store (sym (home_on h.at)) ∙ h.store in
        let other : IsElse s lo hi (store_in (copy_at b h.at)) i = subst (λ (k : Option ℕ). IsElse s lo hi k i) (sym store) out in record {
          at = h.at;
          store = store;
          owns = sym (state_on h.at i other) ∙ h.owns;
          cell = sym (cell_on h.at i other) ∙ h.cell;
        }

    grows_on : (q : ℕ) → GrowsAt a b q → GrowsBut a n s lo hi q
    grows_on q g =
        let same : store_in (copy_at b q) ≡ store_in (copy_at a q) = ap home_store g.home in record {
          home = home_on q ∙ g.home;
          pins = pins_on q ∙ g.pins;
          expected = expected_on q ∙ g.expected;
          readable = λ i out r e. g.readable i r (sym (state_on q i (subst (λ (k : Option ℕ). IsElse s lo hi k i) (sym same) out)) ∙ e);
          cells = λ i out r. cell_on q i (subst (λ (k : Option ℕ). IsElse s lo hi k i) (sym same) out) ∙ g.cells i r;
        }

    evicted_on : (q : ℕ) → WasEvicted a b q → WasEvicted a n q
    evicted_on q w = record { unpinned = w.unpinned; far = w.far; gone = none_of_home (copy_at b q) (copy_at n q) (home_on q) w.gone }

    uses : UsesWrite c.stores n.stores s
    uses = store_of_home (copy_at c copy) (λ (t : ℕ). UsesWrite c.stores n.stores t) (home_at s space from to) home p.stores

    store_on : (t : ℕ) → store_at n t ≡ store_at b t
    store_on t = ⊎_elim
        (λ (e : t ≡ s). subst (λ (k : ℕ). store_at n k ≡ store_at b k) (sym e)
        (uses.here ∙ ap (option_map after_write) o.stores.here ∙ written_back (store_at b s)))
        (λ (ne : t ≢ s). uses.others t ne ∙ o.stores.others t ne)
        (cases_eq t s)

    owed_on : n.owed ≡ b.owed
    owed_on =
        let left : n.owed ≡ c.owed - min (changes_in (store_at c s)) 2
        = store_of_home (copy_at c copy) (λ (t : ℕ). n.owed ≡ c.owed - min (changes_in (store_at c t)) 2) (home_at s space from to) home p.owed in
        omega (arith, left, changes, o.owed)

    spoilt_on : Spoils c.messages n.messages s lo hi
    spoilt_on = store_of_home (copy_at c copy) (λ (t : ℕ). Spoils c.messages n.messages t lo hi) (home_at s space from to) home p.messages

    memories_next : c.spaces.memories.next ≡ b.spaces.memories.next
    memories_next = ap (λ (v : SpacesView). v.memories.next) o.spaces

    pub alters-put : Alters a n s lo hi
    alters-put = record {
      stays = λ q there. ⊎_elim (λ (g : GrowsAt a b q). inl (grows_on q g)) (λ (w : WasEvicted a b q). inr (evicted_on q w)) (x.stays q there);
      fresh = λ q none some. let f = x.fresh q none (some_home (copy_at n q) (copy_at b q) (home_on q) some) in (f.0, pins_on q ∙ f.1, expected_on q ∙ f.2);
      owned = λ t i v out h. has_on t i v out (has-served a b t i v x h);
      owners = λ t i v out h. has-before a b t i v x (has_back t i v out h);
      stores = λ t. ap (option_map unlisted) (store_on t) ∙ x.stores t;
      next = p.next ∙ o.next ∙ x.next;
      owed = owed_on ∙ x.owed;
      named = p.named;
      messages = spoilt-between a.messages c.messages n.messages n.messages s lo hi (o.messages ∙ x.messages) spoilt_on refl;
      aside = p.aside ∙ o.aside ∙ x.aside;
      next_copy = omega (arith, x.next_copy, p.next_copy, memories_next);
      ranks = p.ranks ∙ ap (λ (v : SpacesView). v.memories.ranks) o.spaces ∙ x.ranks;
      capacity = p.capacity ∙ ap (λ (v : SpacesView). v.memories.capacity) o.spaces ∙ x.capacity;
    }

    pub writes-put : Writes a n s lo hi cells
    writes-put = record {
      alters = alters-put;
      has = λ i above below. record {
        at = copy;
        store = ap home_store (home_on copy) ∙ store_copy;
        owns = p.owns i above below;
        cell = p.values.inside i above below;
      };
    }
