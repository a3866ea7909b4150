-- Blocks of the host, where copies were made on it.
use Rattle.std.proofs.Common.{◌≡◌, ◌≢◌, ℕ, ◌+◌, ◌*◌, ◌/◌, ◌<◌, ◌≤◌, min, true, false, Bool, Option, Some, None, IfSome, IsSome, option_map, arith, ⊎_elim, refl, inl, inr, sym, subst, ◌∙◌, ap, ◌⊎◌}
use Rattle.std.proofs.lemmas.Bool.{cases_eq, cases_lt}
use Rattle.std.proofs.lemmas.Nat.{div-mul-add}
use Rattle.sk_base.specs.Shape.{cells_of}
use Rattle.sk_spaces.specs.Machine.{Home}
use Rattle.sk_copy_states.specs.declared.held.Held.{Held}
use Rattle.sk_copy_states.specs.Copies.{home_in}
use Rattle.sk_copy_states.specs.Stores.{StoreView}
use Rattle.sk_coherence_laws.specs.Directory.{DirectoryView, copy_at, store_at}
use Rattle.sk_coherence_laws.specs.HostBlocks.{home_at, HasBlock, IsHostBlock, IsHostHome, IsHostHomeOf}
use Rattle.sk_coherence_laws.specs.Moves.{Idles}
use Rattle.sk_coherence_laws.specs.Serves.{Serves, GrowsAt, WasEvicted, unlisted}
use Rattle.sk_coherence_laws.proofs.AcquireLemmas.{home_there}
use Rattle.sk_coherence_laws.proofs.ServesLemmas.{there_or}

-- what is equal unless it is not
stable : (x y : ℕ) → ((x ≢ y) → ⊥) → x ≡ y
stable x y not = ⊎_elim (λ (e : x ≡ y). e) (λ (ne : x ≢ y). absurd (not ne)) (cases_eq x y)

host_far : (h : Option Home) (home : Home) → h ≡ Some home → home.space ≡ 0 → IfSome h (λ x. 0 < x.space) → ⊥
host_far h home is host far = let f : 0 < home.space = subst (λ (h : Option Home). IfSome h (λ x. 0 < x.space)) is far in omega (arith, f, host)

-- the store with its list of copies taken for another one's
same_store : (o p : Option StoreView) (store : StoreView) → option_map unlisted o ≡ option_map unlisted p → o ≡ Some store
    → (before : StoreView) × (p ≡ Some before) × (unlisted before ≡ unlisted store)
same_store None p store same is = cc
same_store (Some now) None store same is = cc
same_store (Some now) (Some before) store same is = (before, refl, cc)

-- the tile of an index of a store that has no more cells than a tile
first_tile : (i tile cells : ℕ) → i < cells → cells ≤ tile → i / tile * tile ≡ 0
first_tile i tile cells inside small =
    let first : i / tile ≡ 0 = ap (λ (n : ℕ). n / tile) (let e : i ≡ 0 * tile + i = omega arith in e) ∙ div-mul-add 0 tile i (omega (arith, inside, small)) in
    let none : 0 * tile ≡ 0 = omega arith in
    ap (λ (k : ℕ). k * tile) first ∙ none

pub if_some_map : {A : Type 0} (o : Option A) (P Q : A → Type 0) → ((x : A) → P x → Q x) → IfSome o P → IfSome o Q
if_some_map None P Q more holds = tt
if_some_map (Some x) P Q more holds = more x holds

-- each copy that is made lies so
abbrev pub Makes : DirectoryView → DirectoryView → (Home → Type 0) → Type 0
Makes a b P = (q : ℕ) → copy_at a q ≡ None → IfSome (home_in (copy_at b q)) P

pub makes-map : (a b : DirectoryView) (P Q : Home → Type 0) → ((home : Home) → P home → Q home) → Makes a b P → Makes a b Q
makes-map a b P Q more made q none = if_some_map (home_in (copy_at b q)) P Q more (made q none)

-- no copy was made
pub makes-idle : (a b : DirectoryView) (P : Home → Type 0) → Idles a b → Makes a b P
makes-idle a b P i q none = subst (λ (h : Option Home). IfSome h P) (sym ((i.copies q).home ∙ ap home_in none)) tt

-- one after another
pub makes-trans : (a b n : DirectoryView) (P : Home → Type 0) → Serves b n → Makes a b P → Makes b n P → Makes a n P
makes-trans a b n P y made more q none = ⊎_elim
    (λ (there : IsSome (copy_at b q)). ⊎_elim
    (λ (g : GrowsAt b n q). subst (λ (h : Option Home). IfSome h P) (sym g.home) (made q none))
    (λ (w : WasEvicted b n q). subst (λ (o : Option Held). IfSome (home_in o) P) (sym w.gone) tt)
    (y.stays q there))
    (λ (gone : copy_at b q ≡ None). more q gone)
    (there_or (copy_at b q))

-- what lies on the host is the host's block
abbrev pub MakesHosts : DirectoryView → DirectoryView → Type 0
MakesHosts a b = (q : ℕ) (home : Home) → copy_at a q ≡ None → home_in (copy_at b q) ≡ Some home → home.space ≡ 0 → IsHostHome a home

pub makes-hosts : (a b : DirectoryView) (P : Home → Type 0) → ((home : Home) → home.space ≡ 0 → P home → IsHostHome a home) → Makes a b P → MakesHosts a b
makes-hosts a b P more made q home none lies host = more home host (subst (λ (h : Option Home). IfSome h P) lies (made q none))

-- stores are as before, and what is made on the host are blocks of the host
module _ (a b : DirectoryView) (x : Serves a b) (made : MakesHosts a b) where
  -- a block that was on the host is there still
  block_stays : (s lo hi : ℕ) → HasBlock a s 0 lo hi → HasBlock b s 0 lo hi
  block_stays s lo hi has = ⊎_elim
      (λ (g : GrowsAt a b has.0). (has.0, g.home ∙ has.1))
      (λ (w : WasEvicted a b has.0). absurd (host_far (home_in (copy_at a has.0)) (home_at s 0 lo hi) has.1 refl w.far))
      (x.stays has.0 (home_there (copy_at a has.0) (home_at s 0 lo hi) has.1))

  -- and one that is there was there, or is the host's
  block_was : (s lo hi : ℕ) → HasBlock b s 0 lo hi → HasBlock a s 0 lo hi ⊎ IsHostHome a (home_at s 0 lo hi)
  block_was s lo hi has = ⊎_elim
      (λ (there : IsSome (copy_at a has.0)). ⊎_elim
      (λ (g : GrowsAt a b has.0). inl (has.0, sym g.home ∙ has.1))
      (λ (w : WasEvicted a b has.0). absurd (gone_lies w.gone))
      (x.stays has.0 there))
      (λ (none : copy_at a has.0 ≡ None). inr (made has.0 (home_at s 0 lo hi) none has.1 refl))
      (there_or (copy_at a has.0))
    where
      gone_lies : copy_at b has.0 ≡ None → ⊥
      gone_lies gone = let none : None ≡ Some (home_at s 0 lo hi) = sym (ap home_in gone) ∙ has.1 in cc

  -- where no copy of the whole store was on the host, there is none but where a tile is the whole store
  whole_was : (s tile : ℕ) (store : StoreView) → store_at a s ≡ Some store → store.tile ≡ Some tile → store.rebound ≡ false
      → (HasBlock a s 0 0 (cells_of store.shape) → ⊥) → HasBlock b s 0 0 (cells_of store.shape) → cells_of store.shape ≤ tile
  whole_was s tile store is tiled kept none has = ⊎_elim
      (λ (h : HasBlock a s 0 0 (cells_of store.shape)). absurd (none h))
      (λ (h : IsHostHome a (home_at s 0 0 (cells_of store.shape))). within h (some_same (sym h.is ∙ is)))
      (block_was s 0 (cells_of store.shape) has)
    where
      some_same : {p q : StoreView} → Some p ≡ Some q → p ≡ q
      some_same e = cc

      within : (h : IsHostHome a (home_at s 0 0 (cells_of store.shape))) → h.store ≡ store → cells_of store.shape ≤ tile
      within h e =
          let block : IsHostBlock a s store h.index 0 (cells_of store.shape) = subst (λ (st : StoreView). IsHostBlock a s st h.index 0 (cells_of store.shape)) e h.block in
          omega (arith, (block.tiled tile tiled kept none).1)

  -- the host's block of an index was its block before
  module _ (s i lo hi : ℕ) (store : StoreView) (is : store_at a s ≡ Some store) (inside : i < cells_of store.shape) (now : IsHostBlock b s store i lo hi) where
    tile_was : (tile : ℕ) → store.tile ≡ Some tile → store.rebound ≡ false → (HasBlock a s 0 0 (cells_of store.shape) → ⊥)
        → (lo ≡ i / tile * tile) × (hi ≡ min (lo + tile) (cells_of store.shape))
    tile_was tile tiled kept none = ⊎_elim
        (λ (small : cells_of store.shape ≤ tile). small_tile small)
        (λ (large : tile < cells_of store.shape). now.tiled tile tiled kept (λ has. omega (arith, large, whole_was s tile store is tiled kept none has)))
        (cases_le (cells_of store.shape) tile)
      where
        cases_le : (n m : ℕ) → (n ≤ m) ⊎ (m < n)
        cases_le n m = ⊎_elim (λ (l : m < n). inr l) (λ (l : n ≤ m). inl l) (cases_lt m n)

        begins : cells_of store.shape ≤ tile → lo ≡ 0
        begins small = stable lo 0 (λ ne.
            let none : HasBlock b s 0 0 (cells_of store.shape) → ⊥ = λ has. ne (now.whole has).0 in
            ne ((now.tiled tile tiled kept none).0 ∙ first_tile i tile (cells_of store.shape) inside small))

        ends : cells_of store.shape ≤ tile → hi ≡ cells_of store.shape
        ends small = stable hi (cells_of store.shape) (λ ne.
            let none : HasBlock b s 0 0 (cells_of store.shape) → ⊥ = λ has. ne (now.whole has).1 in
            ne (let t = (now.tiled tile tiled kept none).1 in omega (arith, t, small, begins small)))

        small_tile : cells_of store.shape ≤ tile → (lo ≡ i / tile * tile) × (hi ≡ min (lo + tile) (cells_of store.shape))
        small_tile small = (
          begins small ∙ sym (first_tile i tile (cells_of store.shape) inside small),
          omega (arith, ends small, begins small, small),
        )

    block-was : IsHostBlock a s store i lo hi
    block-was = record {
      untiled = now.untiled;
      anew = now.anew;
      whole = λ has. now.whole (block_stays s 0 (cells_of store.shape) has);
      tiled = tile_was;
    }

  block_unlisted : (d : DirectoryView) (s i lo hi : ℕ) (p q : StoreView) → unlisted p ≡ unlisted q → IsHostBlock d s q i lo hi → IsHostBlock d s p i lo hi
  block_unlisted d s i lo hi p q same h =
      let tile : p.tile ≡ q.tile = ap (λ (st : StoreView). st.tile) same in
      let anew : p.rebound ≡ q.rebound = ap (λ (st : StoreView). st.rebound) same in
      let cells : cells_of p.shape ≡ cells_of q.shape = ap (λ (st : StoreView). cells_of st.shape) same in
      record {
        untiled = λ e. let r = h.untiled (sym tile ∙ e) in (r.0, r.1 ∙ sym cells);
        anew = λ e. let r = h.anew (sym anew ∙ e) in (r.0, r.1 ∙ sym cells);
        whole = λ has. let r = h.whole (subst (λ (n : ℕ). HasBlock d s 0 0 n) cells has) in (r.0, r.1 ∙ sym cells);
        tiled = λ t e f none.
            let r = h.tiled t (sym tile ∙ e) (sym anew ∙ f) (λ has. none (subst (λ (n : ℕ). HasBlock d s 0 0 n) (sym cells) has)) in
            (r.0, r.1 ∙ ap (min (lo + t)) (sym cells));
      }

  -- what is the host's block of an index was it before
  pub index-was : (home : Home) (h : IsHostHome b home) → (k : IsHostHome a home) × (k.index ≡ h.index)
  index-was home h =
      let t = same_store (store_at b home.store) (store_at a home.store) h.store (x.stores home.store) h.is in
      let cells : cells_of t.0.shape ≡ cells_of h.store.shape = ap (λ (st : StoreView). cells_of st.shape) t.2 in
      let inside : h.index < cells_of t.0.shape = omega (arith, cells, h.inside) in (
        record {
          host = h.host;
          store = t.0;
          is = t.1;
          index = h.index;
          inside = inside;
          block = block-was home.store h.index home.lo home.hi t.0 t.1 inside (block_unlisted b home.store h.index home.lo home.hi t.0 h.store t.2 h.block);
        },
        refl,
      )

  pub host-was : (home : Home) → IsHostHome b home → IsHostHome a home
  host-was home h = (index-was home h).0

  -- the host's block of an index is its block still
  module _ (s i lo hi : ℕ) (store : StoreView) (is : store_at a s ≡ Some store) (inside : i < cells_of store.shape) (was : IsHostBlock a s store i lo hi) where
    whole_now : HasBlock b s 0 0 (cells_of store.shape) → (lo ≡ 0) × (hi ≡ cells_of store.shape)
    whole_now has = by_tile store.tile refl store.rebound refl
      where
        small : (tile : ℕ) → store.tile ≡ Some tile → store.rebound ≡ false → (HasBlock a s 0 0 (cells_of store.shape) → ⊥)
            → (lo ≡ 0) × (hi ≡ cells_of store.shape)
        small tile tiled kept none =
            let fits = whole_was s tile store is tiled kept none has in
            let t = was.tiled tile tiled kept none in
            let begins : lo ≡ 0 = t.0 ∙ first_tile i tile (cells_of store.shape) inside fits in
            (begins, omega (arith, t.1, begins, fits))

        by_tile : (o : Option ℕ) → store.tile ≡ o → (r : Bool) → store.rebound ≡ r → (lo ≡ 0) × (hi ≡ cells_of store.shape)
        by_tile None tiled r kept = was.untiled tiled
        by_tile (Some tile) tiled true kept = was.anew kept
        by_tile (Some tile) tiled false kept = (
          stable lo 0 (λ ne. ne (small tile tiled kept (λ h. ne (was.whole h).0)).0),
          stable hi (cells_of store.shape) (λ ne. ne (small tile tiled kept (λ h. ne (was.whole h).1)).1),
        )

    block-on : IsHostBlock b s store i lo hi
    block-on = record {
      untiled = was.untiled;
      anew = was.anew;
      whole = whole_now;
      tiled = λ tile tiled kept none. was.tiled tile tiled kept (λ has. none (block_stays s 0 (cells_of store.shape) has));
    }

  -- what was the host's block of an index is it still
  pub index-on : (home : Home) (h : IsHostHome a home) → (k : IsHostHome b home) × (k.index ≡ h.index)
  index-on home h =
      let t = same_store (store_at a home.store) (store_at b home.store) h.store (sym (x.stores home.store)) h.is in
      let cells : cells_of t.0.shape ≡ cells_of h.store.shape = ap (λ (st : StoreView). cells_of st.shape) t.2 in (
        record {
          host = h.host;
          store = t.0;
          is = t.1;
          index = h.index;
          inside = omega (arith, cells, h.inside);
          block = block_unlisted b home.store h.index home.lo home.hi t.0 h.store t.2 (block-on home.store h.index home.lo home.hi h.store h.is h.inside h.block);
        },
        refl,
      )

  pub home-of-was : (i : ℕ) (home : Home) → IsHostHomeOf b i home → IsHostHomeOf a i home
  home-of-was i home h = let k = index-was home h.0 in (k.0, k.1 ∙ h.1)

  pub home-of-on : (i : ℕ) (home : Home) → IsHostHomeOf a i home → IsHostHomeOf b i home
  home-of-on i home h = let k = index-on home h.0 in (k.0, k.1 ∙ h.1)

-- copies lie where they did, and stores are as before
pub home-of-same : (a b : DirectoryView) → ((q : ℕ) → home_in (copy_at b q) ≡ home_in (copy_at a q)) → ((t : ℕ) → store_at b t ≡ store_at a t) → (i : ℕ) (home : Home)
    → IsHostHomeOf a i home → IsHostHomeOf b i home
home-of-same a b homes stores i home h =
    let k = h.0 in (
      record {
        host = k.host;
        store = k.store;
        is = stores home.store ∙ k.is;
        index = k.index;
        inside = k.inside;
        block = record {
          untiled = k.block.untiled;
          anew = k.block.anew;
          whole = λ has. k.block.whole (has.0, sym (homes has.0) ∙ has.1);
          tiled = λ tile tiled kept none. k.block.tiled tile tiled kept (λ has. none (has.0, homes has.0 ∙ has.1));
        };
      },
      h.1,
    )
