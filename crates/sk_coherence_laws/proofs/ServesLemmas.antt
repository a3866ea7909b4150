-- What stays through several steps, and through each of them.
use Rattle.std.proofs.Common.{◌≡◌, ◌≢◌, ℕ, ◌<◌, ◌≤◌, List, Option, Some, None, IfSome, IsSome, option_map, arith, ⊎_elim, refl, inl, inr, sym, subst, ◌∙◌, ap, ◌⊎◌}
use Rattle.std.proofs.lemmas.Bool.{cases_eq}
use Rattle.sk_ranges.specs.declared.state.State.TheVariants.{Stale, Valid, Owner}
use Rattle.sk_spaces.specs.Machine.{Home}
use Rattle.sk_spaces.specs.Memories.{MemoriesView, block_of}
use Rattle.sk_spaces.specs.Spaces.{Stays}
use Rattle.sk_copy_states.specs.declared.held.Held.{Held}
use Rattle.sk_copy_states.specs.Copies.{KeepsStates, home_in, home_store, store_in, state_in, cell_in, pins_in, expected_in}
use Rattle.sk_copy_states.specs.Stores.{StoreView, store_of}
use Rattle.sk_coherence_laws.specs.Directory.{DirectoryView, copy_at, store_at, cells_of_copy, IsSound}
use Rattle.sk_coherence_laws.specs.Moves.{IsStaleAt, Fills, Idles}
use Rattle.sk_coherence_laws.specs.Adds.{AddsCopy}
use Rattle.sk_coherence_laws.specs.Serves.{Serves, GrowsAt, WasEvicted, HasOwner, unlisted}
use Rattle.sk_coherence_laws.proofs.StateLemmas.{owner_not_stale, valid_not_stale, valid_not_owner, stale_not_owner}
use Rattle.sk_coherence_laws.proofs.TracedWrite.{some_home}
use Rattle.sk_coherence_laws.proofs.FillLemmas.{within_or}
use Rattle.sk_coherence_laws.proofs.FillLemmas as fill

pub there_or : (o : Option Held) → IsSome o ⊎ (o ≡ None)
there_or None = inr refl
there_or (Some held) = inl refl

pub not_there : (o : Option Held) → o ≡ None → IsSome o → ⊥
not_there None is there = cc
not_there (Some held) is there = cc

pub grows_same : (d n : DirectoryView) (q : ℕ) → copy_at n q ≡ copy_at d q → cells_of_copy n q ≡ cells_of_copy d q → GrowsAt d n q
grows_same d n q copy cells = record {
  home = ap home_in copy;
  pins = ap pins_in copy;
  expected = ap expected_in copy;
  readable = λ i r e. r (sym (ap (λ o. state_in o i) copy) ∙ e);
  cells = λ i r. ap (λ o. cell_in o i) cells;
}

pub owner_same : (d n : DirectoryView) (q i : ℕ) → copy_at n q ≡ copy_at d q → cells_of_copy n q ≡ cells_of_copy d q
    → state_in (copy_at d q) i ≡ Owner → HasOwner d n q i
owner_same d n q i copy cells own = record {
  at = q;
  store = ap store_in copy;
  owns = ap (λ o. state_in o i) copy ∙ own;
  cell = ap (λ o. cell_in o i) cells;
}

pub grows-trans : (a b n : DirectoryView) (q : ℕ) → GrowsAt a b q → GrowsAt b n q → GrowsAt a n q
grows-trans a b n q g h = record {
  home = h.home ∙ g.home;
  pins = h.pins ∙ g.pins;
  expected = h.expected ∙ g.expected;
  readable = λ i r. h.readable i (g.readable i r);
  cells = λ i r. h.cells i (g.readable i r) ∙ g.cells i r;
}

module _ (a b n : DirectoryView) (sound : IsSound a) (x : Serves a b) (y : Serves b n) where
  evicted_on : (q : ℕ) → GrowsAt a b q → WasEvicted b n q → WasEvicted a n q
  evicted_on q g w = record {
    unpinned = sym g.pins ∙ w.unpinned;
    far = subst (λ (o : Option Home). IfSome o (λ home. 0 < home.space)) g.home w.far;
    gone = w.gone;
  }

  gone_still : (q : ℕ) → IsSome (copy_at a q) → WasEvicted a b q → WasEvicted a n q
  gone_still q there w = record {
    unpinned = w.unpinned;
    far = w.far;
    gone = ⊎_elim
        (λ (some : IsSome (copy_at n q)). absurd (not_there (copy_at a q)
        (sound.new_copies q (omega (arith, (y.fresh q w.gone some).0, x.next_copy))) there))
        (λ (none : copy_at n q ≡ None). none)
        (there_or (copy_at n q));
  }

  stays_on : (q : ℕ) → IsSome (copy_at a q) → GrowsAt a n q ⊎ WasEvicted a n q
  stays_on q there = ⊎_elim
      (λ (g : GrowsAt a b q). ⊎_elim
      (λ (h : GrowsAt b n q). inl (grows-trans a b n q g h))
      (λ (w : WasEvicted b n q). inr (evicted_on q g w))
      (y.stays q (some_home (copy_at a q) (copy_at b q) (sym g.home) there)))
      (λ (w : WasEvicted a b q). inr (gone_still q there w))
      (x.stays q there)

  fresh_on : (q : ℕ) → copy_at a q ≡ None → IsSome (copy_at n q)
      → (a.spaces.memories.next ≤ q) × (pins_in (copy_at n q) ≡ 0) × (expected_in (copy_at n q) ≡ 0)
  fresh_on q none some = ⊎_elim
      (λ (mid : IsSome (copy_at b q)).
      let f = x.fresh q none mid in
      let still : (pins_in (copy_at n q) ≡ 0) × (expected_in (copy_at n q) ≡ 0) = ⊎_elim
      (λ (h : GrowsAt b n q). (h.pins ∙ f.1, h.expected ∙ f.2))
      (λ (w : WasEvicted b n q). absurd (not_there (copy_at n q) w.gone some))
      (y.stays q mid) in
      (f.0, still.0, still.1))
      (λ (mid : copy_at b q ≡ None). let f = y.fresh q mid some in (omega (arith, f.0, x.next_copy), f.1, f.2))
      (there_or (copy_at b q))

  pub serves-trans : Serves a n
  serves-trans = record {
    stays = stays_on;
    fresh = fresh_on;
    owned = λ q i own. let g = x.owned q i own in let h = y.owned g.at i g.owns in
        record { at = h.at; store = h.store ∙ g.store; owns = h.owns; cell = h.cell ∙ g.cell };
    owners = λ q i own. let g = y.owners q i own in let h = x.owners g.at i g.owns in
        record { at = h.at; store = h.store ∙ g.store; owns = h.owns; cell = h.cell ∙ g.cell };
    stores = λ t. y.stores t ∙ x.stores t;
    next = y.next ∙ x.next;
    owed = y.owed ∙ x.owed;
    named = y.named ∙ x.named;
    messages = y.messages ∙ x.messages;
    aside = y.aside ∙ x.aside;
    next_copy = omega (arith, x.next_copy, y.next_copy);
    ranks = y.ranks ∙ x.ranks;
    capacity = y.capacity ∙ x.capacity;
  }

pub grows-kept : (d n : DirectoryView) → ((q : ℕ) → KeepsStates (copy_at d q) (copy_at n q)) → ((q : ℕ) → pins_in (copy_at n q) ≡ pins_in (copy_at d q))
    → n.spaces.memories ≡ d.spaces.memories → (q : ℕ) → GrowsAt d n q
grows-kept d n kept pins memories q = record {
  home = (kept q).home;
  pins = pins q;
  expected = (kept q).expected;
  readable = λ i r e. r (sym ((kept q).states i) ∙ e);
  cells = λ i r. ap (λ x. cell_in (block_of x q) i) memories;
}

-- where states and cells are as before
pub serves-kept : (d n : DirectoryView) → ((q : ℕ) → KeepsStates (copy_at d q) (copy_at n q)) → ((q : ℕ) → pins_in (copy_at n q) ≡ pins_in (copy_at d q))
    → ((t : ℕ) → store_at n t ≡ store_at d t) → n.spaces.memories ≡ d.spaces.memories → n.next ≡ d.next → n.owed ≡ d.owed → n.named ≡ d.named
    → n.messages ≡ d.messages → n.aside ≡ d.aside → Serves d n
serves-kept d n kept pins stores memories next owed named messages aside =
    let cells : (q : ℕ) → cells_of_copy n q ≡ cells_of_copy d q = λ q. ap (λ x. block_of x q) memories in
    record {
      stays = λ q there. inl (grows-kept d n kept pins memories q);
      fresh = λ q none some. absurd (not_there (copy_at d q) none (some_home (copy_at n q) (copy_at d q) (kept q).home some));
      owned = λ q i own. record { at = q; store = ap home_store (kept q).home; owns = (kept q).states i ∙ own; cell = ap (λ o. cell_in o i) (cells q) };
      owners = λ q i own. record { at = q; store = sym (ap home_store (kept q).home); owns = sym ((kept q).states i) ∙ own; cell = sym (ap (λ o. cell_in o i) (cells q)) };
      stores = λ t. ap (option_map unlisted) (stores t);
      next = next;
      owed = owed;
      named = named;
      messages = messages;
      aside = aside;
      next_copy = omega (arith, ap (λ (x : MemoriesView). x.next) memories);
      ranks = ap (λ (x : MemoriesView). x.ranks) memories;
      capacity = ap (λ (x : MemoriesView). x.capacity) memories;
    }

pub serves-idle : (d n : DirectoryView) → Idles d n → Serves d n
serves-idle d n i = serves-kept d n i.copies i.pins i.stores i.spaces.memories i.next i.owed i.named i.messages i.aside

pub grows-idle : (d n : DirectoryView) → Idles d n → (q : ℕ) → GrowsAt d n q
grows-idle d n i = grows-kept d n i.copies i.pins i.spaces.memories

-- where room was made in the journal
pub idle-reserve : (d n : DirectoryView) → n ≡ record d { spaces = n.spaces; ready = n.ready } → Stays d.spaces n.spaces d.spaces.named → d.ready ≤ n.ready → Idles d n
idle-reserve d n same stays ready = record {
  copies = λ q. subst (λ (o : Option Held). KeepsStates (copy_at d q) o) (sym (ap (λ x. copy_at x q) same)) (record { home = refl; expected = refl; fit = λ fit. fit; room = omega arith; states = λ i. refl });
  pins = λ q. ap (λ x. pins_in (copy_at x q)) same;
  stores = λ t. ap (λ x. store_at x t) same;
  next = ap (λ (x : DirectoryView). x.next) same;
  owed = ap (λ (x : DirectoryView). x.owed) same;
  named = ap (λ (x : DirectoryView). x.named) same;
  ready = ready;
  messages = ap (λ (x : DirectoryView). x.messages) same;
  aside = ap (λ (x : DirectoryView). x.aside) same;
  spaces = stays;
}

pub idle-none : (d : DirectoryView) → Idles d d
idle-none d = idle-reserve d d refl (record { memories = refl; named = refl; journal = record { steps = refl; totals = refl }; spare = omega arith }) (omega arith)

module _ (d n : DirectoryView) (from to lo hi : ℕ) (f : Fills d n from to lo hi) (missing : IsStaleAt d to lo hi) where
  fill_place : (P : Type 0) (q i : ℕ) → (q ≡ to → lo ≤ i → i < hi → P)
      → (state_in (copy_at n q) i ≡ state_in (copy_at d q) i → cell_in (cells_of_copy n q) i ≡ cell_in (cells_of_copy d q) i → P) → P
  fill_place P q i = fill.by_place (copy_at d) (copy_at n) (cells_of_copy d) (cells_of_copy n) from to lo hi f.target f.others f.values f.other_values P q i

  fill_home : (q : ℕ) → home_in (copy_at n q) ≡ home_in (copy_at d q)
  fill_home = fill.homes (copy_at d) (copy_at n) (cells_of_copy d) (cells_of_copy n) from to lo hi f.target f.others f.values f.other_values

  stale_there : (q i : ℕ) → q ≡ to → lo ≤ i → i < hi → state_in (copy_at d q) i ≡ Stale
  stale_there q i e above below = subst (λ (x : ℕ). state_in (copy_at d x) i ≡ Stale) (sym e) (missing i above below)

  valid_there : (q i : ℕ) → q ≡ to → lo ≤ i → i < hi → state_in (copy_at n q) i ≡ Valid
  valid_there q i e above below = subst (λ (x : ℕ). state_in (copy_at n x) i ≡ Valid) (sym e) (f.target.states.inside i above below)

  pub grows-fill : (q : ℕ) → GrowsAt d n q
  grows-fill q = record {
    home = fill_home q;
    pins = ⊎_elim
        (λ (e : q ≡ to). subst (λ (x : ℕ). pins_in (copy_at n x) ≡ pins_in (copy_at d x)) (sym e) f.target.pins)
        (λ (ne : q ≢ to). ap pins_in (f.others q ne))
        (cases_eq q to);
    expected = ⊎_elim
        (λ (e : q ≡ to). subst (λ (x : ℕ). expected_in (copy_at n x) ≡ expected_in (copy_at d x)) (sym e) f.target.expected)
        (λ (ne : q ≢ to). ap expected_in (f.others q ne))
        (cases_eq q to);
    readable = λ i r. fill_place (state_in (copy_at n q) i ≢ Stale) q i
        (λ e above below s. valid_not_stale (sym (valid_there q i e above below) ∙ s))
        (λ state cell s. r (sym state ∙ s));
    cells = λ i r. fill_place (cell_in (cells_of_copy n q) i ≡ cell_in (cells_of_copy d q) i) q i
        (λ e above below. absurd (r (stale_there q i e above below)))
        (λ state cell. cell);
  }

  pub serves-fill : Serves d n
  serves-fill = record {
    stays = λ q there. inl (grows-fill q);
    fresh = λ q none some. absurd (not_there (copy_at d q) none (some_home (copy_at n q) (copy_at d q) (fill_home q) some));
    owned = λ q i own. fill_place (HasOwner d n q i) q i
        (λ e above below. absurd (owner_not_stale (sym own ∙ stale_there q i e above below)))
        (λ state cell. record { at = q; store = ap home_store (fill_home q); owns = state ∙ own; cell = cell });
    owners = λ q i own. fill_place (HasOwner n d q i) q i
        (λ e above below. absurd (valid_not_owner (sym (valid_there q i e above below) ∙ own)))
        (λ state cell. record { at = q; store = sym (ap home_store (fill_home q)); owns = sym state ∙ own; cell = sym cell });
    stores = λ t. ap (λ (x : List (ℕ × StoreView)). option_map unlisted (store_of x t)) f.rest.stores;
    next = f.rest.next;
    owed = f.rest.owed;
    named = f.rest.named;
    messages = f.rest.messages;
    aside = f.rest.aside;
    next_copy = omega (arith, f.rest.next_copy);
    ranks = f.rest.ranks;
    capacity = f.rest.capacity;
  }

-- a new copy
pub serves-add : (d n : DirectoryView) (id s space lo hi : ℕ) (st : StoreView) (held : Held) → IsSound d → n.owed ≡ d.owed → n.named ≡ d.named
    → AddsCopy d n id s space lo hi st held → Serves d n
serves-add d n id s space lo hi st held sound owed named a =
    let absent : copy_at d id ≡ None = sound.new_copies id (omega (arith, a.memories.number)) in
    let old_one : (q : ℕ) → IsSome (copy_at d q) → q ≢ id = λ q there e. not_there (copy_at d q) (ap (copy_at d) e ∙ absent) there in
    let some_of_state : (q i : ℕ) → state_in (copy_at d q) i ≡ Owner → q ≢ id = λ q i own e. owner_not_stale (sym own ∙ ap (λ (o : Option Held). state_in o i) (ap (copy_at d) e ∙ absent)) in
    let new_stale : (q i : ℕ) → state_in (copy_at n q) i ≡ Owner → q ≢ id = λ q i own e. stale_not_owner (sym (ap (λ (o : Option Held). state_in o i) (ap (copy_at n) e ∙ a.copies.here) ∙ a.stale i) ∙ own) in
    record {
      stays = λ q there. inl (grows_same d n q (a.copies.others q (old_one q there)) (a.memories.blocks.others q (old_one q there)));
      fresh = λ q none some. ⊎_elim
          (λ (e : q ≡ id). (omega (arith, e, a.memories.number), ap pins_in (ap (copy_at n) e ∙ a.copies.here) ∙ a.pins, ap expected_in (ap (copy_at n) e ∙ a.copies.here) ∙ a.expected))
          (λ (ne : q ≢ id). absurd (not_there (copy_at n q) (a.copies.others q ne ∙ none) some))
          (cases_eq q id);
      owned = λ q i own. let ne = some_of_state q i own in owner_same d n q i (a.copies.others q ne) (a.memories.blocks.others q ne) own;
      owners = λ q i own. let ne = new_stale q i own in owner_same n d q i (sym (a.copies.others q ne)) (sym (a.memories.blocks.others q ne)) own;
      stores = λ t. ⊎_elim
          (λ (e : t ≡ s). subst (λ (x : ℕ). option_map unlisted (store_at n x) ≡ option_map unlisted (store_at d x)) (sym e)
          (ap (option_map unlisted) a.stores.here ∙ sym (ap (option_map unlisted) a.store)))
          (λ (ne : t ≢ s). ap (option_map unlisted) (a.stores.others t ne))
          (cases_eq t s);
      next = a.next;
      owed = owed;
      named = named;
      messages = a.messages;
      aside = a.aside;
      next_copy = omega (arith, a.memories.next);
      ranks = a.memories.ranks;
      capacity = a.memories.capacity;
    }
