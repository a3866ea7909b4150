-- Cells that go back to the host, and what stays.
use Rattle.std.proofs.Common.{◌≡◌, ◌≢◌, ℕ, ◌<◌, ◌≤◌, List, Option, Some, None, IfSome, IsSome, option_map, arith, ⊎_elim, refl, inl, inr, sym, subst, ◌∙◌, ap, ◌⊎◌}
use Rattle.std.proofs.lemmas.Bool.{cases_eq}
use Rattle.sk_ranges.specs.declared.state.State.TheVariants.{Stale, Valid, Owner}
use Rattle.sk_spaces.specs.declared.step.Step.TheVariants.{Back}
use Rattle.sk_spaces.specs.Machine.{Home, CopyState}
use Rattle.sk_spaces.specs.Rules.{IsThere}
use Rattle.sk_spaces.specs.Memories.{used_of}
use Rattle.sk_spaces.specs.Spaces.{used_at}
use Rattle.sk_copy_states.specs.declared.held.Held.{Held}
use Rattle.sk_copy_states.specs.Copies.{KeepsStates, ReachesIn, home_in, home_store, store_in, state_in, cell_in, pins_in, expected_in}
use Rattle.sk_copy_states.specs.Stores.{StoreView, store_of}
use Rattle.sk_coherence_laws.specs.Directory.{DirectoryView, copy_at, cells_of_copy, IsSound}
use Rattle.sk_coherence_laws.specs.Traced.{TracesStep, live_home}
use Rattle.sk_coherence_laws.specs.Adds.{Places}
use Rattle.sk_coherence_laws.specs.HostBlocks.{home_at, IsHostHome}
use Rattle.sk_coherence_laws.specs.Moves.{CanMove, OwnsAt, HandsBack, Idles}
use Rattle.sk_coherence_laws.specs.Serves.{Serves, GrowsAt, HasOwner, unlisted}
use Rattle.sk_coherence_laws.specs.Steps.{Traces, IsAlloc, StandsIn}
use Rattle.sk_coherence_laws.proofs.StateLemmas.{owner_not_stale, valid_not_stale, valid_not_owner}
use Rattle.sk_coherence_laws.proofs.TracedWrite.{some_home, live_of}
use Rattle.sk_coherence_laws.proofs.FillLemmas.{within_or}
use Rattle.sk_coherence_laws.proofs.BackLemmas as back
use Rattle.sk_coherence_laws.proofs.AcquireLemmas.{home_there, reaches_home}
use Rattle.sk_coherence_laws.proofs.ServesLemmas.{not_there, grows-trans, serves-trans, serves-idle, grows-idle}
use Rattle.sk_coherence_laws.proofs.TracesLemmas.{traces-map, traces-with, traces-trans, traces-one, far_same}
use Rattle.sk_coherence_laws.proofs.HostLemmas.{if_some_map, MakesHosts, makes-hosts, makes-map, makes-idle, makes-trans, index-on}
use Rattle.sk_coherence_laws.proofs.FillSums.{traces-idle}
use Rattle.sk_coherence.specs.Evicts.{OwnsNone, IsIn, IsFar, IsOnHost, IsBackHome, IsEviction, Retreats}
use Rattle.sk_coherence_laws.proofs.KeptLemmas.{keeps_same}
use Rattle.sk_coherence.proofs.BackHomes.{back-was, eviction-was, alloc-eviction}
use Rattle.sk_coherence.proofs.PinnedLemmas.{far-trans, not_both}

-- where a machine's copy lies
there_in : (k : CopyState) (o : Option Held) (P : Home → Type 0) → live_home k ≡ home_in o → IsSome o → IfSome (home_in o) P → IsThere k P
there_in k o P like there is = let t = live_of k o like there in
    subst (λ (x : CopyState). IsThere x P) (sym t.1) (subst (λ (h : Option Home). IfSome h P) t.2 is)

pub stands_in : (k : CopyState) (o : Option Held) (space : ℕ) → live_home k ≡ home_in o → IsSome o → IsIn space o → StandsIn space k
stands_in k o space like there is = there_in k o (λ home. home.space ≡ space) like there is

-- what a copy that retreats makes on the host are the host's blocks
pub retreat-hosts : (a b : DirectoryView) (copy : ℕ) → Retreats a b copy → MakesHosts a b
retreat-hosts a b copy x = makes-hosts a b (IsBackHome a copy) (λ home host back. back.host) x.made

-- one after another
pub retreats-trans : (a b n : DirectoryView) (copy : ℕ) → IsSound a → Retreats a b copy → Retreats b n copy → Retreats a n copy
retreats-trans a b n copy sound x y = record {
  home = y.home ∙ x.home;
  serves = serves-trans a b n sound x.serves y.serves;
  stays = λ q there. let g = x.stays q there in grows-trans a b n q g (y.stays q (some_home (copy_at a q) (copy_at b q) (sym g.home) there));
  others = far-trans a b n copy x.others y.others;
  made = makes-trans a b n (IsBackHome a copy) y.serves x.made
      (makes-map b n (IsBackHome b copy) (IsBackHome a copy) (back-was a b x.serves (retreat-hosts a b copy x) copy (ap home_store x.home) x.owns) y.made);
  owns = λ i own. x.owns i (y.owns i own);
  used = λ space some. y.used space some ∙ x.used space some;
  traced = λ space some is. traces-trans (IsEviction a copy space (used_at a.spaces space)) a b n (x.traced space some is)
      (traces-map (IsEviction b copy space (used_at a.spaces space)) (IsEviction a copy space (used_at a.spaces space)) b n
      (eviction-was a b x.serves (retreat-hosts a b copy x) copy space (used_at a.spaces space) (ap home_store x.home) x.owns)
      (subst (λ (u : ℕ). Traces (IsEviction b copy space u) b n) (x.used space some)
      (y.traced space some (subst (λ (h : Option Home). IfSome h (λ home. home.space ≡ space)) (sym x.home) is))));
}

-- nothing changed
pub retreats-idle : (d n : DirectoryView) (copy : ℕ) → Idles d n → Retreats d n copy
retreats-idle d n copy i = record {
  home = (i.copies copy).home;
  serves = serves-idle d n i;
  stays = λ q there. grows-idle d n i q;
  others = λ q ne some far. i.copies q;
  made = makes-idle d n (IsBackHome d copy) i;
  owns = λ k own. sym ((i.copies copy).states k) ∙ own;
  used = λ space some. ap (λ x. used_of x space) i.spaces.memories;
  traced = λ space some is. traces-idle (IsEviction d copy space (used_at d.spaces space)) d n i;
}

-- a copy with a block to which cells go back was found or made
pub retreats-place : (d n : DirectoryView) (copy : ℕ) (home : Home) → IsSome (copy_at d copy) → IsBackHome d copy home → Serves d n
    → ((q : ℕ) → IsSome (copy_at d q) → GrowsAt d n q) → Places d n home → Traces (IsAlloc home) d n → Retreats d n copy
retreats-place d n copy home there back serves stays p t = record {
  home = (p.kept copy there).home;
  serves = serves;
  stays = stays;
  others = λ q ne some far. p.kept q some;
  made = makes-map d n (λ at. at ≡ home) (IsBackHome d copy) (λ at e. subst (λ (x : Home). IsBackHome d copy x) (sym e) back) p.made;
  owns = λ i own. sym ((p.kept copy there).states i) ∙ own;
  used = λ space some. p.used space (λ e. omega (arith, e, some, back.host.host));
  traced = λ space some is. traces-with (IsAlloc home) (IsEviction d copy space (used_at d.spaces space)) (λ m. StandsIn space (m.copies copy) × (m.used space ≡ used_at d.spaces space)) d n
      (λ m l. (stands_in (m.copies copy) (copy_at d copy) space (l.copies copy) there is, l.used space some))
      (alloc-eviction d copy space (used_at d.spaces space) home some back) t;
}

module _ (d n : DirectoryView) (from to lo hi : ℕ) (sound : IsSound d) (can : CanMove d from to lo hi) (owns : OwnsAt d from lo hi)
    (h : HandsBack d n from to lo hi) where
  by_copy : (P : Type 0) (q : ℕ) → (q ≡ to → P) → (q ≡ from → P) → (q ≢ to → q ≢ from → P) → P
  by_copy P q = back.by_copy (copy_at d) (copy_at n) (cells_of_copy d) (cells_of_copy n) from to lo hi can.apart h.states.target h.states.source h.states.others h.values h.other_values P q

  back_home : (q : ℕ) → home_in (copy_at n q) ≡ home_in (copy_at d q)
  back_home q = back.homes (copy_at d) (copy_at n) (cells_of_copy d) (cells_of_copy n) from to lo hi can.apart h.states.target h.states.source h.states.others h.values h.other_values q

  state_out : (q i : ℕ) → (i < lo) ⊎ (hi ≤ i) → state_in (copy_at n q) i ≡ state_in (copy_at d q) i
  state_out q i out = back.state_out (copy_at d) (copy_at n) (cells_of_copy d) (cells_of_copy n) from to lo hi can.apart h.states.target h.states.source h.states.others h.values h.other_values q i out

  cell_out : (q i : ℕ) → (i < lo) ⊎ (hi ≤ i) → cell_in (cells_of_copy n q) i ≡ cell_in (cells_of_copy d q) i
  cell_out q i out = back.cell_out (copy_at d) (copy_at n) (cells_of_copy d) (cells_of_copy n) from to lo hi can.apart h.states.target h.states.source h.states.others h.values h.other_values q i out

  owner_to : (q i : ℕ) → q ≡ to → lo ≤ i → i < hi → state_in (copy_at n q) i ≡ Owner
  owner_to q i e above below = subst (λ (x : ℕ). state_in (copy_at n x) i ≡ Owner) (sym e) (h.states.target.states.inside i above below)

  valid_from : (q i : ℕ) → q ≡ from → lo ≤ i → i < hi → state_in (copy_at n q) i ≡ Valid
  valid_from q i e above below = subst (λ (x : ℕ). state_in (copy_at n x) i ≡ Valid) (sym e) (h.states.source.states.inside i above below)

  -- what might be read may be read still
  read_on : (q i : ℕ) → state_in (copy_at d q) i ≢ Stale → state_in (copy_at n q) i ≢ Stale
  read_on q i r s = within_or ⊥ lo hi i
      (λ above below. by_copy ⊥ q
      (λ e. owner_not_stale (sym (owner_to q i e above below) ∙ s))
      (λ e. valid_not_stale (sym (valid_from q i e above below) ∙ s))
      (λ ne nf. r (sym (ap (λ o. state_in o i) (h.states.others q ne nf)) ∙ s)))
      (λ out. r (sym (state_out q i out) ∙ s))

  -- with the same cell
  cell_on : (q i : ℕ) → state_in (copy_at d q) i ≢ Stale → cell_in (cells_of_copy n q) i ≡ cell_in (cells_of_copy d q) i
  cell_on q i r = within_or (cell_in (cells_of_copy n q) i ≡ cell_in (cells_of_copy d q) i) lo hi i
      (λ above below. ⊎_elim
      (λ (e : q ≡ to). subst (λ (x : ℕ). cell_in (cells_of_copy n x) i ≡ cell_in (cells_of_copy d x) i) (sym e)
      (h.values.inside i above below
      ∙ sym (sound.coherent.equal from to i can.store (owns i above below) (subst (λ (x : ℕ). state_in (copy_at d x) i ≢ Stale) e r))))
      (λ (ne : q ≢ to). ap (λ o. cell_in o i) (h.other_values q ne))
      (cases_eq q to))
      (λ out. cell_out q i out)

  pub grows-back : (q : ℕ) → GrowsAt d n q
  grows-back q = record {
    home = back_home q;
    pins = by_copy (pins_in (copy_at n q) ≡ pins_in (copy_at d q)) q
        (λ e. subst (λ (x : ℕ). pins_in (copy_at n x) ≡ pins_in (copy_at d x)) (sym e) h.states.target.pins)
        (λ e. subst (λ (x : ℕ). pins_in (copy_at n x) ≡ pins_in (copy_at d x)) (sym e) h.states.source.pins)
        (λ ne nf. ap pins_in (h.states.others q ne nf));
    expected = by_copy (expected_in (copy_at n q) ≡ expected_in (copy_at d q)) q
        (λ e. subst (λ (x : ℕ). expected_in (copy_at n x) ≡ expected_in (copy_at d x)) (sym e) h.states.target.expected)
        (λ e. subst (λ (x : ℕ). expected_in (copy_at n x) ≡ expected_in (copy_at d x)) (sym e) h.states.source.expected)
        (λ ne nf. ap expected_in (h.states.others q ne nf));
    readable = read_on q;
    cells = cell_on q;
  }

  -- an owner that is not the one that hands back
  keeps_owner : (q i : ℕ) → q ≢ from → state_in (copy_at d q) i ≡ Owner → HasOwner d n q i
  keeps_owner q i nf own = record {
    at = q;
    store = ap home_store (back_home q);
    owns = within_or (state_in (copy_at n q) i ≡ Owner) lo hi i
        (λ above below. ⊎_elim
        (λ (e : q ≡ to). owner_to q i e above below)
        (λ (ne : q ≢ to). ap (λ o. state_in o i) (h.states.others q ne nf) ∙ own)
        (cases_eq q to))
        (λ out. state_out q i out ∙ own);
    cell = cell_on q i (λ s. owner_not_stale (sym own ∙ s));
  }

  gives_owner : (q i : ℕ) → q ≡ from → state_in (copy_at d q) i ≡ Owner → HasOwner d n q i
  gives_owner q i e own = within_or (HasOwner d n q i) lo hi i
      (λ above below. record {
        at = to;
        store = ap home_store (back_home to) ∙ sym can.store ∙ ap (λ x. store_in (copy_at d x)) (sym e);
        owns = h.states.target.states.inside i above below;
        cell = h.values.inside i above below ∙ ap (λ x. cell_in (cells_of_copy d x) i) (sym e);
      })
      (λ out. record {
        at = q;
        store = ap home_store (back_home q);
        owns = state_out q i out ∙ own;
        cell = cell_out q i out;
      })

  had_owner : (q i : ℕ) → state_in (copy_at n q) i ≡ Owner → HasOwner n d q i
  had_owner q i own = within_or (HasOwner n d q i) lo hi i
      (λ above below. by_copy (HasOwner n d q i) q
      (λ e. record {
        at = from;
        store = can.store ∙ ap (λ x. store_in (copy_at d x)) (sym e) ∙ sym (ap home_store (back_home q));
        owns = owns i above below;
        cell = sym (subst (λ (x : ℕ). cell_in (cells_of_copy n x) i ≡ cell_in (cells_of_copy d from) i) (sym e) (h.values.inside i above below));
      })
      (λ e. absurd (valid_not_owner (sym (valid_from q i e above below) ∙ own)))
      (λ ne nf. record {
        at = q;
        store = sym (ap home_store (back_home q));
        owns = sym (ap (λ o. state_in o i) (h.states.others q ne nf)) ∙ own;
        cell = sym (ap (λ o. cell_in o i) (h.other_values q ne));
      }))
      (λ out. record {
        at = q;
        store = sym (ap home_store (back_home q));
        owns = sym (state_out q i out) ∙ own;
        cell = sym (cell_out q i out);
      })

  pub serves-back : Serves d n
  serves-back = record {
    stays = λ q there. inl (grows-back q);
    fresh = λ q none some. absurd (not_there (copy_at d q) none (some_home (copy_at n q) (copy_at d q) (back_home q) some));
    owned = λ q i own. ⊎_elim (λ (e : q ≡ from). gives_owner q i e own) (λ (nf : q ≢ from). keeps_owner q i nf own) (cases_eq q from);
    owners = had_owner;
    stores = λ t. ap (λ (x : List (ℕ × StoreView)). option_map unlisted (store_of x t)) h.rest.stores;
    next = h.rest.next;
    owed = h.rest.owed;
    named = h.rest.named;
    messages = h.rest.messages;
    aside = h.rest.aside;
    next_copy = omega (arith, h.rest.next_copy);
    ranks = h.rest.ranks;
    capacity = h.rest.capacity;
  }

  owns_less : (i : ℕ) → state_in (copy_at n from) i ≡ Owner → state_in (copy_at d from) i ≡ Owner
  owns_less i own = within_or (state_in (copy_at d from) i ≡ Owner) lo hi i
      (λ above below. owns i above below)
      (λ out. sym (state_out from i out) ∙ own)

  -- the copy owns none of these any more
  pub owns_none : OwnsNone (copy_at n from) lo hi
  owns_none i above below own = valid_not_owner (sym (h.states.source.states.inside i above below) ∙ own)

  pub retreats-back : lo < hi → IfSome (home_in (copy_at d to)) (IsBackHome d from) → TracesStep d n (Back from to lo hi) → Retreats d n from
  retreats-back some back traced = let host : IsOnHost (copy_at d to) = if_some_map (home_in (copy_at d to)) (IsBackHome d from) (λ home. home.space ≡ 0) (λ home b. b.host.host) back in record {
    home = back_home from;
    serves = serves-back;
    stays = λ q there. grows-back q;
    others = λ q ne some far. subst (λ (o : Option Held). KeepsStates (copy_at d q) o)
        (sym (h.states.others q (λ e. not_both (copy_at d q) some far (subst (λ (x : ℕ). IsOnHost (copy_at d x)) (sym e) host)) ne)) (keeps_same (copy_at d q));
    owns = owns_less;
    used = λ space some. h.rest.used space;
    made = λ q none. subst (λ (h : Option Home). IfSome h (IsBackHome d from)) (sym (back_home q ∙ ap home_in none)) tt;
    traced = λ space far is. traces-one (IsEviction d from space (used_at d.spaces space)) d n (Back from to lo hi) h.rest.noted traced
        (λ m l. record {
          leaves = inr (inl (record {
            target = to;
            lo = lo;
            hi = hi;
            step_is = refl;
            some = some;
            target_home = there_in (m.copies to) (copy_at d to) (IsBackHome d from) (l.copies to) can.target back;
          }));
          stands = stands_in (m.copies from) (copy_at d from) space (l.copies from) can.source is;
          taken = l.used space far;
        })
        (λ m l. far_same m d from to sound l);
  }

pub reaches_on : (o p : Option Held) (lo hi end : ℕ) → home_in p ≡ home_in o → end ≤ hi → ReachesIn o lo hi → ReachesIn p lo end
reaches_on None None lo hi end same less is = tt
reaches_on (Some o) None lo hi end same less is = tt
reaches_on None (Some p) lo hi end same less is = cc
reaches_on (Some o) (Some p) lo hi end same less is =
    let l : p.lo ≡ o.lo = grind arith in
    let h : p.hi ≡ o.hi = grind arith in
    (omega (arith, l, is.0), omega (arith, h, is.1, less))

pub spaces_apart : (o p : Option Held) (home : Home) → IsFar o → IsSome o → home_in p ≡ Some home → home.space ≡ 0 → o ≡ p → ⊥
spaces_apart None p home far there is zero same = cc
spaces_apart (Some o) p home far there is zero same =
    let one : o.space ≡ home.space = grind arith in
    omega (arith, far, one, zero)

-- a copy on a rank and the host's copy of a block of its store: the cells that the first owns may go to the second
module _ (a b : DirectoryView) (copy s to lo hi from end upto : ℕ) (there : IsSome (copy_at a copy)) (far : IsFar (copy_at a copy))
    (of_store : store_in (copy_at a copy) ≡ Some s) (reaches : ReachesIn (copy_at a copy) lo hi) (owns : OwnsAt a copy lo hi)
    (p : Places a b (home_at s 0 from upto)) (at : home_in (copy_at b to) ≡ Some (home_at s 0 from upto))
    (above : from ≤ lo) (within : end ≤ hi) (below : end ≤ upto) where
  kept : KeepsStates (copy_at a copy) (copy_at b copy)
  kept = p.kept copy there

  pub way-owns : OwnsAt b copy lo end
  way-owns i up down = kept.states i ∙ owns i up (omega (arith, down, within))

  some_b : IsSome (copy_at b copy)
  some_b = some_home (copy_at a copy) (copy_at b copy) (sym kept.home) there

  pub way-can : CanMove b copy to lo end
  way-can = record {
    source = some_b;
    target = home_there (copy_at b to) (home_at s 0 from upto) at;
    store = ap home_store kept.home ∙ of_store ∙ sym (ap home_store at);
    apart = λ e. spaces_apart (copy_at b copy) (copy_at b to) (home_at s 0 from upto)
        (subst (λ (h : Option Home). IfSome h (λ home. 0 < home.space)) (sym kept.home) far) some_b at refl (ap (copy_at b) e);
    from_reaches = reaches_on (copy_at a copy) (copy_at b copy) lo hi end kept.home within reaches;
    to_reaches = reaches_home (copy_at b to) (home_at s 0 from upto) lo end at above below;
    readable = λ i up down stale. owner_not_stale (sym (way-owns i up down) ∙ stale);
  }

-- the same after room was made in the journal
module _ (b k : DirectoryView) (same : k ≡ record b { spaces = k.spaces; ready = k.ready }) where
  copy_on : (q : ℕ) → copy_at k q ≡ copy_at b q
  copy_on q = ap (λ x. copy_at x q) same

  pub can-on : (from to lo hi : ℕ) → CanMove b from to lo hi → CanMove k from to lo hi
  can-on from to lo hi c = record {
    source = subst (λ (o : Option Held). IsSome o) (sym (copy_on from)) c.source;
    target = subst (λ (o : Option Held). IsSome o) (sym (copy_on to)) c.target;
    store = ap store_in (copy_on from) ∙ c.store ∙ sym (ap store_in (copy_on to));
    apart = c.apart;
    from_reaches = subst (λ (o : Option Held). ReachesIn o lo hi) (sym (copy_on from)) c.from_reaches;
    to_reaches = subst (λ (o : Option Held). ReachesIn o lo hi) (sym (copy_on to)) c.to_reaches;
    readable = λ i up down stale. c.readable i up down (sym (ap (λ o. state_in o i) (copy_on from)) ∙ stale);
  }

  pub owns-on : (from lo hi : ℕ) → OwnsAt b from lo hi → OwnsAt k from lo hi
  owns-on from lo hi o i up down = ap (λ x. state_in x i) (copy_on from) ∙ o i up down

-- the host's block of an index of a copy's store is one to which its cells go back, in the directory in which it was placed too, and
-- after room was made in the journal
pub way-back : (a b k : DirectoryView) (copy to : ℕ) (home : Home) → IsSome (copy_at a copy) → IsBackHome a copy home → Serves a b → Places a b home
    → home_in (copy_at b to) ≡ Some home → Idles b k → IfSome (home_in (copy_at k to)) (IsBackHome k copy)
way-back a b k copy to home there back x p at i =
    let placed = index-on a b x (makes-hosts a b (λ h. h ≡ home) (λ h host e. subst (λ (y : Home). IsHostHome a y) (sym e) back.host) p.made) home back.host in
    let now = index-on b k (serves-idle b k i) (makes-hosts b k (IsHostHome b) (λ h host is. is) (makes-idle b k (IsHostHome b) i)) home placed.0 in
    let kept : KeepsStates (copy_at a copy) (copy_at b copy) = p.kept copy there in
    subst (λ (h : Option Home). IfSome h (IsBackHome k copy)) (sym ((i.copies to).home ∙ at))
    (record {
      store = ap home_store (i.copies copy).home ∙ ap home_store kept.home ∙ back.store;
      host = now.0;
      owns = subst (λ (j : ℕ). state_in (copy_at k copy) j ≡ Owner) (sym (now.1 ∙ placed.1))
          ((i.copies copy).states back.host.index ∙ kept.states back.host.index ∙ back.owns);
    })
