-- A copy that goes after what it owned is the host's.
use Rattle.std.proofs.Common.{◌≡◌, ◌≢◌, ℕ, ◌<◌, Option, Some, None, IfSome, IsSome, option_map, arith, ⊎_elim, refl, inl, inr, sym, subst, ◌∙◌, ap}
use Rattle.std.proofs.lemmas.Bool.{cases_eq}
use Rattle.sk_ranges.specs.declared.state.State.TheVariants.{Owner}
use Rattle.sk_spaces.specs.declared.step.Step.TheVariants.{Free}
use Rattle.sk_spaces.specs.Blocks.{BlockView, taken_in}
use Rattle.sk_spaces.specs.Spaces.{used_at}
use Rattle.sk_copy_states.specs.declared.held.Held.{Held}
use Rattle.sk_spaces.specs.Machine.{Home}
use Rattle.sk_copy_states.specs.Copies.{home_in, home_store, store_in, state_in, pins_in}
use Rattle.sk_copy_states.specs.Stores.{StoreView}
use Rattle.sk_coherence_laws.specs.Directory.{DirectoryView, copy_at, store_at, cells_of_copy, block_home, IsSound}
use Rattle.sk_coherence_laws.specs.Traced.{TracesStep}
use Rattle.sk_coherence_laws.specs.Frees.{FreesCopy, FreesSome}
use Rattle.sk_coherence_laws.specs.Moves.{Idles}
use Rattle.sk_coherence_laws.specs.Serves.{Serves, GrowsAt, unlisted}
use Rattle.sk_coherence_laws.specs.Steps.{Traces}
use Rattle.sk_coherence_laws.proofs.FreeLemmas.{owner_stays}
use Rattle.sk_coherence_laws.proofs.ServesLemmas.{not_there, grows_same, owner_same, grows-trans, serves-trans}
use Rattle.sk_coherence_laws.proofs.TracesLemmas.{traces-map, traces-trans, traces-one}
use Rattle.sk_coherence_laws.proofs.HostLemmas.{makes-trans}
use Rattle.sk_coherence.specs.Evicts.{IsFar, IsBackHome, IsEviction, MakesBack, TracesEviction, Retreats, Evicts}
use Rattle.sk_coherence.proofs.BackHomes.{eviction-was}
use Rattle.sk_coherence.proofs.RetreatLemmas.{retreats-trans, retreats-idle, retreat-hosts, stands_in}

taken_same : (space : ℕ) (b c : Option BlockView) → block_home b ≡ block_home c → taken_in space b ≡ taken_in space c
taken_same space None None same = refl
taken_same space (Some x) None same = cc
taken_same space None (Some y) same = cc
taken_same space (Some x) (Some y) same =
    let at : x.space ≡ y.space = grind arith in
    let lo : x.lo ≡ y.lo = grind arith in
    let hi : x.hi ≡ y.hi = grind arith in
    rw (at, lo, hi) refl

store_there : (o : Option Held) (s : ℕ) → store_in o ≡ Some s → IsSome o
store_there None s is = cc
store_there (Some held) s is = refl

module _ (d n : DirectoryView) (id s : ℕ) (st now : StoreView) (sound : IsSound d) (f : FreesCopy d n id s st now)
    (unpinned : pins_in (copy_at d id) ≡ 0) (far : IsFar (copy_at d id)) (none : (i : ℕ) → state_in (copy_at d id) i ≢ Owner) where
  not_id : (q i : ℕ) → state_in (copy_at d q) i ≡ Owner → q ≢ id
  not_id q i own e = none i (ap (λ x. state_in (copy_at d x) i) (sym e) ∙ own)

  same_store : (t : ℕ) → option_map unlisted (store_at n t) ≡ option_map unlisted (store_at d t)
  same_store t = ⊎_elim
      (λ (e : t ≡ s). subst (λ (x : ℕ). option_map unlisted (store_at n x) ≡ option_map unlisted (store_at d x)) (sym e)
      (ap (option_map unlisted) f.stores.here ∙ ap (λ (x : StoreView). Some (unlisted x)) f.loses.same ∙ sym (ap (option_map unlisted) f.store)))
      (λ (ne : t ≢ s). ap (option_map unlisted) (f.stores.others t ne))
      (cases_eq t s)

  pub grows-free : (q : ℕ) → q ≢ id → GrowsAt d n q
  grows-free q ne = grows_same d n q (f.copies.others q ne) (f.memories.blocks.others q ne)

  pub serves-free : Serves d n
  serves-free = record {
    stays = λ q there. ⊎_elim
        (λ (e : q ≡ id). inr (record {
          unpinned = ap (λ x. pins_in (copy_at d x)) e ∙ unpinned;
          far = subst (λ (x : ℕ). IsFar (copy_at d x)) (sym e) far;
          gone = ap (copy_at n) e ∙ f.copies.here;
        }))
        (λ (ne : q ≢ id). inl (grows-free q ne))
        (cases_eq q id);
    fresh = λ q absent some. ⊎_elim
        (λ (e : q ≡ id). absurd (not_there (copy_at n q) (ap (copy_at n) e ∙ f.copies.here) some))
        (λ (ne : q ≢ id). absurd (not_there (copy_at n q) (f.copies.others q ne ∙ absent) some))
        (cases_eq q id);
    owned = λ q i own. let ne = not_id q i own in owner_same d n q i (f.copies.others q ne) (f.memories.blocks.others q ne) own;
    owners = λ q i own. let ne = owner_stays d n id s st now sound f q i own in
        owner_same n d q i (sym (f.copies.others q ne)) (sym (f.memories.blocks.others q ne)) own;
    stores = same_store;
    next = f.next;
    owed = f.owed;
    named = f.named;
    messages = f.messages;
    aside = f.aside;
    next_copy = omega (arith, f.memories.next);
    ranks = f.memories.ranks;
    capacity = f.memories.capacity;
  }

  pub traces-free : TracesStep d n (Free id) → TracesEviction d n id
  traces-free traced space some is = traces-one (IsEviction d id space (used_at d.spaces space)) d n (Free id) f.noted traced
      (λ m l. record {
        leaves = inr (inr refl);
        stands = stands_in (m.copies id) (copy_at d id) space (l.copies id) (store_there (copy_at d id) s f.home) is;
        taken = l.used space some;
      })
      (λ m l. refl)

-- all that the copy owned went back, room was made in the journal, and the copy was freed
module _ (a b k n : DirectoryView) (id : ℕ) (sa : IsSound a) (sk : IsSound k) (there : IsSome (copy_at a id)) (far : IsFar (copy_at a id))
    (unpinned : pins_in (copy_at a id) ≡ 0) (x : Retreats a b id) (i : Idles b k) (none : (j : ℕ) → state_in (copy_at b id) j ≢ Owner)
    (f : FreesSome k n id) where
  gone_back : Retreats a k id
  gone_back = retreats-trans a b k id sa x (retreats-idle b k id i)

  home_k : home_in (copy_at k id) ≡ home_in (copy_at a id)
  home_k = (gone_back.stays id there).home

  far_k : IsFar (copy_at k id)
  far_k = subst (λ h. IfSome h (λ home. 0 < home.space)) (sym home_k) far

  unpinned_k : pins_in (copy_at k id) ≡ 0
  unpinned_k = (gone_back.stays id there).pins ∙ unpinned

  none_k : (j : ℕ) → state_in (copy_at k id) j ≢ Owner
  none_k j own = none j (sym ((i.copies id).states j) ∙ own)

  pub evicted-serves : Serves a n
  evicted-serves = serves-trans a k n sa gone_back.serves (serves-free k n id f.0 f.1 f.2 sk f.3 unpinned_k far_k none_k)

  pub evicted : Evicts a n id
  evicted = record {
    gone = f.3.copies.here;
    others = λ q ne some. let g = gone_back.stays q some in
        grows-trans a k n q g (grows-free k n id f.0 f.1 f.2 sk f.3 unpinned_k far_k none_k q ne);
    used = λ space some.
        let same : taken_in space (cells_of_copy k id) ≡ taken_in space (cells_of_copy a id)
        = taken_same space (cells_of_copy k id) (cells_of_copy a id) (sk.tied id ∙ home_k ∙ sym (sa.tied id)) in
        omega (arith, f.3.memories.used space, same, gone_back.used space some);
  }

  -- what was made on the host is made
  pub evicted-made : MakesBack a n id
  evicted-made = makes-trans a k n (IsBackHome a id) (serves-free k n id f.0 f.1 f.2 sk f.3 unpinned_k far_k none_k) gone_back.made
      (λ q none. ⊎_elim
      (λ (e : q ≡ id). subst (λ (h : Option Home). IfSome h (IsBackHome a id)) (sym (ap (λ x. home_in (copy_at n x)) e ∙ ap home_in f.3.copies.here)) tt)
      (λ (ne : q ≢ id). subst (λ (h : Option Home). IfSome h (IsBackHome a id)) (sym (ap home_in (f.3.copies.others q ne) ∙ ap home_in none)) tt)
      (cases_eq q id))

  pub evicted-traced : TracesStep k n (Free id) → TracesEviction a n id
  evicted-traced t space some is = traces-trans (IsEviction a id space (used_at a.spaces space)) a k n (gone_back.traced space some is)
      (traces-map (IsEviction k id space (used_at a.spaces space)) (IsEviction a id space (used_at a.spaces space)) k n
      (eviction-was a k gone_back.serves (retreat-hosts a k id gone_back) id space (used_at a.spaces space) (ap home_store home_k) gone_back.owns)
      (subst (λ (u : ℕ). Traces (IsEviction k id space u) k n) (gone_back.used space some)
      (traces-free k n id f.0 f.1 f.2 sk f.3 unpinned_k far_k none_k t space some (subst (λ h. IfSome h (λ home. home.space ≡ space)) (sym home_k) is))))
