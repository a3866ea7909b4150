-- A directory is as sound where a store is to be written anew, and the machine is like it.
use Rattle.std.proofs.Common.{◌≡◌, ◌≢◌, ℕ, ◌+◌, ◌-◌, ◌<◌, ◌≤◌, Option, Some, None, IfSome, IsSome, IsSomeAnd, option_map, arith, ⊎_elim, refl, sym, subst, ◌∙◌, ap}
use Rattle.std.proofs.lemmas.Bool.{cases_eq}
use Rattle.sk_spaces.specs.declared.step.Step.TheVariants as line
use Rattle.sk_spaces.specs.Machine.{StoreLine, stales}
use Rattle.sk_spaces.specs.Blocks.{IsWhole}
use Rattle.sk_spaces.specs.Memories.{used_of}
use Rattle.sk_copy_states.specs.declared.held.Held.{Held}
use Rattle.sk_copy_states.specs.Copies.{home_in, home_store, cell_in}
use Rattle.sk_copy_states.specs.Stores.{StoreView, copies_in, changes_in, len_in, HasTile}
use Rattle.sk_coherence_laws.specs.Directory.{DirectoryView, copy_at, store_at, cells_of_copy, block_home, IsSound}
use Rattle.sk_coherence_laws.specs.Traced.{IsLineOf, TracesStep}
use Rattle.sk_coherence_laws.specs.Rebinds.{Rebinds}
use Rattle.sk_copy_states.specs.Stores.{anew}
use Rattle.sk_coherence_laws.proofs.MailLemmas.{like-mail-spoilt}
use Rattle.sk_coherence_laws.proofs.StaleLemmas as staling
use Rattle.sk_coherence_laws.proofs.OpenLemmas.{some_of}
use Rattle.sk_coherence_laws.proofs.SoundWrite.{room_same, room_other}
use Rattle.sk_coherence_laws.proofs.Reshapes.{Reshapes, sound-reshaped, like-reshaped}

copies-anew : (o : Option StoreView) → copies_in (option_map anew o) ≡ copies_in o
copies-anew None = refl
copies-anew (Some store) = refl

changes-anew : (o : Option StoreView) → changes_in (option_map anew o) ≡ changes_in o - 1
changes-anew None = refl
changes-anew (Some store) = refl

len-anew : (o : Option StoreView) → len_in o ≤ len_in (option_map anew o)
len-anew None = omega arith
len-anew (Some store) = omega arith

tile-anew : (o : Option StoreView) → IfSome o HasTile → IfSome (option_map anew o) HasTile
tile-anew None is = tt
tile-anew (Some store) is = is

line-anew : (o : Option StoreView) (of : Option StoreLine) → IfSome o (λ store. IsSomeAnd of (IsLineOf store)) → IfSome (option_map anew o) (λ store. IsSomeAnd of (IsLineOf store))
line-anew None of is = tt
line-anew (Some store) of is = is

module _ (d n : DirectoryView) (s : ℕ) (sound : IsSound d) (r : Rebinds d n s) where
  abbrev len : ℕ
  len = len_in (store_at d s)

  homes : (q : ℕ) → home_in (copy_at n q) ≡ home_in (copy_at d q)
  homes = staling.homes d n s 0 len r.states r.spaces.memories

  cells_same : (q : ℕ) → cells_of_copy n q ≡ cells_of_copy d q
  cells_same = staling.cells_same d n s 0 len r.states r.spaces.memories

  at_store : (P : Option StoreView → Option StoreView → Type 0) → ((x : Option StoreView) → P x (option_map anew x)) → ((x : Option StoreView) → P x x)
      → (t : ℕ) → P (store_at d t) (store_at n t)
  at_store P here other t = ⊎_elim
      (λ (e : t ≡ s). subst (λ (x : ℕ). P (store_at d x) (store_at n x)) (sym e) (subst (λ (x : Option StoreView). P (store_at d s) x) (sym r.stores.here) (here (store_at d s))))
      (λ (ne : t ≢ s). subst (λ (x : Option StoreView). P (store_at d t) x) (sym (r.stores.others t ne)) (other (store_at d t)))
      (cases_eq t s)

  less : 0 < changes_in (store_at d s) → changes_in (store_at n s) + 1 ≤ changes_in (store_at d s)
  less some = omega (arith, ap changes_in r.stores.here ∙ changes-anew (store_at d s), some)

  pub reshapes-rebound : 0 < changes_in (store_at d s) → Reshapes d n
  reshapes-rebound some = record {
    homes = homes;
    fit = staling.fit_staled d n s 0 len r.states r.spaces.memories sound.fit;
    room = λ q. staling.by_store d n s 0 len r.states r.spaces.memories (IfSome (copy_at n q) (λ held. changes_in (store_at n held.store) + held.expected ≤ held.states.reserved)) q
        (λ e. room_same d n (copy_at d q) (copy_at n q) s (sound.room q) (homes q) (r.states.staled q e).expected e (r.states.staled q e).room (less some))
        (λ ne. room_other d n (copy_at n q) s
        (subst (λ (o : Option Held). IfSome o (λ held. changes_in (store_at d held.store) + held.expected ≤ held.states.reserved)) (sym (r.states.others q ne)) (sound.room q))
        (λ e. ne (sym (ap home_store (homes q)) ∙ e)) r.stores.others);
    listed = at_store (λ x y. copies_in y ≡ copies_in x) copies-anew (λ x. refl);
    tiles = λ t. at_store (λ x y. IfSome x HasTile → IfSome y HasTile) tile-anew (λ x is. is) t (sound.tiles t);
    lens = at_store (λ x y. len_in x ≤ len_in y) len-anew (λ x. omega arith);
    absent = at_store (λ x y. x ≡ None → y ≡ None) (λ x is. ap (option_map anew) is) (λ x is. is);
    lines = λ t of. at_store (λ x y. IfSome x (λ store. IsSomeAnd of (IsLineOf store)) → IfSome y (λ store. IsSomeAnd of (IsLineOf store))) (λ x. line-anew x of) (λ x is. is) t;
    blocks = λ q. ap block_home (cells_same q);
    whole = λ q. subst (λ b. IfSome b IsWhole) (sym (cells_same q)) (sound.whole q);
    next = r.next;
    next_copy = ap (λ x. x.next) r.spaces.memories;
    ranks = ap (λ x. x.ranks) r.spaces.memories;
    capacity = ap (λ x. x.capacity) r.spaces.memories;
    used = λ space. ap (λ x. used_of x space) r.spaces.memories;
  }

  pub sound-rebound : 0 < changes_in (store_at d s) → IsSound n
  sound-rebound some = sound-reshaped d n sound (reshapes-rebound some) (staling.coherent_staled d n s 0 len r.states r.spaces.memories sound.coherent)
      (staling.mailed_staled d n s 0 len r.states r.spaces.memories sound.mailed r.messages r.aside r.next)
      (omega (arith, r.owed, r.ready, sound.owed)) (omega (arith, r.ready, r.aside, sound.ready, r.spaces.noted.spare))

  pub traced-rebound : 0 < changes_in (store_at d s) → IsSome (store_at d s) → TracesStep d n (line.Stale s 0 len)
  traced-rebound some there m l = (
    (some_of m.memory _ l.memory, staling.inside-line (store_at d s) (m.stores s) 0 len there (omega arith) (omega arith) (l.stores s)),
    like-reshaped d n m (stales s 0 len m) l (reshapes-rebound some) refl refl refl refl (staling.mark_staled d n s 0 len r.states r.spaces.memories m l)
        (λ q i readable. l.cells q i (staling.readable_before d n s 0 len r.states r.spaces.memories q i readable) ∙ ap (λ o. cell_in o i) (sym (cells_same q)))
        (like-mail-spoilt m.messages m.copies d n s 0 len l.messages r.messages (ap (λ x. x.next) r.spaces.memories)),
  )
