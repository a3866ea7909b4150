-- A directory with room for a write more is as sound, and like the same machine.
use Rattle.std.proofs.Common.{◌≡◌, ◌≢◌, ℕ, ◌+◌, ◌<◌, ◌≤◌, length, slice_index, Option, Some, None, IfSome, IsSome, IsSomeAnd, option_map, arith, ⊎_elim, refl, sym, subst, ◌∙◌, ap}
use Rattle.std.proofs.lemmas.Bool.{cases_eq}
use Rattle.sk_spaces.specs.Machine.{Machine, StoreLine}
use Rattle.sk_copy_states.specs.declared.held.Held.{Held}
use Rattle.sk_copy_states.specs.Held.{mark_of}
use Rattle.sk_copy_states.specs.Copies.{KeepsStates, home_in, home_store, store_in, cell_in, pins_in}
use Rattle.sk_copy_states.specs.Stores.{StoreView, copies_in, changes_in, HasTile, len_in}
use Rattle.sk_coherence_laws.specs.Directory.{DirectoryView, copy_at, store_at, block_home, IsSound}
use Rattle.sk_coherence_laws.specs.Traced.{IsLike, IsLineOf}
use Rattle.sk_copy_states.specs.Copies.{HasRoomIn}
use Rattle.sk_copy_states.specs.Stores.{before_write}
use Rattle.sk_coherence_laws.specs.Owes.{OwesWrite}
use Rattle.sk_coherence_laws.proofs.TracedWrite.{some_home}
use Rattle.sk_coherence_laws.proofs.KeptLemmas.{coherent-kept}
use Rattle.sk_coherence_laws.proofs.MailLemmas.{mailed-so, like-mail-kept}
use Rattle.sk_coherence_laws.proofs.Reshapes.{Reshapes, sound-reshaped, like-reshaped}

copies-owed : (o : Option StoreView) → copies_in (option_map before_write o) ≡ copies_in o
copies-owed None = refl
copies-owed (Some store) = refl

len-owed : (o : Option StoreView) → len_in o ≤ len_in (option_map before_write o)
len-owed None = omega arith
len-owed (Some store) = omega arith

tile-owed : (o : Option StoreView) → IfSome o HasTile → IfSome (option_map before_write o) HasTile
tile-owed None is = tt
tile-owed (Some store) is = is

line-owed : (o : Option StoreView) (line : Option StoreLine) → IfSome o (λ store. IsSomeAnd line (IsLineOf store)) → IfSome (option_map before_write o) (λ store. IsSomeAnd line (IsLineOf store))
line-owed None line is = tt
line-owed (Some store) line is = is

-- the room of a copy of the store, and of any other one
room_here : (d n : DirectoryView) (o p : Option Held) (room s : ℕ) → home_in p ≡ home_in o → store_in o ≡ Some s → HasRoomIn room p → changes_in (store_at n s) ≤ room
    → IfSome p (λ held. changes_in (store_at n held.store) + held.expected ≤ held.states.reserved)
room_here d n o None room s home is has enough = tt
room_here d n None (Some p) room s home is has enough = cc
room_here d n (Some o) (Some p) room s home is has enough =
    let at : p.store ≡ s = grind (arith, ap home_store home, is) in
    omega (arith, has, enough, ap (λ (x : ℕ). changes_in (store_at n x)) at)

room_there : (d n : DirectoryView) (o p : Option Held) (s : ℕ) → KeepsStates o p → store_in o ≢ Some s → ((t : ℕ) → t ≢ s → store_at n t ≡ store_at d t)
    → IfSome o (λ held. changes_in (store_at d held.store) + held.expected ≤ held.states.reserved)
    → IfSome p (λ held. changes_in (store_at n held.store) + held.expected ≤ held.states.reserved)
room_there d n o None s k other same room = tt
room_there d n None (Some p) s k other same room = let h = k.home in cc
room_there d n (Some o) (Some p) s k other same room =
    let at : p.store ≡ o.store = grind (arith, ap home_store k.home) in
    let ne : p.store ≢ s = λ e. other (ap Some (sym at ∙ e)) in
    omega (arith, room, k.room, k.expected, ap (λ (x : ℕ). changes_in (store_at d x)) at, ap changes_in (same p.store ne))

module _ (d n : DirectoryView) (s copy room : ℕ) (sound : IsSound d) (o : OwesWrite d n s copy) (enough : changes_in (store_at n s) ≤ room)
    (made : (k : ℕ) → k < length (copies_in (store_at d s)) → HasRoomIn room (copy_at n (slice_index (copies_in (store_at d s)) k))) where
  room_owed : (q : ℕ) → IfSome (copy_at n q) (λ held. changes_in (store_at n held.store) + held.expected ≤ held.states.reserved)
  room_owed q = ⊎_elim
      (λ (e : store_in (copy_at d q) ≡ Some s). let c = sound.complete s q e in
      room_here d n (copy_at d q) (copy_at n q) room s (o.copies q).home e
      (subst (λ (x : ℕ). HasRoomIn room (copy_at n x)) c.2 (made c.0 c.1)) enough)
      (λ (ne : store_in (copy_at d q) ≢ Some s). room_there d n (copy_at d q) (copy_at n q) s (o.copies q) ne o.stores.others (sound.room q))
      (Rattle.sk_coherence_laws.proofs.StateLemmas.same_store (store_in (copy_at d q)) (Some s))

  at_store : (P : Option StoreView → Option StoreView → Type 0) → ((x : Option StoreView) → P x (option_map before_write x)) → ((x : Option StoreView) → P x x)
      → (t : ℕ) → P (store_at d t) (store_at n t)
  at_store P here other t = ⊎_elim
      (λ (e : t ≡ s). subst (λ (x : ℕ). P (store_at d x) (store_at n x)) (sym e) (subst (λ (x : Option StoreView). P (store_at d s) x) (sym o.stores.here) (here (store_at d s))))
      (λ (ne : t ≢ s). subst (λ (x : Option StoreView). P (store_at d t) x) (sym (o.stores.others t ne)) (other (store_at d t)))
      (cases_eq t s)

  pub reshapes-owed : Reshapes d n
  reshapes-owed = record {
    homes = λ q. (o.copies q).home;
    fit = λ q. (o.copies q).fit (sound.fit q);
    room = room_owed;
    listed = at_store (λ x y. copies_in y ≡ copies_in x) copies-owed (λ x. refl);
    tiles = λ t. at_store (λ x y. IfSome x HasTile → IfSome y HasTile) tile-owed (λ x is. is) t (sound.tiles t);
    lens = at_store (λ x y. len_in x ≤ len_in y) len-owed (λ x. omega arith);
    absent = at_store (λ x y. x ≡ None → y ≡ None) (λ x is. ap (option_map before_write) is) (λ x is. is);
    lines = λ t line. at_store (λ x y. IfSome x (λ store. IsSomeAnd line (IsLineOf store)) → IfSome y (λ store. IsSomeAnd line (IsLineOf store))) (λ x. line-owed x line) (λ x is. is) t;
    blocks = λ q. ap (λ x. block_home (Rattle.sk_spaces.specs.Spaces.block_at x q)) o.spaces;
    whole = λ q. subst (λ x. IfSome (Rattle.sk_spaces.specs.Spaces.block_at x q) Rattle.sk_spaces.specs.Blocks.IsWhole) (sym o.spaces) (sound.whole q);
    next = o.next;
    next_copy = ap (λ x. x.memories.next) o.spaces;
    ranks = ap (λ x. x.memories.ranks) o.spaces;
    capacity = ap (λ x. x.memories.capacity) o.spaces;
    used = λ space. ap (λ x. Rattle.sk_spaces.specs.Spaces.used_at x space) o.spaces;
  }

  pub sound-owed : d.owed + 2 ≤ d.ready → IsSound n
  sound-owed more = sound-reshaped d n sound reshapes-owed
      (coherent-kept d n o.copies sound.coherent (λ q. ap (λ x. Rattle.sk_spaces.specs.Spaces.block_at x q) o.spaces))
      (mailed-so d n sound.mailed o.messages o.aside (ap (λ x. x.memories.next) o.spaces) o.next (λ q. (o.copies q).home) (λ q. (o.copies q).expected)
      (λ q i own. record {
        at = q;
        store = sym (ap home_store (o.copies q).home);
        owns = sym ((o.copies q).states i) ∙ own;
        cell = ap (λ x. cell_in (Rattle.sk_spaces.specs.Spaces.block_at x q) i) (sym o.spaces);
      }))
      (omega (arith, more, o.owed, o.ready))
      (omega (arith, o.ready, o.aside, sound.ready, ap (λ x. x.journal.spare) o.spaces))

  pub like-owed : (m : Machine) → IsLike m d → IsLike m n
  like-owed m l = like-reshaped d n m m l reshapes-owed refl refl refl refl
      (λ q i some. l.marks q i (some_home (copy_at n q) (copy_at d q) (o.copies q).home some) ∙ ap mark_of (sym ((o.copies q).states i)))
      (λ q i readable. l.cells q i (λ e. readable ((o.copies q).states i ∙ e)) ∙ ap (λ x. cell_in (Rattle.sk_spaces.specs.Spaces.block_at x q) i) (sym o.spaces))
      (like-mail-kept m.messages m.copies d n l.messages o.messages (ap (λ x. x.memories.next) o.spaces))

pub pinned-more : (o p : Option Held) → IsSome o → IfSome o (λ held. p ≡ Some (record held { pins = held.pins + 1 })) → pins_in p ≡ pins_in o + 1
pinned-more None p there is = cc
pinned-more (Some held) p there is = ap pins_in is
