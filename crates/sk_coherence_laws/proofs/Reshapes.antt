-- A directory whose copies lie as before is as sound where it is coherent and its messages are, and the machine is like it
-- where states, cells and messages agree.
use Rattle.std.proofs.Common.{◌≡◌, ◌≢◌, ℕ, ◌+◌, ◌<◌, ◌≤◌, List, length, slice_index, Option, Some, None, IfSome, IsSome, IsSomeAnd, arith, sym, subst, ◌∙◌, ap}
use Rattle.sk_ranges.specs.declared.state.State.TheVariants.{Stale}
use Rattle.sk_spaces.specs.Machine.{Machine, StoreLine, MemoryLine}
use Rattle.sk_spaces.specs.Blocks.{IsWhole}
use Rattle.sk_spaces.specs.Spaces.{used_at}
use Rattle.sk_copy_states.specs.Held.{IsFit, mark_of}
use Rattle.sk_copy_states.specs.Copies.{home_in, home_store, store_in, state_in, cell_in}
use Rattle.sk_copy_states.specs.Stores.{copies_in, changes_in, len_in, AreRising, HasTile}
use Rattle.sk_coherence_laws.specs.Directory.{DirectoryView, copy_at, store_at, cells_of_copy, block_home, IsSound, AreCoherent, AreMailed}
use Rattle.sk_coherence_laws.specs.Traced.{IsLike, IsLineOf, HasMessages}
use Rattle.sk_coherence_laws.proofs.InsideLemmas.{inside_on}
use Rattle.sk_coherence_laws.proofs.SoundWrite.{none_of_home}

-- the copies lie as before, and the stores list the same copies
pub record Reshapes (d n : DirectoryView) : Type 0 where
  pub homes : (q : ℕ) → home_in (copy_at n q) ≡ home_in (copy_at d q)
  pub fit : (q : ℕ) → IfSome (copy_at n q) IsFit
  pub room : (q : ℕ) → IfSome (copy_at n q) (λ held. changes_in (store_at n held.store) + held.expected ≤ held.states.reserved)
  pub listed : (t : ℕ) → copies_in (store_at n t) ≡ copies_in (store_at d t)
  pub tiles : (t : ℕ) → IfSome (store_at n t) HasTile
  pub lens : (t : ℕ) → len_in (store_at d t) ≤ len_in (store_at n t)
  pub absent : (t : ℕ) → store_at d t ≡ None → store_at n t ≡ None
  pub lines : (t : ℕ) (line : Option StoreLine) → IfSome (store_at d t) (λ store. IsSomeAnd line (IsLineOf store)) → IfSome (store_at n t) (λ store. IsSomeAnd line (IsLineOf store))
  pub blocks : (q : ℕ) → block_home (cells_of_copy n q) ≡ block_home (cells_of_copy d q)
  pub whole : (q : ℕ) → IfSome (cells_of_copy n q) IsWhole
  pub next : n.next ≡ d.next
  pub next_copy : n.spaces.memories.next ≡ d.spaces.memories.next
  pub ranks : n.spaces.memories.ranks ≡ d.spaces.memories.ranks
  pub capacity : n.spaces.memories.capacity ≡ d.spaces.memories.capacity
  pub used : (space : ℕ) → used_at n.spaces space ≡ used_at d.spaces space

pub sound-reshaped : (d n : DirectoryView) → IsSound d → Reshapes d n → AreCoherent (copy_at n) (cells_of_copy n)
    → AreMailed n → n.owed ≤ n.ready → n.ready + n.aside ≤ n.spaces.journal.spare → IsSound n
sound-reshaped d n s r coherent mailed owed ready = record {
  fit = r.fit;
  whole = r.whole;
  tied = λ q. r.blocks q ∙ s.tied q ∙ sym (r.homes q);
  inside = λ q. inside_on d n (home_in (copy_at d q)) (home_in (copy_at n q)) (r.homes q) r.lens (s.inside q);
  listed = λ t k below. ap home_store (r.homes _) ∙ subst (λ (ids : List ℕ). store_in (copy_at d (slice_index ids k)) ≡ Some t) (sym (r.listed t))
      (s.listed t k (subst (λ (ids : List ℕ). k < length ids) (r.listed t) below));
  complete = λ t q is. subst (λ (ids : List ℕ). (k : ℕ) × (k < length ids) × (slice_index ids k ≡ q)) (sym (r.listed t))
      (s.complete t q (ap home_store (sym (r.homes q)) ∙ is));
  rising = λ t. subst AreRising (sym (r.listed t)) (s.rising t);
  tiles = r.tiles;
  room = r.room;
  owed = owed;
  ready = ready;
  new_copies = λ q above. none_of_home (copy_at n q) (r.homes q ∙ ap home_in (s.new_copies q (omega (arith, above, r.next_copy))));
  new_stores = λ t above. r.absent t (s.new_stores t (omega (arith, above, r.next)));
  coherent = coherent;
  mailed = mailed;
}

pub like-reshaped : (d n : DirectoryView) (m after : Machine) → IsLike m d → Reshapes d n
    → after.memory ≡ m.memory → after.stores ≡ m.stores → after.copies ≡ m.copies → after.used ≡ m.used
    → ((q i : ℕ) → IsSome (copy_at n q) → after.marks q i ≡ mark_of (state_in (copy_at n q) i))
    → ((q i : ℕ) → state_in (copy_at n q) i ≢ Stale → after.cells q i ≡ cell_in (cells_of_copy n q) i)
    → HasMessages after.messages after.copies n → IsLike after n
like-reshaped d n m after l r memory stores copies used marks cells messages = record {
  memory = subst (λ (o : Option MemoryLine). IsSomeAnd o (λ line. (line.ranks ≡ n.spaces.memories.ranks) × (line.capacity ≡ n.spaces.memories.capacity))) (sym memory)
      (subst (λ (x : ℕ). IsSomeAnd m.memory (λ line. (line.ranks ≡ x) × (line.capacity ≡ n.spaces.memories.capacity))) (sym r.ranks)
      (subst (λ (x : ℕ). IsSomeAnd m.memory (λ line. (line.ranks ≡ d.spaces.memories.ranks) × (line.capacity ≡ x))) (sym r.capacity) l.memory));
  stores = λ t. subst (λ (f : ℕ → Option StoreLine). IfSome (store_at n t) (λ store. IsSomeAnd (f t) (IsLineOf store))) (sym stores) (r.lines t (m.stores t) (l.stores t));
  new_stores = λ t above. ap (λ f. f t) stores ∙ l.new_stores t (omega (arith, above, r.next));
  copies = λ q. ap (λ f. Rattle.sk_coherence_laws.specs.Traced.live_home (f q)) copies ∙ l.copies q ∙ sym (r.homes q);
  new_copies = λ q above. ap (λ f. f q) copies ∙ l.new_copies q (omega (arith, above, r.next_copy));
  marks = marks;
  cells = cells;
  used = λ space some. ap (λ f. f space) used ∙ l.used space some ∙ sym (r.used space);
  messages = messages;
}
