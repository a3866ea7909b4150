-- What a write of a container leaves as it was.
use Rattle.std.specs.Prelude.{◌≡◌, ◌≢◌, ℕ, ℤ, ◌-◌, ◌≤◌, ◌<◌, List, Some, None, IfSome, IsSome, option_map, ◌⊎◌, slice_index_or, pos, ◌+◌, min}
use Rattle.sk_ranges.specs.declared.state.State.TheVariants.{Stale, Owner}
use Rattle.sk_copy_states.specs.Copies.{home_in, store_in, state_in, cell_in, pins_in, expected_in}
use Rattle.sk_copy_states.specs.Stores.{UsesWrite, changes_in}
use Rattle.sk_messages.specs.Messages.{Spoils}
use Rattle.sk_coherence_laws.specs.Directory.{DirectoryView, copy_at, store_at, cells_of_copy}
use Rattle.sk_coherence_laws.specs.Serves.{WasEvicted, unlisted}
use Rattle.sk_coherence_laws.specs.Writes.{WritesIn}
use Rattle.sk_container.specs.Cells.{HasCell, IsElse}

-- the copy lies where it did, pinned as often and with room for as many messages; but at these indices of store s, what might be read
-- in it may be read still, with the same cells
pub record GrowsBut (old new : DirectoryView) (s lo hi q : ℕ) : Type 0 where
  pub home : home_in (copy_at new q) ≡ home_in (copy_at old q)
  pub pins : pins_in (copy_at new q) ≡ pins_in (copy_at old q)
  pub expected : expected_in (copy_at new q) ≡ expected_in (copy_at old q)
  pub readable : (i : ℕ) → IsElse s lo hi (store_in (copy_at old q)) i → state_in (copy_at old q) i ≢ Stale → state_in (copy_at new q) i ≢ Stale
  pub cells : (i : ℕ) → IsElse s lo hi (store_in (copy_at old q)) i → state_in (copy_at old q) i ≢ Stale
      → cell_in (cells_of_copy new q) i ≡ cell_in (cells_of_copy old q) i

-- the cells of these indices of store s are other ones now, and messages over them are spoilt; every other index keeps its owner's
-- cell, every other message is in flight still, each copy that is pinned stays, and every store but for the list of its copies; no
-- step is left as which the next write is noted
pub record Alters (old new : DirectoryView) (s lo hi : ℕ) : Type 0 where
  pub stays : (q : ℕ) → IsSome (copy_at old q) → GrowsBut old new s lo hi q ⊎ WasEvicted old new q
  pub fresh : (q : ℕ) → copy_at old q ≡ None → IsSome (copy_at new q)
      → (old.spaces.memories.next ≤ q) × (pins_in (copy_at new q) ≡ 0) × (expected_in (copy_at new q) ≡ 0)
  pub owned : (t i : ℕ) (x : ℤ) → IsElse s lo hi (Some t) i → HasCell old t i x → HasCell new t i x
  pub owners : (t i : ℕ) (x : ℤ) → IsElse s lo hi (Some t) i → HasCell new t i x → HasCell old t i x
  pub stores : (t : ℕ) → option_map unlisted (store_at new t) ≡ option_map unlisted (store_at old t)
  pub next : new.next ≡ old.next
  pub owed : new.owed ≡ old.owed
  pub named : new.named ≡ None
  pub messages : Spoils old.messages new.messages s lo hi
  pub aside : new.aside ≡ old.aside
  pub next_copy : old.spaces.memories.next ≤ new.spaces.memories.next
  pub ranks : new.spaces.memories.ranks ≡ old.spaces.memories.ranks
  pub capacity : new.spaces.memories.capacity ≡ old.spaces.memories.capacity

-- these indices of store s have these cells now, no step is left as which the next write is noted, and nothing else changed
pub record Writes (old new : DirectoryView) (s lo hi : ℕ) (cells : List ℤ) : Type 0 where
  pub alters : Alters old new s lo hi
  pub has : (i : ℕ) → lo ≤ i → i < hi → HasCell new s i (slice_index_or cells (i - lo) (pos 0))

-- a copy that was acquired for writing owns these indices, with these cells, and has a pin less; each copy is as before elsewhere,
-- messages over these indices are spoilt, and no step is left as which the next write is noted
pub record Puts (old new : DirectoryView) (copy lo hi : ℕ) (cells : List ℤ) : Type 0 where
  pub homes : (q : ℕ) → home_in (copy_at new q) ≡ home_in (copy_at old q)
  pub unpinned : pins_in (copy_at new copy) + 1 ≡ pins_in (copy_at old copy)
  pub pins : (q : ℕ) → q ≢ copy → pins_in (copy_at new q) ≡ pins_in (copy_at old q)
  pub expected : (q : ℕ) → expected_in (copy_at new q) ≡ expected_in (copy_at old q)
  pub owns : (i : ℕ) → lo ≤ i → i < hi → state_in (copy_at new copy) i ≡ Owner
  pub states : (q i : ℕ) → (store_in (copy_at old q) ≡ store_in (copy_at old copy) → (i < lo) ⊎ (hi ≤ i)) → state_in (copy_at new q) i ≡ state_in (copy_at old q) i
  pub values : WritesIn (cell_in (cells_of_copy old copy)) (cell_in (cells_of_copy new copy)) lo hi cells
  pub others : (q : ℕ) → q ≢ copy → cells_of_copy new q ≡ cells_of_copy old q
  pub stores : IfSome (copy_at old copy) (λ held. UsesWrite old.stores new.stores held.store)
  pub owed : IfSome (copy_at old copy) (λ held. new.owed ≡ old.owed - min (changes_in (store_at old held.store)) 2)
  pub named : new.named ≡ None
  pub messages : IfSome (copy_at old copy) (λ held. Spoils old.messages new.messages held.store lo hi)
  pub aside : new.aside ≡ old.aside
  pub next : new.next ≡ old.next
  pub next_copy : new.spaces.memories.next ≡ old.spaces.memories.next
  pub ranks : new.spaces.memories.ranks ≡ old.spaces.memories.ranks
  pub capacity : new.spaces.memories.capacity ≡ old.spaces.memories.capacity
