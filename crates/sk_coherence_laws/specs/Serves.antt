-- What stays when a directory makes room, makes a copy and fills it: each index keeps its owner's cell, and each copy that is
-- pinned or on the host stays and may be read where it might be.
use Rattle.std.specs.Prelude.{◌≡◌, ◌≢◌, ℕ, ◌<◌, ◌≤◌, [], None, IfSome, IsSome, option_map, ◌⊎◌}
use Rattle.sk_ranges.specs.declared.state.State.TheVariants.{Stale, Owner}
use Rattle.sk_copy_states.specs.Copies.{home_in, store_in, state_in, cell_in, pins_in, expected_in}
use Rattle.sk_copy_states.specs.Stores.{StoreView}
use Rattle.sk_coherence_laws.specs.Directory.{DirectoryView, copy_at, store_at, cells_of_copy}

-- the copy lies where it did, pinned as often and with room for as many messages, and what might be read in it may be read still, with the same cells
pub record GrowsAt (old new : DirectoryView) (q : ℕ) : Type 0 where
  pub home : home_in (copy_at new q) ≡ home_in (copy_at old q)
  pub pins : pins_in (copy_at new q) ≡ pins_in (copy_at old q)
  pub expected : expected_in (copy_at new q) ≡ expected_in (copy_at old q)
  pub readable : (i : ℕ) → state_in (copy_at old q) i ≢ Stale → state_in (copy_at new q) i ≢ Stale
  pub cells : (i : ℕ) → state_in (copy_at old q) i ≢ Stale → cell_in (cells_of_copy new q) i ≡ cell_in (cells_of_copy old q) i

-- the copy lay on a rank and was not pinned, and is gone
pub record WasEvicted (old new : DirectoryView) (q : ℕ) : Type 0 where
  pub unpinned : pins_in (copy_at old q) ≡ 0
  pub far : IfSome (home_in (copy_at old q)) (λ home. 0 < home.space)
  pub gone : copy_at new q ≡ None

-- index i of a copy's store has an owner with the cell that this owner had
pub record HasOwner (old new : DirectoryView) (q i : ℕ) : Type 0 where
  pub at : ℕ
  pub store : store_in (copy_at new at) ≡ store_in (copy_at old q)
  pub owns : state_in (copy_at new at) i ≡ Owner
  pub cell : cell_in (cells_of_copy new at) i ≡ cell_in (cells_of_copy old q) i

-- a store without the list of its copies
abbrev pub unlisted : StoreView → StoreView
unlisted store = record store { copies = [] }

pub record Serves (old new : DirectoryView) : Type 0 where
  pub stays : (q : ℕ) → IsSome (copy_at old q) → GrowsAt old new q ⊎ WasEvicted old new q
  pub fresh : (q : ℕ) → copy_at old q ≡ None → IsSome (copy_at new q)
      → (old.spaces.memories.next ≤ q) × (pins_in (copy_at new q) ≡ 0) × (expected_in (copy_at new q) ≡ 0)
  -- each owned index is owned still, with its cell, and no other one is
  pub owned : (q i : ℕ) → state_in (copy_at old q) i ≡ Owner → HasOwner old new q i
  pub owners : (q i : ℕ) → state_in (copy_at new q) i ≡ Owner → HasOwner new old q i
  pub stores : (t : ℕ) → option_map unlisted (store_at new t) ≡ option_map unlisted (store_at old t)
  pub next : new.next ≡ old.next
  pub owed : new.owed ≡ old.owed
  pub named : new.named ≡ old.named
  pub messages : new.messages ≡ old.messages
  pub aside : new.aside ≡ old.aside
  pub next_copy : old.spaces.memories.next ≤ new.spaces.memories.next
  pub ranks : new.spaces.memories.ranks ≡ old.spaces.memories.ranks
  pub capacity : new.spaces.memories.capacity ≡ old.spaces.memories.capacity
