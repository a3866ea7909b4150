-- Copies, and whole stores, that are not needed any more.
use Rattle.std.specs.Prelude.{◌≡◌, ◌≢◌, ℕ, ◌-◌, ◌<◌, ◌≤◌, List, ◌++◌, Some, None, IfSome, IsSome, IsSomeAnd, option_map, ◌⊎◌}
use Rattle.sk_ranges.specs.declared.state.State.TheVariants as state
use Rattle.sk_spaces.specs.declared.step.Step.{Step}
use Rattle.sk_spaces.specs.declared.step.Step.TheVariants.{Stale, Free}
use Rattle.sk_spaces.specs.Machine.{Machine, unused, owner}
use Rattle.sk_spaces.specs.Rules.{IsThere, after_all}
use Rattle.sk_spaces.specs.Spaces.{used_at, OnlyNotes}
use Rattle.sk_copy_states.specs.Held.{mark_of}
use Rattle.sk_copy_states.specs.Copies.{StalesAll, SetsAt, KeepsStates, LiesAmong, home_in, store_in, state_in, cell_in, pins_in}
use Rattle.sk_copy_states.specs.Stores.{changes_in, len_in}
use Rattle.sk_messages.specs.Messages.{Spoils}
use Rattle.sk_coherence_laws.specs.Directory.{DirectoryView, copy_at, store_at, cells_of_copy}
use Rattle.sk_coherence_laws.specs.Traced.{IsLineOf, HasMessages, live_home}
use Rattle.sk_coherence_laws.specs.Serves.{unlisted}
use Rattle.sk_coherence_laws.specs.Steps.{AreDone, counted}

-- every copy of store s is stale at these indices, and messages over them are spoilt; every other copy, every cell and every
-- store is as before; one step was noted
pub record Stales (old new : DirectoryView) (s lo hi : ℕ) : Type 0 where
  pub states : StalesAll (copy_at old) (copy_at new) s lo hi
  pub stores : new.stores ≡ old.stores
  pub next : new.next ≡ old.next
  pub owed : new.owed ≡ old.owed
  pub named : new.named ≡ old.named
  pub messages : Spoils old.messages new.messages s lo hi
  pub aside : new.aside ≡ old.aside
  pub spaces : OnlyNotes old.spaces new.spaces (Stale s lo hi)

-- copies of store s with all of their block among these indices are gone, and nothing else changed
pub record Thins (old new : DirectoryView) (s lo hi : ℕ) : Type 0 where
  pub stays : (q : ℕ) → (LiesAmong s lo hi (home_in (copy_at old q)) → ⊥) → copy_at new q ≡ copy_at old q
  pub there : (q : ℕ) → IsSome (copy_at new q) → copy_at new q ≡ copy_at old q
  pub cells : (q : ℕ) → IsSome (copy_at new q) → cells_of_copy new q ≡ cells_of_copy old q
  pub stores : (t : ℕ) → option_map unlisted (store_at new t) ≡ option_map unlisted (store_at old t)
  pub others : (t : ℕ) → t ≢ s → store_at new t ≡ store_at old t
  pub next : new.next ≡ old.next
  pub owed : new.owed ≡ old.owed
  pub named : new.named ≡ old.named
  pub messages : new.messages ≡ old.messages
  pub aside : new.aside ≡ old.aside
  pub next_copy : new.spaces.memories.next ≡ old.spaces.memories.next
  pub ranks : new.spaces.memories.ranks ≡ old.spaces.memories.ranks
  pub capacity : new.spaces.memories.capacity ≡ old.spaces.memories.capacity

-- Every copy of store s is stale at these indices, the copies with all of their block among them are gone, and messages over them
-- are spoilt. Every other copy, and the cells of each copy that is left, are as before.
pub record Retires (old new : DirectoryView) (s lo hi : ℕ) : Type 0 where
  pub gone : (q : ℕ) → LiesAmong s lo hi (home_in (copy_at old q)) → copy_at new q ≡ None
  pub staled : (q : ℕ) → (LiesAmong s lo hi (home_in (copy_at old q)) → ⊥) → store_in (copy_at old q) ≡ Some s
      → SetsAt (copy_at old q) (copy_at new q) lo hi state.Stale
  pub kept : (q : ℕ) → store_in (copy_at old q) ≢ Some s → KeepsStates (copy_at old q) (copy_at new q)
  pub pins : (q : ℕ) → store_in (copy_at old q) ≢ Some s → pins_in (copy_at new q) ≡ pins_in (copy_at old q)
  pub cells : (q : ℕ) → IsSome (copy_at new q) → cells_of_copy new q ≡ cells_of_copy old q
  pub stores : (t : ℕ) → option_map unlisted (store_at new t) ≡ option_map unlisted (store_at old t)
  pub others : (t : ℕ) → t ≢ s → store_at new t ≡ store_at old t
  pub next : new.next ≡ old.next
  pub owed : new.owed ≡ old.owed
  pub named : new.named ≡ old.named
  pub messages : Spoils old.messages new.messages s lo hi
  pub aside : new.aside ≡ old.aside
  pub next_copy : new.spaces.memories.next ≡ old.spaces.memories.next
  pub ranks : new.spaces.memories.ranks ≡ old.spaces.memories.ranks
  pub capacity : new.spaces.memories.capacity ≡ old.spaces.memories.capacity

-- The store is gone with its copies and the messages over it, and what was owed to writes of it is not owed any more. Every other
-- store and copy is as before.
pub record Closes (old new : DirectoryView) (s : ℕ) : Type 0 where
  pub store : store_at new s ≡ None
  pub stores : (t : ℕ) → t ≢ s → store_at new t ≡ store_at old t
  pub gone : (q : ℕ) → store_in (copy_at old q) ≡ Some s → copy_at new q ≡ None
  pub copies : (q : ℕ) → store_in (copy_at old q) ≢ Some s → copy_at new q ≡ copy_at old q
  pub cells : (q : ℕ) → IsSome (copy_at new q) → cells_of_copy new q ≡ cells_of_copy old q
  pub owed : new.owed ≡ old.owed - changes_in (store_at old s)
  pub next : new.next ≡ old.next
  pub named : new.named ≡ old.named
  pub messages : Spoils old.messages new.messages s 0 (len_in (store_at old s))
  pub aside : new.aside ≡ old.aside
  pub next_copy : new.spaces.memories.next ≡ old.spaces.memories.next
  pub ranks : new.spaces.memories.ranks ≡ old.spaces.memories.ranks
  pub capacity : new.spaces.memories.capacity ≡ old.spaces.memories.capacity

-- these indices of a store become stale
abbrev pub IsStaling : ℕ → ℕ → ℕ → Machine → Step → Type 0
IsStaling s lo hi m (Stale store from to) = (store ≡ s) × (from ≡ lo) × (to ≡ hi)
IsStaling s lo hi m _ = ⊥

-- a copy of store s with all of its block among these indices goes
abbrev pub IsFreeing : ℕ → ℕ → ℕ → Machine → Step → Type 0
IsFreeing s lo hi m (Free id) = IsThere (m.copies id) (λ home. LiesAmong s lo hi (Some home))
IsFreeing s lo hi m _ = ⊥

-- some copy of the store owns an index
abbrev pub IsOwnedIn : ℕ → Machine → Type 0
IsOwnedIn s m = (q : ℕ) × IsThere (m.copies q) (λ home. home.store ≡ s) × ((i : ℕ) × (m.marks q i ≡ owner))

-- why a retirement takes a step
abbrev pub IsRetiring : ℕ → ℕ → ℕ → Machine → Step → Type 0
IsRetiring s lo hi m step = IsStaling s lo hi m step ⊎ IsFreeing s lo hi m step

-- why the closing of a store with so many cells takes a step: its indices become stale only where one of them is owned
abbrev pub IsClosing : ℕ → ℕ → Machine → Step → Type 0
IsClosing s len m step = (IsStaling s 0 len m step × IsOwnedIn s m) ⊎ IsFreeing s 0 len m step

-- the machine has the directory's stores, copies and messages, whatever the states
pub record IsPlaced (m : Machine) (d : DirectoryView) : Type 0 where
  pub memory : IsSomeAnd m.memory (λ line. (line.ranks ≡ d.spaces.memories.ranks) × (line.capacity ≡ d.spaces.memories.capacity))
  pub stores : (s : ℕ) → IfSome (store_at d s) (λ store. IsSomeAnd (m.stores s) (IsLineOf store))
  pub new_stores : (s : ℕ) → d.next ≤ s → m.stores s ≡ None
  pub copies : (q : ℕ) → live_home (m.copies q) ≡ home_in (copy_at d q)
  pub new_copies : (q : ℕ) → d.spaces.memories.next ≤ q → m.copies q ≡ unused
  pub used : (space : ℕ) → 0 < space → m.used space ≡ used_at d.spaces space
  pub messages : HasMessages m.messages m.copies d

-- the machine is like the directory, but that the copies of store s with all of their block among these indices own nothing in it
pub record IsLikeBut (s lo hi : ℕ) (m : Machine) (d : DirectoryView) : Type 0 where
  pub placed : IsPlaced m d
  pub marks : (q i : ℕ) → IsSome (copy_at d q) → (LiesAmong s lo hi (home_in (copy_at d q)) → ⊥) → m.marks q i ≡ mark_of (state_in (copy_at d q) i)
  pub cells : (q i : ℕ) → (LiesAmong s lo hi (home_in (copy_at d q)) → ⊥) → state_in (copy_at d q) i ≢ state.Stale → m.cells q i ≡ cell_in (cells_of_copy d q) i
  pub owned : (q i : ℕ) → LiesAmong s lo hi (home_in (copy_at d q)) → m.marks q i ≢ owner

-- exactly these steps were noted; from each machine of which L is true they are legal, P is true of each where it comes, they
-- lead to one of which K is true, and the journal counted each
pub record Leads (P : Machine → Step → Type 0) (L K : Machine → Type 0) (old new : DirectoryView) : Type 0 where
  pub steps : List Step
  pub told : new.spaces.journal.steps ≡ option_map (λ done. done ++ steps) old.spaces.journal.steps
  pub done : (m : Machine) → L m → AreDone P m steps × K (after_all m steps)
  pub counted_all : (m : Machine) → L m → new.spaces.journal.totals ≡ counted m steps old.spaces.journal.totals
