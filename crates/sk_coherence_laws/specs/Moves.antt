-- Cells that go from one copy of a store to another one.
use Rattle.std.specs.Prelude.{◌≡◌, ◌≢◌, ℕ, ℤ, ◌<◌, ◌≤◌, Option, Some, IsSome, ◌⊎◌}
use Rattle.sk_ranges.specs.declared.state.State.TheVariants.{Stale, Valid, Owner}
use Rattle.sk_spaces.specs.declared.step.Step.{Step}
use Rattle.sk_spaces.specs.declared.step.Step.TheVariants.{Copy, Back}
use Rattle.sk_spaces.specs.Machine.{Home}
use Rattle.sk_spaces.specs.Spaces.{NotesStep, Stays, used_at}
use Rattle.sk_copy_states.specs.Copies.{ReachesIn, SetsAt, HandsOver, KeepsStates, home_in, store_in, state_in, cell_in, pins_in}
use Rattle.sk_coherence_laws.specs.Directory.{DirectoryView, copy_at, store_at, cells_of_copy}

-- two copies of one store, both with the indices lo ≤ i < hi, which may be read in the first
pub record CanMove (d : DirectoryView) (from to lo hi : ℕ) : Type 0 where
  pub source : IsSome (copy_at d from)
  pub target : IsSome (copy_at d to)
  pub store : store_in (copy_at d from) ≡ store_in (copy_at d to)
  pub apart : from ≢ to
  pub from_reaches : ReachesIn (copy_at d from) lo hi
  pub to_reaches : ReachesIn (copy_at d to) lo hi
  pub readable : (i : ℕ) → lo ≤ i → i < hi → state_in (copy_at d from) i ≢ Stale

-- the copy is stale at each of these indices
abbrev pub IsStaleAt : DirectoryView → ℕ → ℕ → ℕ → Type 0
IsStaleAt d copy lo hi = (i : ℕ) → lo ≤ i → i < hi → state_in (copy_at d copy) i ≡ Stale

-- the copy owns each of these indices
abbrev pub OwnsAt : DirectoryView → ℕ → ℕ → ℕ → Type 0
OwnsAt d copy lo hi = (i : ℕ) → lo ≤ i → i < hi → state_in (copy_at d copy) i ≡ Owner

-- two copies that lie so are there, are of one store, and lie in one space
abbrev pub AreNear : Option Home → Option Home → Type 0
AreNear (Some one) (Some other) = (one.store ≡ other.store) × (one.space ≡ other.space)
AreNear _ _ = ⊥

-- the copy with number q is stale at each of these indices, if it is near the copy `to`
abbrev pub IsStaleNear : DirectoryView → ℕ → ℕ → ℕ → ℕ → Type 0
IsStaleNear d to lo hi q = AreNear (home_in (copy_at d q)) (home_in (copy_at d to)) → IsStaleAt d q lo hi

-- from which copy these indices of the copy `to` are filled: from the copy of least number near it that may be read there, or
-- there is none, and from their owner
abbrev pub IsSourceAt : DirectoryView → ℕ → ℕ → ℕ → ℕ → Type 0
IsSourceAt d from to lo hi =
    (AreNear (home_in (copy_at d from)) (home_in (copy_at d to)) × ((q : ℕ) → q < from → IsStaleNear d to lo hi q))
    ⊎ (OwnsAt d from lo hi × ((q : ℕ) → IsStaleNear d to lo hi q))

-- the cells of the indices lo ≤ i < hi are those of another list; every other index keeps its own
pub record TakesIn (source old new : ℕ → ℤ) (lo hi : ℕ) : Type 0 where
  pub before : (i : ℕ) → i < lo → new i ≡ old i
  pub inside : (i : ℕ) → lo ≤ i → i < hi → new i ≡ source i
  pub after : (i : ℕ) → hi ≤ i → new i ≡ old i

-- the stores, messages and numbers are as before, and so are the ranks and what is taken of their spaces; one step was noted
pub record NotesOne (old new : DirectoryView) (step : Step) : Type 0 where
  pub stores : new.stores ≡ old.stores
  pub next : new.next ≡ old.next
  pub owed : new.owed ≡ old.owed
  pub named : new.named ≡ old.named
  pub messages : new.messages ≡ old.messages
  pub aside : new.aside ≡ old.aside
  pub next_copy : new.spaces.memories.next ≡ old.spaces.memories.next
  pub ranks : new.spaces.memories.ranks ≡ old.spaces.memories.ranks
  pub capacity : new.spaces.memories.capacity ≡ old.spaces.memories.capacity
  pub used : (space : ℕ) → used_at new.spaces space ≡ used_at old.spaces space
  pub noted : NotesStep old.spaces new.spaces step

-- every copy, store, cell, message and step is as before; the journal, and the copies for changes of their states, may have more room
pub record Idles (old new : DirectoryView) : Type 0 where
  pub copies : (q : ℕ) → KeepsStates (copy_at old q) (copy_at new q)
  pub pins : (q : ℕ) → pins_in (copy_at new q) ≡ pins_in (copy_at old q)
  pub stores : (t : ℕ) → store_at new t ≡ store_at old t
  pub next : new.next ≡ old.next
  pub owed : new.owed ≡ old.owed
  pub named : new.named ≡ old.named
  pub ready : old.ready ≤ new.ready
  pub messages : new.messages ≡ old.messages
  pub aside : new.aside ≡ old.aside
  pub spaces : Stays old.spaces new.spaces old.spaces.named

-- stale indices of a copy are valid now, with the cells of another one; all else is as before
pub record Fills (old new : DirectoryView) (from to lo hi : ℕ) : Type 0 where
  pub target : SetsAt (copy_at old to) (copy_at new to) lo hi Valid
  pub others : (q : ℕ) → q ≢ to → copy_at new q ≡ copy_at old q
  pub values : TakesIn (cell_in (cells_of_copy old from)) (cell_in (cells_of_copy old to)) (cell_in (cells_of_copy new to)) lo hi
  pub other_values : (q : ℕ) → q ≢ to → cells_of_copy new q ≡ cells_of_copy old q
  pub rest : NotesOne old new (Copy from to lo hi)

-- a copy owns indices now that another one owned, with their cells, and that one is valid there; all else is as before
pub record HandsBack (old new : DirectoryView) (from to lo hi : ℕ) : Type 0 where
  pub states : HandsOver (copy_at old) (copy_at new) from to lo hi
  pub values : TakesIn (cell_in (cells_of_copy old from)) (cell_in (cells_of_copy old to)) (cell_in (cells_of_copy new to)) lo hi
  pub other_values : (q : ℕ) → q ≢ to → cells_of_copy new q ≡ cells_of_copy old q
  pub rest : NotesOne old new (Back from to lo hi)
