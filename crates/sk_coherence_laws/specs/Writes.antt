-- A write of a copy.
use Rattle.std.specs.Prelude.{◌≡◌, ◌≢◌, ℕ, ℤ, ◌-◌, ◌<◌, ◌≤◌, List, slice_index_or, None, IfSome, pos}
use Rattle.sk_spaces.specs.Spaces.{NotesStep, used_at}
use Rattle.sk_copy_states.specs.Copies.{cell_in, OwnsAlone}
use Rattle.sk_messages.specs.Messages.{Spoils}
use Rattle.sk_coherence_laws.specs.Directory.{DirectoryView, copy_at, cells_of_copy}

-- the cells from lo on are these; every other index keeps its own
pub record WritesIn (old new : ℕ → ℤ) (lo hi : ℕ) (cells : List ℤ) : Type 0 where
  pub before : (i : ℕ) → i < lo → new i ≡ old i
  pub inside : (i : ℕ) → lo ≤ i → i < hi → new i ≡ slice_index_or cells (i - lo) (pos 0)
  pub after : (i : ℕ) → hi ≤ i → new i ≡ old i

-- a copy has these cells at these indices and owns them; every other copy of its store is stale there, and messages over them
-- are spoilt; the write is noted as it was named
pub record WritesCopy (old new : DirectoryView) (copy lo hi : ℕ) (cells : List ℤ) : Type 0 where
  pub states : OwnsAlone (copy_at old) (copy_at new) copy lo hi
  pub values : WritesIn (cell_in (cells_of_copy old copy)) (cell_in (cells_of_copy new copy)) lo hi cells
  pub others : (q : ℕ) → q ≢ copy → cells_of_copy new q ≡ cells_of_copy old q
  pub noted : IfSome old.named (λ step. NotesStep old.spaces new.spaces step)
  pub named : new.named ≡ None
  pub messages : IfSome (copy_at old copy) (λ held. Spoils old.messages new.messages held.store lo hi)
  pub aside : new.aside ≡ old.aside

-- the ranks and what is taken of their spaces are as before, and no copy was made
pub record SameRoom (old new : DirectoryView) : Type 0 where
  pub next_copy : new.spaces.memories.next ≡ old.spaces.memories.next
  pub ranks : new.spaces.memories.ranks ≡ old.spaces.memories.ranks
  pub capacity : new.spaces.memories.capacity ≡ old.spaces.memories.capacity
  pub used : (space : ℕ) → used_at new.spaces space ≡ used_at old.spaces space
