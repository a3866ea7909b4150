-- Vectors of a directory that have all of their cells.
use Rattle.std.specs.Prelude.{◌≡◌, ℕ, ◌<◌, IsSomeAnd}
use Rattle.sk_base.specs.Shape.{cells_of}
use Rattle.sk_coherence_laws.specs.Directory.{DirectoryView, store_at}
use Rattle.sk_coherence_laws.specs.Owned.{IsOwned}

-- the store is there and has so many cells
abbrev pub HasCells : DirectoryView → ℕ → ℕ → Type 0
HasCells d s n = IsSomeAnd (store_at d s) (λ store. cells_of store.shape ≡ n)

-- and each of them has an owner
pub record IsFull (d : DirectoryView) (s n : ℕ) : Type 0 where
  pub cells : HasCells d s n
  pub owned : (i : ℕ) → i < n → IsOwned d s i

-- stores with all of their cells have them still
pub record Keeps (old new : DirectoryView) : Type 0 where
  pub cells : (s n : ℕ) → HasCells old s n → HasCells new s n
  pub full : (s n : ℕ) → IsFull old s n → IsFull new s n
  pub ranks : new.spaces.memories.ranks ≡ old.spaces.memories.ranks
