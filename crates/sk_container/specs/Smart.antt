-- What a container over a directory is: a shape and a list.
use Rattle.std.specs.Prelude.{◌≡◌, ℕ, ℤ, ◌<◌, List, length, slice_index_or, IsSomeAnd, pos}
use Rattle.sk_base.specs.Shape.{cells_of}
use Rattle.sk_coherence_laws.specs.Directory.{DirectoryView, store_at}
use Rattle.sk_container.specs.Cells.{HasCell}

-- the number of its store, and its sizes
pub record SmartView : Type 0 where
  pub store : ℕ
  pub shape : List ℕ

-- the directory has the container's store, with its shape
abbrev pub HasStore : DirectoryView → SmartView → Type 0
HasStore d smart = IsSomeAnd (store_at d smart.store) (λ store. store.shape ≡ smart.shape)

-- the container has these cells, in row-major order: each index has an owner with its cell
pub record Holds (d : DirectoryView) (smart : SmartView) (cells : List ℤ) : Type 0 where
  pub store : HasStore d smart
  pub len : length cells ≡ cells_of smart.shape
  pub each : (i : ℕ) → i < length cells → HasCell d smart.store i (slice_index_or cells i (pos 0))

-- the container has a cell at each index
abbrev pub IsHeld : DirectoryView → SmartView → Type 0
IsHeld d smart = (cells : List ℤ) × Holds d smart cells
