-- Blocks of a store by where they lie, and the host's block of an index.
use Rattle.std.specs.Prelude.{◌≡◌, ℕ, ◌+◌, ◌*◌, ◌/◌, ◌<◌, min, true, false, Some, None}
use Rattle.sk_base.specs.Shape.{cells_of}
use Rattle.sk_spaces.specs.Machine.{Home}
use Rattle.sk_copy_states.specs.Copies.{home_in}
use Rattle.sk_copy_states.specs.Stores.{StoreView}
use Rattle.sk_coherence_laws.specs.Directory.{DirectoryView, copy_at, store_at}

-- where a copy of store s in a space with these indices lies
abbrev pub home_at : ℕ → ℕ → ℕ → ℕ → Home
home_at s space lo hi = record { store = s; space = space; lo = lo; hi = hi }

-- a copy of the store with exactly this block is in the space
abbrev pub HasBlock : DirectoryView → ℕ → ℕ → ℕ → ℕ → Type 0
HasBlock d s space lo hi = (q : ℕ) × (home_in (copy_at d q) ≡ Some (home_at s space lo hi))

-- the host's block of an index is the whole store where the store has no tile, where its cells were written anew, or where a
-- copy of the whole store is on the host; otherwise it is the tile of the index
pub record IsHostBlock (d : DirectoryView) (s : ℕ) (store : StoreView) (i lo hi : ℕ) : Type 0 where
  pub untiled : store.tile ≡ None → (lo ≡ 0) × (hi ≡ cells_of store.shape)
  pub anew : store.rebound ≡ true → (lo ≡ 0) × (hi ≡ cells_of store.shape)
  pub whole : HasBlock d s 0 0 (cells_of store.shape) → (lo ≡ 0) × (hi ≡ cells_of store.shape)
  pub tiled : (tile : ℕ) → store.tile ≡ Some tile → store.rebound ≡ false → (HasBlock d s 0 0 (cells_of store.shape) → ⊥)
      → (lo ≡ i / tile * tile) × (hi ≡ min (lo + tile) (cells_of store.shape))

-- the host's block of some index of a store lies so
pub record IsHostHome (d : DirectoryView) (home : Home) : Type 0 where
  pub host : home.space ≡ 0
  pub store : StoreView
  pub is : store_at d home.store ≡ Some store
  pub index : ℕ
  pub inside : index < cells_of store.shape
  pub block : IsHostBlock d home.store store index home.lo home.hi

-- the host's block of this index lies so
abbrev pub IsHostHomeOf : DirectoryView → ℕ → Home → Type 0
IsHostHomeOf d i home = (k : IsHostHome d home) × (k.index ≡ i)
