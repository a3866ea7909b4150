-- Blocks of the host with a range of a container.
use Rattle.std.specs.Prelude.{◌≡◌, ℕ, ◌<◌, ◌≤◌, IfSome, IsSomeAnd}
use Rattle.sk_base.specs.Shape.{cells_of}
use Rattle.sk_spaces.specs.Machine.{Home}
use Rattle.sk_copy_states.specs.Copies.{home_in}
use Rattle.sk_coherence_laws.specs.Directory.{DirectoryView, copy_at, store_at}
use Rattle.sk_coherence_laws.specs.HostBlocks.{IsHostBlock, IsHostHome}

-- the indices lo ≤ i < hi lie in the host's block of an index of store s
pub record IsPart (d : DirectoryView) (s lo hi : ℕ) : Type 0 where
  pub at : ℕ
  pub from : ℕ
  pub to : ℕ
  pub inside : IsSomeAnd (store_at d s) (λ store. at < cells_of store.shape)
  pub block : IfSome (store_at d s) (λ store. IsHostBlock d s store at from to)
  pub above : from ≤ lo
  pub below : hi ≤ to

-- the host's block with the indices lo ≤ i < hi of store s lies so
pub record IsHostOf (d : DirectoryView) (s lo hi : ℕ) (home : Home) : Type 0 where
  pub store : home.store ≡ s
  pub host : IsHostHome d home
  pub above : home.lo ≤ lo
  pub below : hi ≤ home.hi

-- a copy of the directory new with what was the host's block of these indices
abbrev pub IsHostCopy : DirectoryView → DirectoryView → ℕ → ℕ → ℕ → ℕ → Type 0
IsHostCopy old new s copy lo hi = IsSomeAnd (home_in (copy_at new copy)) (IsHostOf old s lo hi)
