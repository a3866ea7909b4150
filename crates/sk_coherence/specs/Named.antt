-- Lines of the host that say a write.
use Rattle.std.specs.Prelude.{◌≡◌, ◌≢◌, ℕ, ℤ, ◌-◌, ◌<◌, ◌≤◌, List, [], ◌∷◌, length, slice_index_or, IsSome, pos}
use Rattle.sk_spaces.specs.declared.step.Step.{Step}
use Rattle.sk_spaces.specs.declared.step.Step.TheVariants.{Fill, Write, Poke, Clone}
use Rattle.sk_copy_states.specs.Copies.{ReachesIn, store_in, cell_in}
use Rattle.sk_copy_states.specs.Sources.{MayRead}
use Rattle.sk_coherence_laws.specs.Directory.{DirectoryView, copy_at, cells_of_copy}
use Rattle.sk_coherence.specs.Evicts.{IsOnHost}

-- the cells at these indices are those of a copy of another store on the host, where they may be read
pub record ClonesFrom (d : DirectoryView) (source copy lo hi : ℕ) (cells : List ℤ) : Type 0 where
  pub there : IsSome (copy_at d source)
  pub apart : store_in (copy_at d source) ≢ store_in (copy_at d copy)
  pub host : IsOnHost (copy_at d source)
  pub reaches : ReachesIn (copy_at d source) lo hi
  pub readable : MayRead (copy_at d source) lo hi
  pub equal : (i : ℕ) → lo ≤ i → i < hi → slice_index_or cells (i - lo) (pos 0) ≡ cell_in (cells_of_copy d source) i

-- the line says a write of these cells at the indices lo ≤ i < hi of a copy
abbrev pub SaysWrite : DirectoryView → ℕ → ℕ → ℕ → List ℤ → Step → Type 0
SaysWrite d copy lo hi cells (Write to from xs) = (to ≡ copy) × (from ≡ lo) × (xs ≡ cells)
SaysWrite d copy lo hi cells (Poke to index x) = (to ≡ copy) × (index ≡ lo) × (cells ≡ x ∷ [])
SaysWrite d copy lo hi cells (Fill to from end x) =
    (to ≡ copy) × (from ≡ lo) × (end ≡ hi) × ((k : ℕ) → k < length cells → slice_index_or cells k (pos 0) ≡ x)
SaysWrite d copy lo hi cells (Clone source to from end) =
    (to ≡ copy) × (from ≡ lo) × (end ≡ hi) × ClonesFrom d source copy lo hi cells
SaysWrite d copy lo hi cells _ = ⊥
