-- Indices that have an owner.
use Rattle.std.specs.Prelude.{◌≡◌, ℕ, Some}
use Rattle.sk_ranges.specs.declared.state.State.TheVariants.{Owner}
use Rattle.sk_copy_states.specs.Copies.{state_in, store_in}
use Rattle.sk_coherence_laws.specs.Directory.{DirectoryView, copy_at}

-- some copy of this copy's store owns the index
abbrev pub HasOwnerAt : DirectoryView → ℕ → ℕ → Type 0
HasOwnerAt d copy i = (q : ℕ) × (store_in (copy_at d q) ≡ store_in (copy_at d copy)) × (state_in (copy_at d q) i ≡ Owner)

-- some copy of the store owns the index
abbrev pub IsOwned : DirectoryView → ℕ → ℕ → Type 0
IsOwned d store i = (q : ℕ) × (store_in (copy_at d q) ≡ Some store) × (state_in (copy_at d q) i ≡ Owner)
