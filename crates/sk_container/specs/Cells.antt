-- The cells of a store's owners.
use Rattle.std.specs.Prelude.{◌≡◌, ℕ, ℤ, ◌<◌, ◌≤◌, Option, Some, ◌⊎◌}
use Rattle.sk_ranges.specs.declared.state.State.TheVariants.{Owner}
use Rattle.sk_copy_states.specs.Copies.{store_in, state_in, cell_in}
use Rattle.sk_coherence_laws.specs.Directory.{DirectoryView, copy_at, cells_of_copy}

-- index i of store s has an owner, with this cell
pub record HasCell (d : DirectoryView) (s i : ℕ) (x : ℤ) : Type 0 where
  pub at : ℕ
  pub store : store_in (copy_at d at) ≡ Some s
  pub owns : state_in (copy_at d at) i ≡ Owner
  pub cell : cell_in (cells_of_copy d at) i ≡ x

-- index i of a store is not one of the indices lo ≤ i < hi of store s
abbrev pub IsElse : ℕ → ℕ → ℕ → Option ℕ → ℕ → Type 0
IsElse s lo hi store i = store ≡ Some s → (i < lo) ⊎ (hi ≤ i)
