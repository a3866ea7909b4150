-- A new copy.
use Rattle.std.specs.Prelude.{◌≡◌, ◌≢◌, ℕ, ◌≤◌, Some, None, IfSome, IsSome}
use Rattle.sk_ranges.specs.declared.state.State.TheVariants.{Stale}
use Rattle.sk_spaces.specs.Machine.{Home}
use Rattle.sk_spaces.specs.Memories.{AddsBlock, fresh_block}
use Rattle.sk_spaces.specs.Spaces.{used_at}
use Rattle.sk_copy_states.specs.declared.held.Held.{Held}
use Rattle.sk_copy_states.specs.Held.{IsFit, state_of, home_of}
use Rattle.sk_copy_states.specs.Copies.{ChangesCopy, KeepsStates, home_in}
use Rattle.sk_copy_states.specs.Stores.{StoreView, PutsStore, with_copy}
use Rattle.sk_coherence_laws.specs.Directory.{DirectoryView, copy_at, store_at}

-- held is a new copy of the indices lo ≤ i < hi of store s, whose view was st: all stale, and not pinned
pub record AddsCopy (old new : DirectoryView) (id s space lo hi : ℕ) (st : StoreView) (held : Held) : Type 0 where
  pub memories : AddsBlock old.spaces.memories new.spaces.memories id (fresh_block s space lo hi)
  pub copies : ChangesCopy old.copies new.copies id (Some held)
  pub store : store_at old s ≡ Some st
  pub stores : PutsStore old.stores new.stores s (with_copy id st)
  pub next : new.next ≡ old.next
  pub messages : new.messages ≡ old.messages
  pub aside : new.aside ≡ old.aside
  pub home_store : held.store ≡ s
  pub home : home_of held ≡ record { store = s; space = space; lo = lo; hi = hi }
  pub pins : held.pins ≡ 0
  pub expected : held.expected ≡ 0
  pub fit : IsFit held
  pub room : st.room ≤ held.states.reserved
  pub stale : (i : ℕ) → state_of held i ≡ Stale

-- no copy is made but one that lies so: each copy that was there, and what is taken of every other space, is as before
pub record Places (old new : DirectoryView) (home : Home) : Type 0 where
  pub kept : (q : ℕ) → IsSome (copy_at old q) → KeepsStates (copy_at old q) (copy_at new q)
  pub used : (at : ℕ) → at ≢ home.space → used_at new.spaces at ≡ used_at old.spaces at
  pub made : (q : ℕ) → copy_at old q ≡ None → IfSome (home_in (copy_at new q)) (λ at. at ≡ home)

-- there is a new copy of store s at these indices: all stale, and not pinned; of copies, stores, cells and messages nothing else
-- changed but that it is listed
abbrev pub AddsSome : DirectoryView → DirectoryView → ℕ → ℕ → ℕ → ℕ → ℕ → Type 0
AddsSome old new id s space lo hi = (st : StoreView) × (held : Held) × AddsCopy old new id s space lo hi st held
