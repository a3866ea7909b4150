-- Room that is owed to a write.
use Rattle.std.specs.Prelude.{◌≡◌, ◌≢◌, ℕ, ◌+◌}
use Rattle.sk_copy_states.specs.Copies.{KeepsStates, pins_in}
use Rattle.sk_copy_states.specs.Stores.{OwesOne}
use Rattle.sk_coherence_laws.specs.Directory.{DirectoryView, copy_at}
use Rattle.sk_coherence_laws.specs.Serves.{Serves}

-- a copy of store s is pinned once more, and each copy of the store and the journal have room for a write, and for cells
-- anew that may go before it; states and cells are as before, and no step was noted
pub record OwesWrite (old new : DirectoryView) (s copy : ℕ) : Type 0 where
  pub copies : (q : ℕ) → KeepsStates (copy_at old q) (copy_at new q)
  pub pinned : pins_in (copy_at new copy) ≡ pins_in (copy_at old copy) + 1
  pub others : (q : ℕ) → q ≢ copy → pins_in (copy_at new q) ≡ pins_in (copy_at old q)
  pub stores : OwesOne old.stores new.stores s
  pub owed : new.owed ≡ old.owed + 2
  pub ready : new.ready ≡ old.ready
  pub spaces : new.spaces ≡ old.spaces
  pub next : new.next ≡ old.next
  pub named : new.named ≡ old.named
  pub messages : new.messages ≡ old.messages
  pub aside : new.aside ≡ old.aside

-- a copy of store s was made or found, as before says; and then it was pinned once more, with room for a write
pub record AcquiresWrite (old new : DirectoryView) (s copy : ℕ) : Type 0 where
  pub before : DirectoryView
  pub serves : Serves old before
  pub owes : OwesWrite before new s copy
