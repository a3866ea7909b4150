-- A copy that is acquired.
use Rattle.std.specs.Prelude.{◌≡◌, ◌≢◌, ℕ, ◌+◌, Some, IfSome, IsSome, ⊤}
use Rattle.sk_spaces.specs.declared.faults.SpaceFault.{SpaceFault}
use Rattle.sk_spaces.specs.declared.faults.SpaceFault.TheVariants.{NoRoom, Memory}
use Rattle.sk_spaces.specs.Spaces.{IsSpaceFault}
use Rattle.sk_coherence_laws.specs.Directory.{DirectoryView, copy_at}
use Rattle.sk_coherence_laws.specs.HostBlocks.{HasBlock}
use Rattle.sk_coherence_laws.specs.Serves.{Serves}

-- a copy is pinned once more, and nothing else changed
pub record PinsOne (old new : DirectoryView) (copy : ℕ) : Type 0 where
  pub here : IfSome (copy_at old copy) (λ held. copy_at new copy ≡ Some (record held { pins = held.pins + 1 }))
  pub others : (q : ℕ) → q ≢ copy → copy_at new q ≡ copy_at old q
  pub rest : new ≡ record old { copies = new.copies }

-- a copy was made or found, and filled, as before says; and then it was pinned once more
pub record Acquires (old new : DirectoryView) (copy : ℕ) : Type 0 where
  pub before : DirectoryView
  pub serves : Serves old before
  pub there : IsSome (copy_at before copy)
  pub pins : PinsOne before new copy

-- why no copy is made: there is none with this block, and the block would be too much in its space; or memory is wanting
abbrev pub IsRoomFault : DirectoryView → ℕ → ℕ → ℕ → ℕ → SpaceFault → Type 0
IsRoomFault d store space lo hi (NoRoom used len capacity) =
    IsSpaceFault d.spaces space lo hi (NoRoom used len capacity) × (HasBlock d store space lo hi → ⊥)
IsRoomFault d store space lo hi Memory = ⊤
