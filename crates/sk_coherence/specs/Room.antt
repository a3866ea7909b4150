-- Room for a new block, why there is none, and what an acquire does.
use Rattle.std.specs.Prelude.{◌≡◌, ℕ, ◌+◌, ◌-◌, ◌<◌, None, IfSome, IsSome, ⊤, ◌⊎◌}
use Rattle.sk_spaces.specs.declared.step.Step.{Step}
use Rattle.sk_spaces.specs.Machine.{Machine, Home}
use Rattle.sk_spaces.specs.Spaces.{used_at}
use Rattle.sk_copy_states.specs.Copies.{home_in, pins_in}
use Rattle.sk_copy_states.specs.Loose.{pinned_in}
use Rattle.sk_coherence_laws.specs.Directory.{DirectoryView, copy_at}
use Rattle.sk_coherence_laws.specs.HostBlocks.{HasBlock, IsHostHome}
use Rattle.sk_coherence_laws.specs.Steps.{IsAbsent, IsAlloc, IsFill}
use Rattle.sk_coherence.specs.declared.faults.AcquireFault.{AcquireFault}
use Rattle.sk_coherence.specs.declared.faults.AcquireFault.TheVariants.{NoRoom, Memory}
use Rattle.sk_coherence.specs.Evicts.{IsIn, IsEviction}

-- with so many cells more there would be more in a rank's space than it has
pub record IsFull (d : DirectoryView) (space len : ℕ) : Type 0 where
  pub limited : 0 < space
  pub full : d.spaces.memories.capacity < used_at d.spaces space + len

-- on a rank there is no copy with this block, and with it there would be more than the space has, even if all that is not
-- pinned went
pub record IsShort (d : DirectoryView) (store space lo hi : ℕ) : Type 0 where
  pub limited : 0 < space
  pub absent : HasBlock d store space lo hi → ⊥
  pub full : d.spaces.memories.capacity < pinned_in space d.copies + (hi - lo)

-- why no copy is acquired: there is no room even if all went that may; or there is, and memory is wanting
abbrev pub IsAcquireFault : DirectoryView → ℕ → ℕ → ℕ → ℕ → AcquireFault → Type 0
IsAcquireFault d store space lo hi (NoRoom need pinned capacity) =
    IsShort d store space lo hi × (lo + need ≡ hi) × (pinned ≡ pinned_in space d.copies) × (capacity ≡ d.spaces.memories.capacity)
IsAcquireFault d store space lo hi Memory = IsShort d store space lo hi → ⊥

-- where there is no room, nothing was done
abbrev pub IsEarly : DirectoryView → DirectoryView → AcquireFault → Type 0
IsEarly old new (NoRoom need pinned capacity) = new ≡ old
IsEarly old new Memory = ⊤

-- some copy in the space, of which so many cells are taken, that is not pinned is written back to the host and goes
pub record IsGivingWay (d : DirectoryView) (space used : ℕ) (m : Machine) (step : Step) : Type 0 where
  pub copy : ℕ
  pub there : IsSome (copy_at d copy)
  pub lies : IsIn space (copy_at d copy)
  pub unpinned : pins_in (copy_at d copy) ≡ 0
  pub evicts : IsEviction d copy space used m step

-- on a rank no copy lies so, and with it there would be more in its space than the capacity
pub record IsCrowded (d : DirectoryView) (home : Home) (m : Machine) : Type 0 where
  pub limited : 0 < home.space
  pub absent : IsAbsent home m
  pub full : d.spaces.memories.capacity < m.used home.space + (home.hi - home.lo)

-- a copy of its space gives way for it
pub record IsMakingWay (d : DirectoryView) (home : Home) (m : Machine) (step : Step) : Type 0 where
  pub crowded : IsCrowded d home m
  pub goes : IsGivingWay d home.space (m.used home.space) m step

-- why an acquire of the copy that lies so, which fills nothing, takes a step: it is made where there is none; or a copy of its
-- space gives way for it, while there would be more in the space than its capacity
abbrev pub IsYielding : DirectoryView → Home → Machine → Step → Type 0
IsYielding d home m step = IsAlloc home m step ⊎ IsMakingWay d home m step

-- why an acquire that needs the indices from ≤ i < to takes a step: as one that fills nothing, or some of these are filled, where
-- they were stale, each from the copy from which it has to come
abbrev pub IsDue : DirectoryView → Home → ℕ → ℕ → Machine → Step → Type 0
IsDue d home from to m step = IsYielding d home m step ⊎ IsFill home from to m step

-- each copy that is made is the one that lies so, or, where that is on a rank, has a block of the host
abbrev pub MakesOnly : DirectoryView → DirectoryView → Home → Type 0
MakesOnly old new home =
    (q : ℕ) → copy_at old q ≡ None → IfSome (home_in (copy_at new q)) (λ at. (at ≡ home) ⊎ ((0 < home.space) × IsHostHome old at))
