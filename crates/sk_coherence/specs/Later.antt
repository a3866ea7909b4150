-- Messages that are left to do for a copy.
use Rattle.std.specs.Prelude.{◌≡◌, ◌≢◌, ℕ, ◌<◌, ◌≤◌, false, List, [], ◌∷◌, Option, Some, None, IsSomeAnd, ◌⊎◌}
use Rattle.sk_spaces.specs.declared.step.Step.{Step}
use Rattle.sk_spaces.specs.Machine.{Machine, Home}
use Rattle.sk_copies.specs.declared.Transfer.{Transfer}
use Rattle.sk_copy_states.specs.declared.held.Held.{Held}
use Rattle.sk_copy_states.specs.Copies.{home_in, store_in}
use Rattle.sk_copy_states.specs.Sources.{MayRead}
use Rattle.sk_coherence_laws.specs.Directory.{DirectoryView, copy_at}
use Rattle.sk_coherence_laws.specs.HostBlocks.{IsHostHome, IsHostHomeOf}
use Rattle.sk_coherence_laws.specs.Moves.{CanMove, IsStaleAt}
use Rattle.sk_coherence_laws.specs.Steps.{Traces, IsAlloc, IsFill, IsWanting, goes_far}
use Rattle.sk_coherence.specs.Evicts.{IsIn, IsOnHost}
use Rattle.sk_coherence.specs.Room.{IsYielding}

-- two copies lie in one space
abbrev pub LieTogether : Option Held → Option Held → Type 0
LieTogether one other = (space : ℕ) × IsIn space one × IsIn space other

-- each other copy of the copy's store in its space is stale at these indices
abbrev pub IsAlone : DirectoryView → ℕ → ℕ → ℕ → Type 0
IsAlone d copy lo hi =
    (q : ℕ) → q ≢ copy → store_in (copy_at d q) ≡ store_in (copy_at d copy) → LieTogether (copy_at d q) (copy_at d copy) → IsStaleAt d q lo hi

-- the message takes some indices of the copy, which are stale in each copy of the store in its space, from the copy with the host's
-- block of the first of them, which may be read there
pub record IsToSend (d : DirectoryView) (copy : ℕ) (transfer : Transfer) : Type 0 where
  pub to : transfer.to.id ≡ copy
  pub host : IsOnHost (copy_at d transfer.from.id)
  pub block : IsSomeAnd (home_in (copy_at d transfer.from.id)) (IsHostHomeOf d transfer.range.lo)
  pub some : transfer.range.lo < transfer.range.hi
  pub can : CanMove d transfer.from.id copy transfer.range.lo transfer.range.hi
  pub stale : IsStaleAt d copy transfer.range.lo transfer.range.hi
  pub alone : IsAlone d copy transfer.range.lo transfer.range.hi

-- the messages take exactly those of the indices lo ≤ i < hi that are stale in the copy, each once, and in order
abbrev pub AreLeft : DirectoryView → ℕ → ℕ → ℕ → List Transfer → Type 0
AreLeft d copy lo hi [] = MayRead (copy_at d copy) lo hi
AreLeft d copy lo hi (transfer ∷ rest) =
    IsToSend d copy transfer × (lo ≤ transfer.range.lo) × (transfer.range.hi ≤ hi) × MayRead (copy_at d copy) lo transfer.range.lo
    × AreLeft d copy transfer.range.hi hi rest

-- the indices lo ≤ i < hi, of those before end, may be read, or the rest of them is left to a message
abbrev pub IsLooked : DirectoryView → ℕ → ℕ → ℕ → ℕ → Option Transfer → Type 0
IsLooked d copy lo end hi None = (lo < hi) × (hi ≤ end) × MayRead (copy_at d copy) lo hi
IsLooked d copy lo end hi (Some transfer) =
    IsToSend d copy transfer × (lo ≤ transfer.range.lo) × (transfer.range.hi ≡ hi) × (hi ≤ end) × MayRead (copy_at d copy) lo transfer.range.lo

-- indices of the copy that lies so are filled, each from a copy in its own space
abbrev pub IsFillBeside : Home → ℕ → ℕ → Machine → Step → Type 0
IsFillBeside home from to m step = IsFill home from to m step × (goes_far m step ≡ false)

-- for the copy that lies so, a copy with the host's block of one of the indices from ≤ i < to is made, where no copy in its space may be
-- read at that index
pub record IsHostAlloc (d : DirectoryView) (home : Home) (from to : ℕ) (m : Machine) (step : Step) : Type 0 where
  pub at : Home
  pub store : at.store ≡ home.store
  pub host : IsHostHome d at
  pub above : from ≤ host.index
  pub below : host.index < to
  pub wanting : IsWanting home m host.index
  pub alloc : IsAlloc at m step

-- for it, some of these indices are filled in a block of the host, where no copy in its space may be read at them
pub record IsHostFill (d : DirectoryView) (home : Home) (from to : ℕ) (m : Machine) (step : Step) : Type 0 where
  pub at : Home
  pub store : at.store ≡ home.store
  pub host : IsHostHome d at
  pub fill : IsFill at from to m step
  pub wanting : (i : ℕ) → fill.lo ≤ i → i < fill.hi → IsWanting home m i

-- for the copy that lies so, needed indices are made readable on the host
abbrev pub IsHostServing : DirectoryView → Home → ℕ → ℕ → Machine → Step → Type 0
IsHostServing d home from to m step = IsHostAlloc d home from to m step ⊎ IsHostFill d home from to m step

-- why the copy that lies so takes a step for indices that are needed: they are filled from its own space, or made readable on the
-- host
abbrev pub IsLater : DirectoryView → Home → ℕ → ℕ → Machine → Step → Type 0
IsLater d home from to m step = IsFillBeside home from to m step ⊎ IsHostServing d home from to m step

-- why a call that makes the copy that lies so takes a step: it is made where there is none; or for indices that are needed
abbrev pub IsServingLater : DirectoryView → Home → ℕ → ℕ → Machine → Step → Type 0
IsServingLater d home from to m step = IsAlloc home m step ⊎ IsLater d home from to m step

-- why an acquire on a rank that leaves messages to do takes a step: as one that fills nothing, or for indices that are needed
abbrev pub IsDueLater : DirectoryView → Home → ℕ → ℕ → Machine → Step → Type 0
IsDueLater d home from to m step = IsYielding d home m step ⊎ IsLater d home from to m step

-- only indices from ≤ i < to of the copy were filled, each from a copy in its own space
abbrev pub AreFilledBeside : DirectoryView → DirectoryView → ℕ → ℕ → ℕ → Type 0
AreFilledBeside old new copy from to = (home : Home) → home_in (copy_at old copy) ≡ Some home → Traces (IsFillBeside home from to) old new

-- the steps that were noted are those for indices from ≤ i < to of the copy that are needed
abbrev pub AreServedLater : DirectoryView → DirectoryView → ℕ → ℕ → ℕ → Type 0
AreServedLater old new copy from to = (home : Home) → home_in (copy_at old copy) ≡ Some home → Traces (IsLater old home from to) old new

-- the steps that were noted make indices from ≤ i < to that the copy needs readable on the host
abbrev pub AreHosted : DirectoryView → DirectoryView → ℕ → ℕ → ℕ → Type 0
AreHosted old new copy from to = (home : Home) → home_in (copy_at old copy) ≡ Some home → Traces (IsHostServing old home from to) old new
