-- Copies that give way.
use Rattle.std.specs.Prelude.{◌≡◌, ◌≢◌, ℕ, ◌+◌, ◌<◌, ◌≤◌, Option, Some, None, IfSome, IsSome, ◌⊎◌}
use Rattle.sk_ranges.specs.declared.state.State.TheVariants.{Owner}
use Rattle.sk_spaces.specs.declared.step.Step.{Step}
use Rattle.sk_spaces.specs.declared.step.Step.TheVariants.{Back, Free}
use Rattle.sk_spaces.specs.Blocks.{taken_in}
use Rattle.sk_spaces.specs.Machine.{Machine, Home}
use Rattle.sk_spaces.specs.Rules.{IsThere}
use Rattle.sk_spaces.specs.Spaces.{used_at}
use Rattle.sk_copy_states.specs.declared.held.Held.{Held}
use Rattle.sk_copy_states.specs.Copies.{KeepsStates, store_in, state_in, home_in, pins_in}
use Rattle.sk_coherence_laws.specs.Directory.{DirectoryView, copy_at, cells_of_copy}
use Rattle.sk_coherence_laws.specs.HostBlocks.{IsHostHome}
use Rattle.sk_coherence_laws.specs.Serves.{Serves, GrowsAt}
use Rattle.sk_coherence_laws.specs.Steps.{Traces, IsAlloc, StandsIn}

-- the copy owns none of these indices
abbrev pub OwnsNone : Option Held → ℕ → ℕ → Type 0
OwnsNone copy lo hi = (i : ℕ) → lo ≤ i → i < hi → state_in copy i ≢ Owner

-- the copy lies on a rank
abbrev pub IsFar : Option Held → Type 0
IsFar copy = IfSome (home_in copy) (λ home. 0 < home.space)

-- the copy lies in the space
abbrev pub IsIn : ℕ → Option Held → Type 0
IsIn space copy = IfSome (home_in copy) (λ home. home.space ≡ space)

-- the copy lies on the host
abbrev pub IsOnHost : Option Held → Type 0
IsOnHost copy = IfSome (home_in copy) (λ home. home.space ≡ 0)

-- a block to which cells of a copy go back: the host's block of an index that it owns
pub record IsBackHome (d : DirectoryView) (copy : ℕ) (home : Home) : Type 0 where
  pub store : store_in (copy_at d copy) ≡ Some home.store
  pub host : IsHostHome d home
  pub owns : state_in (copy_at d copy) host.index ≡ Owner

-- such a block is made
abbrev pub IsBackAlloc : DirectoryView → ℕ → Machine → Step → Type 0
IsBackAlloc d copy m step = (home : Home) × IsBackHome d copy home × IsAlloc home m step

-- cells of the copy go back to such a block
pub record IsBack (d : DirectoryView) (copy : ℕ) (m : Machine) (step : Step) : Type 0 where
  pub target : ℕ
  pub lo : ℕ
  pub hi : ℕ
  pub step_is : step ≡ Back copy target lo hi
  pub some : lo < hi
  pub target_home : IsThere (m.copies target) (IsBackHome d copy)

-- a copy in a space, of which so many cells are taken, is written back to the host and goes
pub record IsEviction (d : DirectoryView) (copy space used : ℕ) (m : Machine) (step : Step) : Type 0 where
  pub leaves : IsBackAlloc d copy m step ⊎ IsBack d copy m step ⊎ (step ≡ Free copy)
  pub stands : StandsIn space (m.copies copy)
  pub taken : m.used space ≡ used

-- the steps that were noted are those of an eviction of the copy
abbrev pub TracesEviction : DirectoryView → DirectoryView → ℕ → Type 0
TracesEviction old new copy =
    (space : ℕ) → 0 < space → IsIn space (copy_at old copy) → Traces (IsEviction old copy space (used_at old.spaces space)) old new

-- each copy that is made has a block to which cells of this one go back
abbrev pub MakesBack : DirectoryView → DirectoryView → ℕ → Type 0
MakesBack old new copy = (q : ℕ) → copy_at old q ≡ None → IfSome (home_in (copy_at new q)) (IsBackHome old copy)

-- each copy that is made has a block of the host
abbrev pub MakesHostBlocks : DirectoryView → DirectoryView → Type 0
MakesHostBlocks old new = (q : ℕ) → copy_at old q ≡ None → IfSome (home_in (copy_at new q)) (IsHostHome old)

-- each copy on a rank but one lies as before, with its states
abbrev pub KeepsFar : DirectoryView → DirectoryView → ℕ → Type 0
KeepsFar old new but =
    (q : ℕ) → q ≢ but → IsSome (copy_at old q) → IsFar (copy_at old q) → KeepsStates (copy_at old q) (copy_at new q)

-- each copy that is pinned on a rank lies as before, with its states
abbrev pub KeepsPinned : DirectoryView → DirectoryView → Type 0
KeepsPinned old new =
    (q : ℕ) → 0 < pins_in (copy_at old q) → IsFar (copy_at old q) → KeepsStates (copy_at old q) (copy_at new q)

-- the same, but for copies that lie so
abbrev pub KeepsPinnedBut : DirectoryView → DirectoryView → Home → Type 0
KeepsPinnedBut old new home =
    (q : ℕ) → home_in (copy_at old q) ≢ Some home → 0 < pins_in (copy_at old q) → IsFar (copy_at old q) → KeepsStates (copy_at old q) (copy_at new q)

-- room was made in a space: each copy on a rank that did not go lies as before, with its states; where the space is the host's, each
-- copy does
abbrev pub KeepsLeft : DirectoryView → DirectoryView → ℕ → Type 0
KeepsLeft old new space =
    (q : ℕ) → IsSome (copy_at old q) → IsSome (copy_at new q) → (space ≡ 0) ⊎ IsFar (copy_at old q) → KeepsStates (copy_at old q) (copy_at new q)

-- the same, but for the copy that lies so
abbrev pub KeepsLeftBut : DirectoryView → DirectoryView → Home → Type 0
KeepsLeftBut old new home =
    (q : ℕ) → home_in (copy_at old q) ≢ Some home → IsSome (copy_at old q) → IsSome (copy_at new q) → (home.space ≡ 0) ⊎ IsFar (copy_at old q)
    → KeepsStates (copy_at old q) (copy_at new q)

-- a copy, which lies where it did, handed cells back to the host: each index keeps its owner's cell, each copy stays, the copy owns no more than
-- before, and of the ranks' spaces as much is taken
pub record Retreats (old new : DirectoryView) (copy : ℕ) : Type 0 where
  pub home : home_in (copy_at new copy) ≡ home_in (copy_at old copy)
  pub serves : Serves old new
  pub stays : (q : ℕ) → IsSome (copy_at old q) → GrowsAt old new q
  pub others : KeepsFar old new copy
  pub made : MakesBack old new copy
  pub owns : (i : ℕ) → state_in (copy_at new copy) i ≡ Owner → state_in (copy_at old copy) i ≡ Owner
  pub used : (space : ℕ) → 0 < space → used_at new.spaces space ≡ used_at old.spaces space
  pub traced : TracesEviction old new copy

-- the copy is gone, and its cells are room again; each other copy stays, and may be read where it might be
pub record Evicts (old new : DirectoryView) (copy : ℕ) : Type 0 where
  pub gone : copy_at new copy ≡ None
  pub others : (q : ℕ) → q ≢ copy → IsSome (copy_at old q) → GrowsAt old new q
  pub used : (space : ℕ) → 0 < space → used_at new.spaces space + taken_in space (cells_of_copy old copy) ≡ used_at old.spaces space
