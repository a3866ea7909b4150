-- When a trace moves no cell and keeps no cell without need.
use Rattle.std.specs.Prelude.{◌≡◌, ◌≢◌, ℕ, ◌+◌, ◌-◌, ◌<◌, ◌≤◌, ◌==◌, Bool, true, false, not, ◌&&◌, ◌||◌, if◌then◌else◌, List, [], ◌∷◌, Some, None, IfSome, IsSomeAnd, ⊤}
use Rattle.std.specs.declared.option.Option.{Option}
use Rattle.sk_isa.specs.declared.object.Object.{Object}
use Rattle.sk_legality.specs.Legality.{after_states}
use Rattle.sk_spaces.specs.Machine.{Machine, MemoryLine, Message, Home, stale, live, delivered, start, is_within}
use Rattle.sk_spaces.specs.Rules.{after_by, after_all_by}
use Rattle.sk_spaces.specs.declared.step.Step.{Step}
use Rattle.sk_spaces.specs.declared.step.Step.TheVariants as line
use Rattle.sk_demand.specs.Reads.{reads}
use Rattle.sk_demand.specs.Retiring.{Retires}
use Rattle.sk_demand.specs.Versions.{no_versions}

-- ---- no cell is moved to where it may be read already

abbrev pub IsStale : Machine → (copy lo hi : ℕ) → Type 0
IsStale m copy lo hi = (index : ℕ) → lo ≤ index → index < hi → m.marks copy index ≡ stale

-- each index of a copy or of a message is stale where it goes
abbrev pub FillsStale : Machine → Step → List Step → Type 0
FillsStale m (line.Copy source target lo hi) later = IsStale m target lo hi
FillsStale m (line.Send message source target lo hi) later = IsStale m target lo hi
FillsStale m step later = ⊤

-- ---- what is moved is read where it went

-- the indices that are owed: they came to a copy, and were not read from it since then
abbrev pub Owed : Type 0
Owed = (copy index : ℕ) → Bool

abbrev pub nothing_owed : Owed
nothing_owed copy index = false

-- the step brings this index to this copy
abbrev pub brings : Machine → Step → Owed
brings m (line.Copy source target lo hi) copy index = copy == target && is_within lo hi index
brings m (line.Deliver message) copy index = elim (m.messages message) [
  | Some sent ↦ copy == sent.target && is_within sent.lo sent.hi index
  | None ↦ false
]
brings m step copy index = false

-- what is read is owed no more, and what is brought is owed
abbrev pub owed_after : Object → Machine → Step → Owed → Owed
owed_after object m step owed copy index = (owed copy index && not (reads object m step copy index)) || brings m step copy index

abbrev pub OwesNothing : Owed → Type 0
OwesNothing owed = (copy index : ℕ) → owed copy index ≡ false

abbrev pub AreDelivered : Machine → Type 0
AreDelivered m = (number : ℕ) → IfSome (m.messages number) (λ (message : Message). message.fate ≡ delivered)

-- ---- a copy whose cells went back goes

-- the copy is freed before the next kernel, where one comes
abbrev pub is_freed_before_kernel : (copy : ℕ) → List Step → Bool
is_freed_before_kernel copy [] = true
is_freed_before_kernel copy (line.Free other ∷ later) = other == copy || is_freed_before_kernel copy later
is_freed_before_kernel copy (line.Kernel call kind part lo hi out trapped inputs ∷ later) = false
is_freed_before_kernel copy (step ∷ later) = is_freed_before_kernel copy later

-- the copy whose cells go back is freed before the next kernel
abbrev pub FreesBacked : Machine → Step → List Step → Type 0
FreesBacked m (line.Back source target lo hi) later = is_freed_before_kernel source later ≡ true
FreesBacked m step later = ⊤

-- ---- a copy that may be read goes only where there is no room, and no copy is there twice

-- how many cells the next copy that is made in a space has
abbrev pub next_room : (space : ℕ) → List Step → Option ℕ
next_room space [] = None
next_room space (line.Alloc copy store other lo hi ∷ later) = if other == space then Some (hi - lo) else next_room space later
next_room space (step ∷ later) = next_room space later

-- the next copy that is made in a space would find too little room beside all copies that are there now
abbrev pub LacksRoom : Machine → (space : ℕ) → List Step → Type 0
LacksRoom m space later = IsSomeAnd m.memory (λ (told : MemoryLine).
    IsSomeAnd (next_room space later) (λ cells. told.capacity < m.used space + cells))

-- A copy with an index that may be read is freed only outside the host's space, and only for want of room. No copy is made
-- where there is one of the same store, space and range.
abbrev pub Evicts : Machine → Step → List Step → Type 0
Evicts m (line.Free copy) later =
    (home : Home) (index : ℕ) → m.copies copy ≡ live home → m.marks copy index ≢ stale → (home.space ≢ 0) × LacksRoom m home.space later
Evicts m (line.Alloc copy store space lo hi) later =
    (other : ℕ) → m.copies other ≢ live (record { store = store; space = space; lo = lo; hi = hi })
Evicts m step later = ⊤

-- What a kernel does is open here, as in the rules of a trace: its marks are looked at, and its cells are not.
module _ (effect : Machine → Step → Machine) where
  -- this holds at each step, of the memories before it, of the step, and of the steps behind it
  abbrev pub Throughout : (P : Machine → Step → List Step → Type 0) → Machine → List Step → Type 0
  Throughout P m [] = ⊤
  Throughout P m (step ∷ later) = P m step later × Throughout P (after_by effect m step) later

  -- a step takes an index from a copy: it becomes stale there, or the copy goes
  abbrev pub Takes : Machine → Step → (copy index : ℕ) → Type 0
  Takes m (line.Free freed) copy index = copy ≡ freed
  Takes m step copy index = (m.marks copy index ≢ stale) × ((after_by effect m step).marks copy index ≡ stale)

  -- what is owed behind some steps
  abbrev pub owed_of : Object → Machine → Owed → List Step → Owed
  owed_of object m owed [] = owed
  owed_of object m owed (step ∷ later) = owed_of object (after_by effect m step) (owed_after object m step owed) later

  -- no index is taken from a copy while it is owed
  abbrev pub TakesNoneOwed : Object → Machine → Owed → List Step → Type 0
  TakesNoneOwed object m owed [] = ⊤
  TakesNoneOwed object m owed (step ∷ later) =
      ((copy index : ℕ) → Takes m step copy index → owed_after object m step owed copy index ≡ false)
      × TakesNoneOwed object (after_by effect m step) (owed_after object m step owed) later

  -- so it is from the first step on, and at the end nothing is owed and every message was delivered
  pub record Settles (object : Object) (steps : List Step) : Type 0 where
    pub taken : TakesNoneOwed object start nothing_owed steps
    pub owed : OwesNothing (owed_of object start nothing_owed steps)
    pub arrived : AreDelivered (after_all_by effect start steps)

  pub record IsThriftyBy (object : Object) (steps : List Step) : Type 0 where
    pub fills : Throughout FillsStale start steps
    pub settles : Settles object steps
    pub backs : Throughout FreesBacked start steps
    pub retires : Retires effect start no_versions steps
    pub evicts : Throughout Evicts start steps

-- A thrifty trace: only stale indices are filled; what came to a copy is read from it before it is lost; a copy whose cells went
-- back goes; recorded versions are kept by tiles, each no longer than it is needed; and no copy goes that there is room for. It
-- is a matter of states, as legality is.
abbrev pub IsThrifty : Object → List Step → Type 0
IsThrifty = IsThriftyBy after_states
