-- Copies by number: what a look-up of a number says.
use Rattle.std.specs.Prelude.{◌≡◌, ◌≢◌, ℕ, ℤ, ◌+◌, ◌≤◌, ◌<◌, List, length, slice_index, Option, Some, None, IfSome, pos}
use Rattle.std.specs.Ordering.{nat_cmp}
use Rattle.std.specs.BTreeMap.{is_at}
use Rattle.std.specs.Map.{lookup}
use Rattle.sk_ranges.specs.declared.state.State.{State}
use Rattle.sk_ranges.specs.declared.state.State.TheVariants.{Stale, Valid, Owner}
use Rattle.sk_ranges.specs.States.{SetsIn, FillsIn}
use Rattle.sk_spaces.specs.Machine.{Home}
use Rattle.sk_spaces.specs.Blocks.{BlockView, cell_of}
use Rattle.sk_copy_states.specs.declared.held.Held.{Held}
use Rattle.sk_copy_states.specs.Held.{state_of, home_of, IsFit, HasRoom}

abbrev pub held_in : List (ℕ × Held) → ℕ → Option Held
held_in copies id = lookup (is_at (nat_cmp id)) copies

abbrev pub state_in : Option Held → ℕ → State
state_in None i = Stale
state_in (Some held) i = state_of held i

abbrev pub cell_in : Option BlockView → ℕ → ℤ
cell_in None i = pos 0
cell_in (Some block) i = cell_of block i

abbrev pub home_in : Option Held → Option Home
home_in None = None
home_in (Some held) = Some (home_of held)

abbrev pub pins_in : Option Held → ℕ
pins_in None = 0
pins_in (Some held) = held.pins

-- for how many messages a copy has room besides other changes, those in flight and those that are not sent yet
abbrev pub expected_in : Option Held → ℕ
expected_in None = 0
expected_in (Some held) = held.expected

-- how many changes of its states a copy has room for
abbrev pub room_in : Option Held → ℕ
room_in None = 0
room_in (Some held) = held.states.reserved

abbrev pub home_store : Option Home → Option ℕ
home_store None = None
home_store (Some home) = Some home.store

-- the store of a copy
abbrev pub store_in : Option Held → Option ℕ
store_in copy = home_store (home_in copy)

-- the copy is there, and the indices lo ≤ i < hi are among those of its block
abbrev pub ReachesIn : Option Held → ℕ → ℕ → Type 0
ReachesIn copy lo hi = IfSome copy (λ held. (held.lo ≤ lo) × (hi ≤ held.hi))

abbrev pub IsReady : ℕ → Option Held → Type 0
IsReady n copy = IfSome copy (λ held. IsFit held × HasRoom n held)

-- exactly these indices of the copy got this state, which took the room of one change at most; its block, its pins and its
-- room for messages are as before
pub record SetsAt (old new : Option Held) (lo hi : ℕ) (state : State) : Type 0 where
  pub home : home_in new ≡ home_in old
  pub pins : pins_in new ≡ pins_in old
  pub expected : expected_in new ≡ expected_in old
  pub fit : IfSome old IsFit → IfSome new IsFit
  pub room : room_in old ≤ room_in new + 1
  pub states : SetsIn (state_in old) (state_in new) lo hi state

-- copy c owns these indices now: the other copies of its store are stale there, and those of other stores are as before
pub record OwnsAlone (old new : ℕ → Option Held) (c lo hi : ℕ) : Type 0 where
  pub own : SetsAt (old c) (new c) lo hi Owner
  pub fellows : (q : ℕ) → q ≢ c → store_in (old q) ≡ store_in (old c) → SetsAt (old q) (new q) lo hi Stale
  pub others : (q : ℕ) → store_in (old q) ≢ store_in (old c) → new q ≡ old q

-- every copy of the store is stale at these indices, and those of other stores are as before
pub record StalesAll (old new : ℕ → Option Held) (store lo hi : ℕ) : Type 0 where
  pub staled : (q : ℕ) → store_in (old q) ≡ Some store → SetsAt (old q) (new q) lo hi Stale
  pub others : (q : ℕ) → store_in (old q) ≢ Some store → new q ≡ old q

-- the copy with one number changes, and no other
pub record ChangesCopy (old new : List (ℕ × Held)) (id : ℕ) (copy : Option Held) : Type 0 where
  pub here : held_in new id ≡ copy
  pub others : (q : ℕ) → q ≢ id → held_in new q ≡ held_in old q

-- no number stands twice in the list
abbrev pub AreDistinct : List ℕ → Type 0
AreDistinct ids = (j k : ℕ) → j < k → k < length ids → slice_index ids j ≢ slice_index ids k

-- the copy has its block, its states and its room for messages as before, and no less room for changes
pub record KeepsStates (old new : Option Held) : Type 0 where
  pub home : home_in new ≡ home_in old
  pub expected : expected_in new ≡ expected_in old
  pub fit : IfSome old IsFit → IfSome new IsFit
  pub room : room_in old ≤ room_in new
  pub states : (i : ℕ) → state_in new i ≡ state_in old i

-- the copy `to` owns indices now that the copy `from` owned, which is valid there; every other copy is as before
pub record HandsOver (old new : ℕ → Option Held) (from to lo hi : ℕ) : Type 0 where
  pub target : SetsAt (old to) (new to) lo hi Owner
  pub source : SetsAt (old from) (new from) lo hi Valid
  pub others : (q : ℕ) → q ≢ to → q ≢ from → new q ≡ old q

-- a copy has room for so many changes besides its room for messages, if it is there
abbrev pub HasRoomIn : ℕ → Option Held → Type 0
HasRoomIn n copy = IfSome copy (λ held. n + held.expected ≤ held.states.reserved)

-- the copy has room for so many messages more; it has its block, its states and its pins as before, and no less room for other
-- changes
pub record ExpectsMore (more : ℕ) (old new : Option Held) : Type 0 where
  pub home : home_in new ≡ home_in old
  pub pins : pins_in new ≡ pins_in old
  pub expected : expected_in new ≡ expected_in old + more
  pub fit : IfSome old IsFit → IfSome new IsFit
  pub room : room_in old ≤ room_in new
  pub states : (i : ℕ) → state_in new i ≡ state_in old i

-- a message came: exactly those of these indices that were stale are valid now, which took the room of one change at most; the
-- copy's block and its pins are as before
pub record FillsAt (old new : Option Held) (lo hi : ℕ) : Type 0 where
  pub home : home_in new ≡ home_in old
  pub pins : pins_in new ≡ pins_in old
  pub expected : expected_in new + 1 ≡ expected_in old
  pub fit : IfSome old IsFit → IfSome new IsFit
  pub room : room_in old ≤ room_in new + 1
  pub states : FillsIn (state_in old) (state_in new) lo hi

-- a copy of the store lies so, with all of its block among the indices lo ≤ i < hi
abbrev pub LiesAmong : ℕ → ℕ → ℕ → Option Home → Type 0
LiesAmong store lo hi None = ⊥
LiesAmong store lo hi (Some home) = (home.store ≡ store) × (lo ≤ home.lo) × (home.hi ≤ hi)
