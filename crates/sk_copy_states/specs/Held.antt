-- What a copy says of the indices of its store.
use Rattle.std.specs.Prelude.{◌≡◌, ℕ, ◌+◌, ◌-◌, ◌≤◌, length, nat_lt, if◌then◌else◌}
use Rattle.sk_ranges.specs.declared.state.State.{State}
use Rattle.sk_ranges.specs.declared.state.State.TheVariants.{Stale, Valid, Owner}
use Rattle.sk_ranges.specs.States.{state_at}
use Rattle.sk_spaces.specs.Machine.{Home, Mark, stale, valid, owner}
use Rattle.sk_copy_states.specs.declared.held.Held.{Held}

-- the state of an index of the store; an index outside the block is stale
abbrev pub state_of : Held → ℕ → State
state_of held i = if nat_lt i held.lo then Stale else state_at held.states.states (i - held.lo)

-- the same as the mark of a trace's machine
abbrev pub mark_of : State → Mark
mark_of Stale = stale
mark_of Valid = valid
mark_of Owner = owner

-- there is a state for each index of the block
pub record IsFit (held : Held) : Type 0 where
  pub ordered : held.lo ≤ held.hi
  pub states : held.lo + length held.states.states ≡ held.hi

-- where a copy lies
abbrev pub home_of : Held → Home
home_of held = record { store = held.store; space = held.space; lo = held.lo; hi = held.hi }

-- room for so many changes of its states
abbrev pub HasRoom : ℕ → Held → Type 0
HasRoom n held = n ≤ held.states.reserved

-- the same block, pinned as often as before, with room for as many messages
pub record SameBlock (old new : Held) : Type 0 where
  pub store : new.store ≡ old.store
  pub space : new.space ≡ old.space
  pub lo : new.lo ≡ old.lo
  pub hi : new.hi ≡ old.hi
  pub pins : new.pins ≡ old.pins
  pub expected : new.expected ≡ old.expected
  pub states : length new.states.states ≡ length old.states.states

-- a new copy of these indices: all stale, not pinned, and with room for so many changes
pub record IsFresh (store space lo hi room : ℕ) (held : Held) : Type 0 where
  pub home : home_of held ≡ record { store = store; space = space; lo = lo; hi = hi }
  pub pins : held.pins ≡ 0
  pub expected : held.expected ≡ 0
  pub fit : IsFit held
  pub stale : (i : ℕ) → state_of held i ≡ Stale
  pub ready : room ≤ held.states.reserved
