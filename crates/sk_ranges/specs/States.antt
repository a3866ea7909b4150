-- The states of the indices of one copy, by index.
use Rattle.std.specs.Prelude.{◌≡◌, ◌≢◌, ℕ, ◌<◌, ◌≤◌, List, slice_index_or}
use Rattle.sk_ranges.specs.declared.state.State.{State}
use Rattle.sk_ranges.specs.declared.state.State.TheVariants.{Stale, Valid, Owner}

-- the state of each index, and how many changes of a range have their memory already
pub record StatesView : Type 0 where
  pub states : List State
  pub reserved : ℕ

-- the state at an index; an index past the end is Stale
abbrev pub state_at : List State → ℕ → State
state_at states i = slice_index_or states i Stale

-- exactly the indices lo ≤ i < hi got this state; every other index keeps its own
pub record SetsIn (old new : ℕ → State) (lo hi : ℕ) (state : State) : Type 0 where
  pub before : (i : ℕ) → i < lo → new i ≡ old i
  pub inside : (i : ℕ) → lo ≤ i → i < hi → new i ≡ state
  pub after : (i : ℕ) → hi ≤ i → new i ≡ old i

-- the state of an index that is filled if it is stale
abbrev pub filled : State → State
filled Stale = Valid
filled Valid = Valid
filled Owner = Owner

-- each index lo ≤ i < hi that was stale is valid now; every other index keeps its state
pub record FillsIn (old new : ℕ → State) (lo hi : ℕ) : Type 0 where
  pub before : (i : ℕ) → i < lo → new i ≡ old i
  pub inside : (i : ℕ) → lo ≤ i → i < hi → new i ≡ filled (old i)
  pub after : (i : ℕ) → hi ≤ i → new i ≡ old i

-- lo ≤ i < to is the longest run of this state that begins at lo and ends at hi or before
pub record IsRun (at : ℕ → State) (state : State) (lo to hi : ℕ) : Type 0 where
  pub some : lo < to
  pub inside : to ≤ hi
  pub each : (i : ℕ) → lo ≤ i → i < to → at i ≡ state
  pub longest : to < hi → at to ≢ state

-- from ≤ i < to is the first stale run among the indices lo ≤ i < hi, and as long as it can be there
pub record IsFirstMissing (at : ℕ → State) (lo hi from to : ℕ) : Type 0 where
  pub within : lo ≤ from
  pub earlier : (i : ℕ) → lo ≤ i → i < from → at i ≢ Stale
  pub run : IsRun at Stale from to hi

-- no index lo ≤ i < hi is stale
abbrev pub NoneMissing : (ℕ → State) → ℕ → ℕ → Type 0
NoneMissing at lo hi = (i : ℕ) → lo ≤ i → i < hi → at i ≢ Stale
