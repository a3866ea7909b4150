-- From which copy an index is filled: from the readable copy of least number in the same space, or where there is none from the owner.
use Rattle.std.specs.Prelude.{◌≡◌, ◌≢◌, ℕ, ◌<◌, ◌≤◌, List, length, slice_index, Option, Some, None, ◌⊎◌}
use Rattle.sk_ranges.specs.declared.state.State.TheVariants.{Stale, Owner}
use Rattle.sk_copy_states.specs.declared.held.Held.{Held}
use Rattle.sk_copy_states.specs.Copies.{state_in}

-- a copy lies in the space
abbrev pub LiesIn : ℕ → Option Held → Type 0
LiesIn space None = ⊥
LiesIn space (Some held) = held.space ≡ space

-- the copy may be read at each of these indices
abbrev pub MayRead : Option Held → ℕ → ℕ → Type 0
MayRead copy lo hi = (i : ℕ) → lo ≤ i → i < hi → state_in copy i ≢ Stale

-- the copy is stale at each of these indices
abbrev pub AllStale : Option Held → ℕ → ℕ → Type 0
AllStale copy lo hi = (i : ℕ) → lo ≤ i → i < hi → state_in copy i ≡ Stale

-- the copy owns each of these indices
abbrev pub AllOwned : Option Held → ℕ → ℕ → Type 0
AllOwned copy lo hi = (i : ℕ) → lo ≤ i → i < hi → state_in copy i ≡ Owner

-- the copy with number id is the first of the listed ones that lies in the space and may be read at these indices
pub record IsNear (copies : ℕ → Option Held) (ids : List ℕ) (space lo hi id : ℕ) : Type 0 where
  pub at : ℕ
  pub inside : at < length ids
  pub here : slice_index ids at ≡ id
  pub lies : LiesIn space (copies id)
  pub readable : MayRead (copies id) lo hi
  pub earlier : (k : ℕ) → k < at → LiesIn space (copies (slice_index ids k)) → AllStale (copies (slice_index ids k)) lo hi

-- none of the listed copies that lie in the space may be read at any of these indices
abbrev pub NoneNear : (ℕ → Option Held) → List ℕ → ℕ → ℕ → ℕ → Type 0
NoneNear copies ids space lo hi = (k : ℕ) → k < length ids → LiesIn space (copies (slice_index ids k)) → AllStale (copies (slice_index ids k)) lo hi

-- one of the listed copies owns each of these indices
pub record IsOwnerOf (copies : ℕ → Option Held) (ids : List ℕ) (lo hi id : ℕ) : Type 0 where
  pub at : ℕ
  pub inside : at < length ids
  pub here : slice_index ids at ≡ id
  pub owns : AllOwned (copies id) lo hi

-- the listed copy from which these indices are filled in a space
abbrev pub IsSourceOf : (ℕ → Option Held) → List ℕ → ℕ → ℕ → ℕ → ℕ → Type 0
IsSourceOf copies ids space lo hi id =
    IsNear copies ids space lo hi id ⊎ (IsOwnerOf copies ids lo hi id × NoneNear copies ids space lo hi)
