-- The two sides of a range whose state is being changed.
use Rattle.std.specs.Prelude.{◌≡◌, ◌≢◌, ℕ, ◌<◌, ◌≤◌, ◌++◌, List, take, drop, Option, Some, None, option_to_list}
use Rattle.sk_ranges.specs.declared.state.State.{State}
use Rattle.sk_ranges.specs.declared.pieces.Piece.{Piece}
use Rattle.sk_ranges.specs.declared.change.Side.{Side}
use Rattle.sk_ranges.specs.Pieces.{AreTidy, end_of, last_of, state_of}
use Rattle.sk_ranges.specs.States.{filled}

-- the pieces before the left side's place, and its own
abbrev pub pieces_before : List Piece → Side → List Piece
pieces_before pieces side = take side.place pieces ++ option_to_list side.piece

-- the right side's own piece, and those from its place on
abbrev pub pieces_after : List Piece → Side → List Piece
pieces_after pieces side = option_to_list side.piece ++ drop side.place pieces

-- left has the pieces before the range at lo, up to where the run of this state that ends at lo begins
pub record IsLeft (pieces : List Piece) (lo : ℕ) (state : State) (left : List Piece) : Type 0 where
  pub tidy : AreTidy 0 None left
  pub until : end_of 0 left ≤ lo
  pub other : last_of None left ≢ Some state
  pub same : (i : ℕ) → i < end_of 0 left → state_of left i ≡ state_of pieces i
  pub joined : (i : ℕ) → end_of 0 left ≤ i → i < lo → state_of pieces i ≡ state

-- right has the pieces after the range that ends at hi, behind a piece with this state that ends at hi or later
pub record IsRight (pieces : List Piece) (hi : ℕ) (state : State) (right : List Piece) : Type 0 where
  pub tidy : (start : ℕ) (before : Option State) → start < hi → before ≢ Some state → AreTidy start before right
  pub ends : (start : ℕ) → end_of start right ≡ end_of 0 pieces
  pub within : (i : ℕ) → i < hi → state_of right i ≡ state
  pub beyond : (i : ℕ) → hi ≤ i → state_of right i ≡ state_of pieces i

-- left has the pieces up to an index, and they are filled from lo on; where lo is that index, they are as they were
pub record IsFilled (pieces : List Piece) (lo to : ℕ) (left : List Piece) : Type 0 where
  pub tidy : AreTidy 0 None left
  pub ends : end_of 0 left ≡ to
  pub before : (i : ℕ) → i < lo → state_of left i ≡ state_of pieces i
  pub inside : (i : ℕ) → lo ≤ i → i < to → state_of left i ≡ filled (state_of pieces i)

-- new has the pieces of old, and the piece from where they end
pub record IsAdded (old new : List Piece) (piece : Piece) : Type 0 where
  pub tidy : AreTidy 0 None new
  pub ends : end_of 0 new ≡ piece.end
  pub before : (i : ℕ) → i < end_of 0 old → state_of new i ≡ state_of old i
  pub inside : (i : ℕ) → end_of 0 old ≤ i → i < piece.end → state_of new i ≡ piece.state
