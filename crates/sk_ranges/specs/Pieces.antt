-- Pieces of equal state: each begins where the one before it ends.
use Rattle.std.specs.Prelude.{◌≢◌, ℕ, ◌<◌, List, [], ◌∷◌, map, Option, Some, ⊤, nat_lt, if◌then◌else◌}
use Rattle.std.specs.List.{range_with_len}
use Rattle.sk_ranges.specs.declared.state.State.{State}
use Rattle.sk_ranges.specs.declared.state.State.TheVariants.{Stale}
use Rattle.sk_ranges.specs.declared.pieces.Piece.{Piece}

-- where the last piece ends, if the first begins at start
abbrev pub end_of : ℕ → List Piece → ℕ
end_of start [] = start
end_of start (piece ∷ pieces) = end_of piece.end pieces

-- the state at an index: that of the first piece that ends above it
abbrev pub state_of : List Piece → ℕ → State
state_of [] i = Stale
state_of (piece ∷ pieces) i = if nat_lt i piece.end then piece.state else state_of pieces i

-- no piece is empty, and none has the state of the one before it; before is the state of what ends at start
abbrev pub AreTidy : ℕ → Option State → List Piece → Type 0
AreTidy start before [] = ⊤
AreTidy start before (piece ∷ pieces) =
    (start < piece.end) × (before ≢ Some piece.state) × AreTidy piece.end (Some piece.state) pieces

-- the state of the last piece, or what was before the first
abbrev pub last_of : Option State → List Piece → Option State
last_of before [] = before
last_of before (piece ∷ pieces) = last_of (Some piece.state) pieces

-- the states of all indices, from 0 on
abbrev pub states_of : List Piece → List State
states_of pieces = map (state_of pieces) (range_with_len 0 (end_of 0 pieces))
