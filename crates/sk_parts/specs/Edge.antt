-- Reads at an index that may lie outside the indices 0..n.
use Rattle.std.specs.Prelude.{ℕ, ◌-◌, ◌<◌, min, ℤ, pos, negsuc, unsigned_abs, nat_lt, if◌then◌else◌, ⊤}
use Rattle.std.specs.Int.{int_rem_euclid}
use Rattle.sk_base.specs.declared.choice.EdgeMode.{EdgeMode}
use Rattle.sk_base.specs.declared.choice.EdgeMode.TheVariants as mode
use Rattle.sk_parts.specs.declared.edges.EdgePlace.{EdgePlace}
use Rattle.sk_parts.specs.declared.edges.EdgePlace.TheVariants as place

-- Duplicate takes the nearest index, Cyclic the index modulo n, and Pad no index where it lies outside. An index inside is itself.
abbrev pub edge_of : EdgeMode → ℕ → ℤ → EdgePlace
edge_of mode.Duplicate n (pos i) = place.At (min i (n - 1))
edge_of mode.Duplicate n (negsuc i) = place.At 0
edge_of mode.Cyclic n i = place.At (unsigned_abs (int_rem_euclid i (pos n)))
edge_of mode.Pad n (pos i) = if nat_lt i n then place.At i else place.Pad
edge_of mode.Pad n (negsuc i) = place.Pad

-- an index that is read is below n
abbrev pub IsWithin : ℕ → EdgePlace → Type 0
IsWithin n (place.At i) = i < n
IsWithin n place.Pad = ⊤
