-- Places of containers, and the places round them.
use Rattle.std.specs.Prelude.{ℕ, zero, suc, ◌/◌, ◌%◌, ◌==◌, nat_le, Bool, true, false, ◌&&◌, List, [], ◌∷◌, ◌++◌, ℤ, pos, negsuc, ◌+ℤ◌, unsigned_abs, Option, Some, None}
use Rattle.std.specs.List.{list_any}
use Rattle.std.specs.Option.{option_map, option_and_then}
use Rattle.sk_base.specs.Shape.{cells_of}
use Rattle.sk_base.specs.declared.choice.EdgeMode.{EdgeMode}
use Rattle.sk_parts.specs.Edge.{edge_of}
use Rattle.sk_parts.specs.declared.edges.EdgePlace.{EdgePlace}
use Rattle.sk_parts.specs.declared.edges.EdgePlace.TheVariants as place

-- the coordinates of a row-major index
abbrev pub coordinates_of : (sizes : List ℕ) → (index : ℕ) → List ℕ
coordinates_of [] index = []
coordinates_of (size ∷ sizes) index = index / cells_of sizes ∷ coordinates_of sizes (index % cells_of sizes)

-- each distance is at most the overlap in its direction, and there are as many of them as directions
abbrev pub are_near : (overlaps : List ℕ) → (distances : List ℤ) → Bool
are_near [] [] = true
are_near (overlap ∷ overlaps) (distance ∷ distances) = nat_le (unsigned_abs distance) overlap && are_near overlaps distances
are_near overlaps distances = false

abbrev pub inside : EdgePlace → Option ℕ
inside (place.At index) = Some index
inside place.Pad = None

-- The coordinates of what stands at some distances from a place, by the edge mode in each direction; none where the pad
-- value stands there.
abbrev pub neighbour_of : EdgeMode → (sizes coordinates : List ℕ) → (distances : List ℤ) → Option (List ℕ)
neighbour_of mode (size ∷ sizes) (coordinate ∷ coordinates) (distance ∷ distances) =
    option_and_then (λ at. option_map (λ rest. at ∷ rest) (neighbour_of mode sizes coordinates distances))
    (inside (edge_of mode size (pos coordinate +ℤ distance)))
neighbour_of mode sizes coordinates distances = Some []

-- the distances from minus the overlap up to the overlap
abbrev pub distances_to : (overlap : ℕ) → List ℤ
distances_to zero = pos 0 ∷ []
distances_to (suc overlap) = negsuc overlap ∷ distances_to overlap ++ pos (suc overlap) ∷ []

abbrev pub is_at : Option ℕ → ℕ → Bool
is_at (Some index) other = index == other
is_at None other = false

-- a coordinate is that of some place which is near enough in its direction
abbrev pub is_reached : EdgeMode → (size overlap from to : ℕ) → Bool
is_reached mode size overlap from to =
    list_any (λ distance. is_at (inside (edge_of mode size (pos from +ℤ distance))) to) (distances_to overlap)

-- coordinates are those of some place round another one
abbrev pub are_reached : EdgeMode → (sizes overlaps from to : List ℕ) → Bool
are_reached mode [] overlaps from to = true
are_reached mode (size ∷ sizes) (overlap ∷ overlaps) (from ∷ rest) (to ∷ others) =
    is_reached mode size overlap from to && are_reached mode sizes overlaps rest others
are_reached mode sizes overlaps from to = false
