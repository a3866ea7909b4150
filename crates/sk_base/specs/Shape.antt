-- Shapes: lists of sizes, and the row-major order of places.
use Rattle.std.specs.Prelude.{ℕ, ◌+◌, ◌*◌, ◌^◌, ◌≤◌, Bool, ◌&&◌, List, [], ◌∷◌, length, All, ℤ, pos, negsuc, ◌≤ℤ◌, Option, Some, None, nat_lt, nat_le, option_map, option_and_then, if◌then◌else◌}
use Rattle.std.specs.List.{list_all}

-- how many cells a container with these sizes has
abbrev pub cells_of : List ℕ → ℕ
cells_of [] = 1
cells_of (size ∷ sizes) = size * cells_of sizes

-- one to four sizes, each and all together at most 2^24
pub record IsShape (sizes : List ℕ) : Type 0 where
  pub some : 1 ≤ length sizes
  pub few : length sizes ≤ 4
  pub each : All (λ size. size ≤ 2 ^ 24) sizes
  pub product : cells_of sizes ≤ 2 ^ 24

-- one to four sizes from 0 to 2^24, whatever their product
pub record AreSizes (sizes : List ℤ) : Type 0 where
  pub some : 1 ≤ length sizes
  pub few : length sizes ≤ 4
  pub each : All (λ size. (pos 0 ≤ℤ size) × (size ≤ℤ pos (2 ^ 24))) sizes

-- `IsShape` as a test
abbrev pub is_shape : List ℕ → Bool
is_shape sizes = nat_le 1 (length sizes) && nat_le (length sizes) 4 && list_all (λ size. nat_le size (2 ^ 24)) sizes && nat_le (cells_of sizes) (2 ^ 24)

-- the sizes as numbers, or none where one is negative
abbrev pub sizes_of : List ℤ → Option (List ℕ)
sizes_of [] = Some []
sizes_of (pos size ∷ sizes) = option_map (λ rest. size ∷ rest) (sizes_of sizes)
sizes_of (negsuc size ∷ sizes) = None

-- the shape with these sizes, or none where there is no such shape
abbrev pub shape_of : List ℤ → Option (List ℕ)
shape_of sizes = option_and_then (λ shape. if is_shape shape then Some shape else None) (sizes_of sizes)

-- the row-major index of a place after the coordinates that are read, or none where the counts differ or a coordinate is out of range
abbrev pub flat_from : ℕ → List ℕ → List ℤ → Option ℕ
flat_from before [] [] = Some before
flat_from before (size ∷ sizes) (pos at ∷ place) = if nat_lt at size then flat_from (before * size + at) sizes place else None
flat_from before _ _ = None

-- the row-major index of a place, or none where the counts differ or a coordinate is out of range
abbrev pub flat_of : List ℕ → List ℤ → Option ℕ
flat_of sizes place = flat_from 0 sizes place
