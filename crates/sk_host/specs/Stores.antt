-- The containers that the machine keeps, by their numbers.
use Rattle.std.specs.Prelude.{◌≡◌, ℕ, Bool, true, false, List, replicate, ℤ, pos, Option, Some, None, option_map, set, slice_index_or}
use Rattle.sk_base.specs.Arithmetic.{wrapped}
use Rattle.sk_base.specs.Shape.{cells_of, flat_of, shape_of}
use Rattle.sk_base.specs.declared.number.Ty.{Ty}
use Rattle.sk_world.specs.World.{Container, World, container_in}

-- what is kept of a container: the type of its elements, its sizes and its cells
pub record Kept : Type 0 where
  pub ty : Ty
  pub sizes : List ℕ
  pub cells : List ℤ

abbrev pub kept_of : Container → Kept
kept_of container = record { ty = container.ty; sizes = container.sizes; cells = container.cells }

-- a new container with these sizes, where they are a shape, and a cell everywhere
abbrev pub made_of : Ty → (sizes : List ℤ) → (fill : ℤ) → Option Kept
made_of ty sizes fill =
    option_map (λ shape. record { ty = ty; sizes = shape; cells = replicate (cells_of shape) (wrapped ty fill) }) (shape_of sizes)

-- the element of a container at a place
abbrev pub element_of : Kept → (place : List ℤ) → Option ℤ
element_of kept place = option_map (λ index. slice_index_or kept.cells index (pos 0)) (flat_of kept.sizes place)

-- a container with a new element at an index
abbrev pub with_cell : Kept → (index : ℕ) → ℤ → Kept
with_cell kept index value = record kept { cells = set kept.cells index (wrapped kept.ty value) }

-- A container may be written at a place, and then has the new element there; where there is no such place it stays.
abbrev pub IsPoked : (before : Kept) → (place : List ℤ) → ℤ → (was_written : Bool) → (now : Kept) → Type 0
IsPoked before place value true now = (index : ℕ) × (flat_of before.sizes place ≡ Some index) × (now ≡ with_cell before index value)
IsPoked before place value false now = (flat_of before.sizes place ≡ None) × (now ≡ before)

-- what is kept under a number
abbrev pub kept_at : List (Option Kept) → (number : ℕ) → Option Kept
kept_at store number = slice_index_or store number None

-- for each number the store keeps what the world has
abbrev pub Mirrors : List (Option Kept) → World → Type 0
Mirrors store world = (number : ℕ) → kept_at store number ≡ option_map kept_of (container_in world number)
