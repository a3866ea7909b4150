-- What a function is given at a place, by its parameters, and which cells it may read there.
use Rattle.std.specs.Prelude.{ℕ, zero, suc, ◌==◌, nat_lt, Bool, true, false, ◌&&◌, if◌then◌else◌, List, [], ◌∷◌, ◌++◌, map, ℤ, pos, Option, Some, None, Result, Ok, Err, slice_get, slice_index_or, unwrap_or}
use Rattle.sk_base.specs.Shape.{cells_of, flat_of}
use Rattle.sk_base.specs.declared.number.Trap.{Trap}
use Rattle.sk_base.specs.declared.number.Trap.TheVariants.{Index as OutOfRange}
use Rattle.sk_base.specs.declared.number.Ty.{Ty}
use Rattle.sk_arguments.specs.Places.{coordinates_of, are_near, neighbour_of, are_reached}
use Rattle.sk_meaning.specs.Evaluation.{Argument, Value, Place, Whole, Neighbours}
use Rattle.sk_tree.specs.declared.settings.Settings.{Settings}
use Rattle.sk_tree.specs.declared.tree.ParamKind.{ParamKind}
use Rattle.sk_tree.specs.declared.tree.ParamKind.TheVariants.{Scalar, Index, Proxy, Region}

-- What a call works on: a cell of each operand at each index, the sizes of each operand, the uniform arguments, and the
-- sizes of the container in which indices are counted, where there is one. Operands are the element or region arguments in
-- order, and then the containers that are given whole.
pub record Given : Type 0 where
  pub cells : ℕ → ℕ → ℤ
  pub shapes : List (List ℕ)
  pub uniforms : List ℤ
  pub over : Option (List ℕ)

-- How a function reads its parameters: so many of the first scalars are elements; the second of two is read at the pair
-- where a skeleton goes over pairs; and how far, and over which edges, a region reaches.
pub record Reading : Type 0 where
  pub elements : ℕ
  pub pairs : Bool
  pub settings : Settings

-- where a function is evaluated: a place, and the place in the second operand where a skeleton goes over pairs
pub record At : Type 0 where
  pub place : ℕ
  pub pair : ℕ

-- how many parameters were given their arguments so far: elements that are left, operands and uniforms that are taken
pub record Taken : Type 0 where
  pub elements : ℕ
  pub operands : ℕ
  pub uniforms : ℕ

abbrev pub shape_of : Given → (operand : ℕ) → List ℕ
shape_of given operand = unwrap_or (slice_get given.shapes operand) []

-- the index at which an element operand is read
abbrev pub element_index : Reading → At → (operand : ℕ) → ℕ
element_index reading at operand = if reading.pairs && operand == 1 then at.pair else at.place

-- the coordinates of the place that is computed
abbrev pub place_of : Reading → Given → At → List ℕ
place_of reading given at =
    if reading.pairs then at.place ∷ at.pair ∷ [] else coordinates_of (unwrap_or given.over []) at.place

-- how far a region of so many directions reaches in each
abbrev pub reach_of : (dimension : ℕ) → Settings → List ℕ
reach_of (suc zero) settings = settings.overlap.0 ∷ []
reach_of dimension settings = settings.overlap.0 ∷ settings.overlap.1 ∷ []

-- the cell at coordinates, or the pad value where there are none
abbrev pub padded : Given → (operand : ℕ) → (pad : ℤ) → Option (List ℕ) → ℤ
padded given operand pad None = pad
padded given operand pad (Some coordinates) =
    given.cells operand (unwrap_or (flat_of (shape_of given operand) (map pos coordinates)) 0)

-- what stands at some distances from a place of an operand; farther than the overlap is a trap
abbrev pub neighbour : Settings → Given → (operand place : ℕ) → (overlaps : List ℕ) → (distances : List ℤ) → Result ℤ Trap
neighbour settings given operand place overlaps distances =
    if are_near overlaps distances then
    Ok (padded given operand settings.pad
    (neighbour_of settings.edge (shape_of given operand) (coordinates_of (shape_of given operand) place) distances))
    else Err OutOfRange

-- the first so many cells of an operand, in order
abbrev pub first_cells : (cells : ℕ → ℤ) → (count : ℕ) → List ℤ
first_cells cells zero = []
first_cells cells (suc count) = first_cells cells count ++ cells count ∷ []

-- all cells of an operand, in row-major order
abbrev pub whole_of : Given → (operand : ℕ) → Argument
whole_of given operand = Whole (shape_of given operand) (first_cells (given.cells operand) (cells_of (shape_of given operand)))

abbrev pub neighbours_of : Reading → Given → At → (dimension operand : ℕ) → Argument
neighbours_of reading given at dimension operand =
    let overlaps : List ℕ = reach_of dimension reading.settings in
    Neighbours overlaps (neighbour reading.settings given operand at.place overlaps)

-- The arguments for parameters, some having been given theirs before.
abbrev pub arguments_after : Reading → Given → At → Taken → List ParamKind → List Argument
arguments_after reading given at taken [] = []
arguments_after reading given at taken (Index dimension ∷ kinds) =
    Place (place_of reading given at) ∷ arguments_after reading given at taken kinds
arguments_after reading given at taken (Scalar ty ∷ kinds) = elim taken.elements [
  | suc fewer ↦
      Value (given.cells taken.operands (element_index reading at taken.operands))
      ∷ arguments_after reading given at (record taken { elements = fewer; operands = suc taken.operands }) kinds
  | zero ↦
      Value (slice_index_or given.uniforms taken.uniforms (pos 0))
      ∷ arguments_after reading given at (record taken { uniforms = suc taken.uniforms }) kinds
]
arguments_after reading given at taken (Region dimension ty ∷ kinds) =
    neighbours_of reading given at dimension taken.operands
    ∷ arguments_after reading given at (record taken { operands = suc taken.operands }) kinds
arguments_after reading given at taken (Proxy dimension ty ∷ kinds) =
    whole_of given taken.operands ∷ arguments_after reading given at (record taken { operands = suc taken.operands }) kinds

-- the arguments of a function with these parameters at a place
abbrev pub arguments_of : Reading → List ParamKind → Given → At → List Argument
arguments_of reading kinds given at =
    arguments_after reading given at (record { elements = reading.elements; operands = 0; uniforms = 0 }) kinds

-- the parameters that operands are given for, in order
abbrev pub operand_kinds : (elements : ℕ) → List ParamKind → List ParamKind
operand_kinds elements [] = []
operand_kinds elements (Index dimension ∷ kinds) = operand_kinds elements kinds
operand_kinds (suc fewer) (Scalar ty ∷ kinds) = Scalar ty ∷ operand_kinds fewer kinds
operand_kinds zero (Scalar ty ∷ kinds) = operand_kinds zero kinds
operand_kinds elements (Region dimension ty ∷ kinds) = Region dimension ty ∷ operand_kinds elements kinds
operand_kinds elements (Proxy dimension ty ∷ kinds) = Proxy dimension ty ∷ operand_kinds elements kinds

-- the types of the uniform arguments: of the scalars behind the elements
abbrev pub uniform_types : (elements : ℕ) → List ParamKind → List Ty
uniform_types elements [] = []
uniform_types (suc fewer) (Scalar ty ∷ kinds) = uniform_types fewer kinds
uniform_types zero (Scalar ty ∷ kinds) = ty ∷ uniform_types zero kinds
uniform_types elements (Index dimension ∷ kinds) = uniform_types elements kinds
uniform_types elements (Region dimension ty ∷ kinds) = uniform_types elements kinds
uniform_types elements (Proxy dimension ty ∷ kinds) = uniform_types elements kinds

-- which indices of an operand of a kind may be read at a place
abbrev pub reads_kind : Reading → (shape : List ℕ) → At → (operand : ℕ) → ParamKind → (index : ℕ) → Bool
reads_kind reading shape at operand (Scalar ty) index = index == element_index reading at operand
reads_kind reading shape at operand (Region dimension ty) index =
    are_reached reading.settings.edge shape (reach_of dimension reading.settings) (coordinates_of shape at.place) (coordinates_of shape index)
reads_kind reading shape at operand (Proxy dimension ty) index = nat_lt index (cells_of shape)
reads_kind reading shape at operand (Index dimension) index = false

-- Which cells a function may read at a place: its elements, what its region can reach, and all of each container that is
-- given whole.
abbrev pub reads_of : Reading → List ParamKind → (shapes : List (List ℕ)) → At → (operand index : ℕ) → Bool
reads_of reading kinds shapes at operand index = elim (slice_get (operand_kinds reading.elements kinds) operand) [
  | Some kind ↦ reads_kind reading (unwrap_or (slice_get shapes operand) []) at operand kind index
  | None ↦ false
]
