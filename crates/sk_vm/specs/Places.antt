-- Which parameters functions may have, and what is given to those that are no scalars.
use Rattle.std.specs.Prelude.{◌≡◌, ℕ, zero, suc, ◌<◌, ◌≤◌, ◌==◌, ◌||◌, Bool, true, false, if◌then◌else◌, List, [], ◌∷◌, length, All, ℤ, Option, Some, None, IsSomeAnd, unwrap_or, slice_get}
use Rattle.std.specs.List.{list_all}
use Rattle.sk_arguments.specs.Places.{coordinates_of}
use Rattle.sk_base.specs.Shape.{IsShape, cells_of}
use Rattle.sk_isa.specs.declared.object.Object.{Object}
use Rattle.sk_isa.specs.declared.object.Signature.{Signature}
use Rattle.sk_isa.specs.Soundness.{is_container}
use Rattle.sk_kernel.specs.Kernels.{Source}
use Rattle.sk_meaning.specs.Evaluation.{Argument, Value, Place, Whole, Neighbours}
use Rattle.sk_tree.specs.Parameters.{index_dimension, is_index_field, is_proxy_field, is_scalar, leading_scalars, scalars_then_proxies}
use Rattle.sk_tree.specs.declared.tree.ParamKind.{ParamKind}
use Rattle.sk_tree.specs.declared.tree.ParamKind.TheVariants.{Scalar, Index, Proxy, Region}

-- an index may stand first, then scalars, containers that are given whole, and scalars
abbrev pub takes_places : List ParamKind → Bool
takes_places (Index dimension ∷ kinds) = scalars_then_proxies kinds
takes_places kinds = scalars_then_proxies kinds

-- the parameters of each function stand in this order
abbrev pub TakesPlaces : Object → Type 0
TakesPlaces object = All (λ (signature : Signature). takes_places signature.slots ≡ true) object.signatures

-- an index may stand first, and all others are scalars
abbrev pub takes_columns : List ParamKind → Bool
takes_columns (Index dimension ∷ kinds) = list_all is_scalar kinds
takes_columns kinds = list_all is_scalar kinds

-- how many index parameters there are: one where there is a dimension
abbrev pub count_of : (index : Option ℕ) → ℕ
count_of (Some dimension) = 1
count_of None = 0

-- how many of the parameters are an index
abbrev pub indices_in : List ParamKind → ℕ
indices_in kinds = count_of (index_dimension kinds)

-- The arguments for parameters, by the numbers in their slots: one that is no scalar is given something else, whatever stands
-- in its slot.
abbrev pub arguments_with : List ParamKind → (other : ℕ → Argument) → (numbers : List ℤ) → List Argument
arguments_with [] other numbers = []
arguments_with (kind ∷ kinds) other [] = []
arguments_with (Scalar ty ∷ kinds) other (number ∷ numbers) = Value number ∷ arguments_with kinds (λ slot. other (suc slot)) numbers
arguments_with (Index dimension ∷ kinds) other (number ∷ numbers) = other 0 ∷ arguments_with kinds (λ slot. other (suc slot)) numbers
arguments_with (Proxy dimension ty ∷ kinds) other (number ∷ numbers) = other 0 ∷ arguments_with kinds (λ slot. other (suc slot)) numbers
arguments_with (Region dimension ty ∷ kinds) other (number ∷ numbers) = other 0 ∷ arguments_with kinds (λ slot. other (suc slot)) numbers

-- What an index is given: the place and the pair where a skeleton goes over pairs, and else the coordinates of the place in
-- the container in which places are counted.
abbrev pub counted_at : Source → (pairs : Bool) → (place pair : ℕ) → List ℕ
counted_at source pairs place pair = if pairs then place ∷ pair ∷ [] else coordinates_of (unwrap_or source.over []) place

-- The place lies in the container in which places are counted; over pairs nothing is asked of it.
abbrev pub IsCounted : Source → (pairs : Bool) → (place : ℕ) → Type 0
IsCounted source true place = Unit {0}
IsCounted source false place = IsSomeAnd source.over (λ sizes. IsShape sizes × (place < cells_of sizes))

-- Over pairs an index has two coordinates, and the first two scalars are elements.
abbrev pub ReadsPairs : (pairs : Bool) → (elements : ℕ) → List ParamKind → Type 0
ReadsPairs true elements (Index dimension ∷ kinds) = (dimension ≡ 2) × (elements ≡ 2) × (2 ≤ leading_scalars kinds)
ReadsPairs pairs elements kinds = Unit {0}

-- a place has one to four coordinates, one of which has this name
pub record HasField (place : List ℕ) (name : List ℕ) : Type 0 where
  pub some : 1 ≤ length place
  pub few : length place ≤ 4
  pub field : is_index_field (length place) name ≡ true

-- which coordinate has a name, by its first letter: `i`, `j`, `k` and `l`, or `row` and `col`
abbrev pub axis_of : (name : List ℕ) → ℕ
axis_of [] = 3
axis_of (letter ∷ letters) =
    if letter == 105 || letter == 114 then 0 else if letter == 106 || letter == 99 then 1 else if letter == 107 then 2 else 3

-- which side of a tensor a letter is: `i`, `j`, `k` or `l`
abbrev pub tensor_side : (letter : ℕ) → ℕ
tensor_side letter = if letter == 105 then 0 else if letter == 106 then 1 else if letter == 107 then 2 else 3

-- which side of a matrix begins with a letter: `rows` or `cols`
abbrev pub matrix_side : (letter : ℕ) → Option ℕ
matrix_side letter = if letter == 114 then Some 0 else if letter == 99 then Some 1 else None

-- which of a container's sizes has a name, by its sixth or its first letter; none where the name is that of all of them
abbrev pub side_of : (name : List ℕ) → Option ℕ
side_of name = elim (slice_get name 5) [
  | Some letter ↦ Some (tensor_side letter)
  | None ↦ elim (slice_get name 0) [ Some letter ↦ matrix_side letter | None ↦ None ]
]

-- an argument has a field of that name
abbrev pub FieldIn : Argument → (name : List ℕ) → Type 0
FieldIn (Value value) name = ⊥
FieldIn (Place place) name = HasField place name
FieldIn (Whole sizes cells) name = (1 ≤ length sizes) × (length sizes ≤ 4) × (is_proxy_field (length sizes) name ≡ true)
FieldIn (Neighbours overlaps at) name = ⊥

-- an argument is a container
abbrev pub IsWhole : Argument → Type 0
IsWhole (Value value) = ⊥
IsWhole (Place place) = ⊥
IsWhole (Whole sizes cells) = Unit {0}
IsWhole (Neighbours overlaps at) = ⊥

-- the slots of containers have a property
abbrev pub OfContainers : List ParamKind → (ℕ → Type 0) → Type 0
OfContainers params Has = (slot : ℕ) (kind : ParamKind) → slice_get params slot ≡ Some kind → is_container kind ≡ true → Has slot
