-- What a function is given for its parameters that are no scalars, and how its arguments are read in data.
use Rattle.std.specs.Prelude.{ℕ, zero, suc, ◌+◌, ◌-◌, ◌<◌, nat_lt, if◌then◌else◌, List, [], ◌∷◌, length, pos, Option, Some, None, IsSome, unwrap_or}
use Rattle.sk_arguments.specs.Arguments.{At, Given, Reading, Taken, element_index, shape_of, whole_of}
use Rattle.sk_base.specs.Shape.{cells_of}
use Rattle.sk_kernel.specs.Kernels.{Source, given_by}
use Rattle.sk_meaning.specs.Evaluation.{Argument, Place}
use Rattle.sk_tree.specs.declared.tree.ParamKind.{ParamKind}
use Rattle.sk_tree.specs.declared.tree.ParamKind.TheVariants.{Scalar, Index, Proxy, Region}
use Rattle.sk_vm.specs.declared.start.Taken.{Taken as MachineTaken}

-- the cells that data holds, and 0 at every other index
abbrev pub held_by : Source → Given
held_by source = given_by source (λ operand index. unwrap_or (source.held operand index) (pos 0))

-- How many slots stand before the operand of a container but for operands: an index, and the scalars that are uniform arguments.
abbrev pub skipped_by : (indices leading elements : ℕ) → ℕ
skipped_by indices leading elements = indices + (leading - elements)

-- what stands for a parameter that is no scalar: the place for an index, which stands first, and else an operand
abbrev pub other_in : Option Source → (place : List ℕ) → (indices skipped : ℕ) → (slot : ℕ) → Argument
other_in None place indices skipped slot = Place place
other_in (Some source) place indices skipped slot =
    if nat_lt slot indices then Place place else whole_of (held_by source) (slot - skipped)

-- an operand is there, and all its cells are held
pub record IsThere (source : Source) (operand : ℕ) : Type 0 where
  pub inside : operand < length source.shapes
  pub held : (index : ℕ) → index < cells_of (shape_of (held_by source) operand) → IsSome (source.held operand index)

abbrev pub IsThereIn : Option Source → (operand : ℕ) → Type 0
IsThereIn None operand = ⊥
IsThereIn (Some source) operand = IsThere source operand

-- the data has something for each scalar, some having been read before
abbrev pub CanRead : Source → Reading → At → Taken → List ParamKind → Type 0
CanRead source reading at taken [] = Unit {0}
CanRead source reading at taken (Index dimension ∷ kinds) = CanRead source reading at taken kinds
CanRead source reading at taken (Scalar ty ∷ kinds) = elim taken.elements [
  | suc fewer ↦
      IsSome (source.held taken.operands (element_index reading at taken.operands))
      × CanRead source reading at (record taken { elements = fewer; operands = suc taken.operands }) kinds
  | zero ↦
      (taken.uniforms < length source.uniforms)
      × CanRead source reading at (record taken { uniforms = suc taken.uniforms }) kinds
]
CanRead source reading at taken (Region dimension ty ∷ kinds) = CanRead source reading at (record taken { operands = suc taken.operands }) kinds
CanRead source reading at taken (Proxy dimension ty ∷ kinds) = CanRead source reading at (record taken { operands = suc taken.operands }) kinds

-- the same of how far the machine has come
abbrev pub taken_by : MachineTaken → Taken
taken_by taken = record { elements = taken.elements; operands = taken.operands; uniforms = taken.uniforms }
