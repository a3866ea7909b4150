-- What a Map of scalars computes, from what it is given.
use Rattle.std.specs.Prelude.{◌≡◌, ℕ, true, List, [], ◌∷◌, length, map, drop, All, ℤ, Option, Some, Result, Ok, Err}
use Rattle.std.specs.List.{list_all}
use Rattle.std.specs.declared.vec.Vec.{Vec}
use Rattle.sk_arguments.specs.Arguments.{Given, operand_kinds}
use Rattle.sk_base.specs.Arithmetic.{InRange}
use Rattle.sk_base.specs.Shape.{IsShape, cells_of}
use Rattle.sk_base.specs.declared.number.Trap.{Trap}
use Rattle.sk_formula.specs.Elements.{mapped}
use Rattle.sk_host.specs.Stores.{Kept, kept_at}
use Rattle.sk_isa.specs.Objects.{function_at, signature_at}
use Rattle.sk_isa.specs.Soundness.{is_scalar}
use Rattle.sk_isa.specs.declared.object.Object.{Object}
use Rattle.sk_isa.specs.declared.object.Plan.{Plan}
use Rattle.sk_kernel.specs.Kernels.{Meaning}
use Rattle.sk_kernel.specs.declared.kernel.RunTrap.{RunTrap}
use Rattle.sk_tree.specs.declared.tree.ParamKind.{ParamKind}
use Rattle.sk_tree.specs.declared.tree.ParamKind.TheVariants.{Scalar}
use Rattle.sk_tree.specs.declared.tree.Skeleton.TheVariants.{Map}

-- cells are the values at so many places, or there is the trap at the least place
abbrev pub IsMap : {Z : Type 0} → (values : ℕ → Result ℤ Trap) → (count : ℕ) → Result (Vec ℤ Z) RunTrap → Type 0
IsMap values count (Ok cells) = mapped values 0 count ≡ Ok cells.items
IsMap values count (Err trapped) = mapped values 0 count ≡ Err (record { trap = trapped.trap; element = trapped.offset })

-- as many cells, where there are cells
abbrev pub IsFilled : {Z : Type 0} → (count : ℕ) → Result (Vec ℤ Z) RunTrap → Type 0
IsFilled count (Ok cells) = length cells.items ≡ count
IsFilled count (Err trapped) = Unit {0}

-- the value of an instance at a place of what it is given
abbrev pub value_for : Meaning → Given → (place : ℕ) → Result ℤ Trap
value_for meaning given place = meaning.value given place 0

-- containers that are read by elements: each has the sizes, as many cells, and each cell is of its parameter's type
abbrev pub AreOperands : (over : List ℕ) → List ParamKind → List (Option Kept) → Type 0
AreOperands over [] [] = Unit {0}
AreOperands over (Scalar ty ∷ kinds) (Some kept ∷ more) =
    (kept.sizes ≡ over) × (length kept.cells ≡ cells_of kept.sizes) × All (InRange ty) kept.cells × AreOperands over kinds more
AreOperands over kinds operands = ⊥

-- the parameters of an instance's first function
abbrev pub params_of : Object → Plan → List ParamKind
params_of object plan = (signature_at object (function_at plan 0)).params

-- a Map of scalars may be computed with these operands and uniform arguments for a result of these sizes
pub record MayMap (object : Object) (plan : Plan) (store : List (Option Kept)) (operands : List ℕ) (kinds : List ParamKind) (uniforms : List ℤ) (over : List ℕ) : Type 0 where
  pub is_map : plan.skeleton ≡ Map
  pub shape : IsShape over
  pub scalars : list_all is_scalar (params_of object plan) ≡ true
  pub kinds_are : kinds ≡ drop plan.elements (params_of object plan)
  pub count : length uniforms ≡ length kinds
  pub operands_are : AreOperands over (operand_kinds plan.elements (params_of object plan)) (map (kept_at store) operands)
