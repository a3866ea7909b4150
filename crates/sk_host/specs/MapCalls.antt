-- Calls of Maps over a world.
use Rattle.std.specs.Prelude.{◌≡◌, ℕ, ◌≤◌, true, List, [], ◌∷◌, length, map, drop, All, ℤ, pos, Option, Some, Result, Ok, Err, slice_get}
use Rattle.std.specs.List.{list_all}
use Rattle.std.specs.declared.vec.Vec.{Vec}
use Rattle.sk_arguments.specs.Arguments.{operand_kinds}
use Rattle.sk_base.specs.Arithmetic.{InRange}
use Rattle.sk_base.specs.Shape.{IsShape, cells_of}
use Rattle.sk_host.specs.Maps.{IsFilled, params_of}
use Rattle.sk_host.specs.Stores.{Kept, Mirrors, kept_at}
use Rattle.sk_isa.specs.Soundness.{is_scalar}
use Rattle.sk_isa.specs.declared.object.Object.{Object}
use Rattle.sk_isa.specs.declared.object.Plan.{Plan}
use Rattle.sk_kernel.specs.declared.kernel.RunTrap.{RunTrap}
use Rattle.sk_main_code.specs.MainSteps.{linked_plan}
use Rattle.sk_tree.specs.declared.tree.ParamKind.{ParamKind}
use Rattle.sk_tree.specs.declared.tree.ParamKind.TheVariants.{Scalar}
use Rattle.sk_tree.specs.declared.tree.Skeleton.TheVariants.{Map}
use Rattle.sk_world.specs.Calls.{call_of}
use Rattle.sk_world.specs.Events.{Event}
use Rattle.sk_world.specs.World.{Over, Trapped, World, container_at, putting, told}

-- containers that are there, of as many cells as their sizes say, each of its parameter's type
abbrev pub AreTyped : List ParamKind → List (Option Kept) → Type 0
AreTyped [] [] = Unit {0}
AreTyped (Scalar ty ∷ kinds) (Some kept ∷ more) = (length kept.cells ≡ cells_of kept.sizes) × All (InRange ty) kept.cells × AreTyped kinds more
AreTyped kinds operands = ⊥

-- a Map of scalars is called for live containers, the result first, and as many uniform arguments as its function has behind
-- its elements
pub record IsMapCall (object : Object) (instance : ℕ) (containers : List ℕ) (uniforms : ℕ) (store : List (Option Kept)) : Type 0 where
  pub plan : Plan
  pub plan_is : slice_get object.instances instance ≡ Some plan
  pub is_map : plan.skeleton ≡ Map
  pub scalars : list_all is_scalar (params_of object plan) ≡ true
  pub upto : plan.elements ≤ length (params_of object plan)
  pub result : ℕ
  pub operands : List ℕ
  pub containers_are : containers ≡ result ∷ operands
  pub kept : Kept
  pub kept_is : kept_at store result ≡ Some kept
  pub shape : IsShape kept.sizes
  pub cells : length kept.cells ≡ cells_of kept.sizes
  pub count : uniforms ≡ length (drop plan.elements (params_of object plan))
  pub operands_are : AreTyped (operand_kinds plan.elements (params_of object plan)) (map (kept_at store) operands)

-- a call comes to new cells for its result, and tells an event; or it ends the run by the trap
abbrev pub ComesTo : {Z : Type 0} → Result (ℤ × World) Over → (result : ℕ) → World → Result (Vec ℤ Z) RunTrap → Type 0
ComesTo call result world (Ok cells) =
    (event : Event) × (call ≡ Ok (pos 0, putting (record (container_at world result) { cells = cells.items }) (told event world)))
ComesTo call result world (Err trapped) =
    (over : Over) × (call ≡ Err over) × (over.ending ≡ Trapped trapped.trap world.line trapped.offset) × (over.world.printed ≡ world.printed)

-- what was computed is what the call comes to, in each world that the store mirrors and where nothing was set
abbrev pub IsComputed : {Z : Type 0} → Object → (instance : ℕ) → (containers : List ℕ) → (uniforms : List ℤ) → List (Option Kept) → Result (Vec ℤ Z) RunTrap → Type 0
IsComputed object instance containers uniforms store computed =
    (plan : Plan) (result : ℕ) (operands : List ℕ) (world : World) → slice_get object.instances instance ≡ Some plan → containers ≡ result ∷ operands
    → Mirrors store world → world.settings ≡ [] → ComesTo (call_of (linked_plan object instance plan) (Some result) operands uniforms world) result world computed

-- as many cells as the result has
abbrev pub HasFilled : {Z : Type 0} → (containers : List ℕ) → List (Option Kept) → Result (Vec ℤ Z) RunTrap → Type 0
HasFilled containers store computed =
    (result : ℕ) (operands : List ℕ) (kept : Kept) → containers ≡ result ∷ operands → kept_at store result ≡ Some kept → IsFilled (cells_of kept.sizes) computed
