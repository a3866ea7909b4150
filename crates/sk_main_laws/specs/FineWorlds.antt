-- Worlds in which all that a sound object's main has declared is as it says.
use Rattle.std.specs.Prelude.{◌≡◌, ℕ, suc, ◌≤◌, Bool, List, [], ◌∷◌, length, All, is_some, IfSome, IsSomeAnd, Some, slice_get}
use Rattle.sk_base.specs.Arithmetic.{InRange}
use Rattle.sk_base.specs.Shape.{IsShape, cells_of}
use Rattle.sk_isa.specs.declared.object.Object.{Object}
use Rattle.sk_isa.specs.declared.object.Plan.{Plan}
use Rattle.sk_main_code.specs.Inputs.{AnswerAll}
use Rattle.sk_main_code.specs.MainSteps.{linked_plan}
use Rattle.sk_tree.specs.declared.declared.Declared.{Declared}
use Rattle.sk_tree.specs.declared.settings.Settings.{Settings}
use Rattle.sk_world.specs.Calls.{Instance}
use Rattle.sk_world.specs.InstanceSettings.{overlap_limit, region_type}
use Rattle.sk_world.specs.World.{Container, World, container_in, settings_in}

-- a container is as it is declared: its name, its type, a shape of its kind, and as many cells, each of its type
pub record IsAsDeclared (declared : Declared) (container : Container) : Type 0 where
  pub name : container.name ≡ declared.name
  pub ty : container.ty ≡ declared.ty
  pub kind : length container.sizes ≡ declared.kind
  pub shape : IsShape container.sizes
  pub count : length container.cells ≡ cells_of container.sizes
  pub cells : All (InRange declared.ty) container.cells

-- Containers as they are declared under their numbers. They stand in the order of their numbers, each number once; none has
-- a number below the lowest.
abbrev pub AreDeclaredFrom : (declared : List Declared) → (lowest : ℕ) → List Container → Type 0
AreDeclaredFrom declared lowest [] = Unit {0}
AreDeclaredFrom declared lowest (container ∷ more) =
    (lowest ≤ container.number) × IsSomeAnd (slice_get declared container.number) (λ one. IsAsDeclared one container)
    × AreDeclaredFrom declared (suc container.number) more

-- settings of an instance in their ranges: a start value is of its operator's type, and the pad value of its region's
pub record AreInRange (instance : Instance) (settings : Settings) : Type 0 where
  pub start : IfSome settings.start (InRange instance.ty)
  pub rows : settings.overlap.0 ≤ overlap_limit
  pub columns : settings.overlap.1 ≤ overlap_limit
  pub pad : InRange (region_type instance) settings.pad

-- The live containers are there and no others, each as it is declared; the settings of each instance are in their ranges; and
-- the inputs are those that the object declares.
pub record IsFineWorld (object : Object) (live : ℕ → Bool) (world : World) : Type 0 where
  pub containers : AreDeclaredFrom object.containers 0 world.containers
  pub lives : (number : ℕ) → is_some (container_in world number) ≡ live number
  pub settings : (number : ℕ) (plan : Plan) → slice_get object.instances number ≡ Some plan
      → AreInRange (linked_plan object number plan) (settings_in world number)
  pub inputs : AnswerAll object.inputs world.inputs
