-- When code of main and a statement of main stand alike: the same names for the same things, over a world whose containers
-- are those that the object declares.
use Rattle.std.specs.Prelude.{◌≡◌, ◌⊎◌, ℕ, ◌<◌, ◌≤◌, true, List, [], ◌∷◌, length, map, All, ℤ, Option, Some, None, Result, Ok, Err, IfOk, slice_get}
use Rattle.sk_arguments.specs.Operands.{uniforms_taken}
use Rattle.sk_base.specs.Arithmetic.{InRange, wrapped}
use Rattle.sk_base.specs.Shape.{IsShape}
use Rattle.sk_base.specs.declared.number.Ty.{Ty}
use Rattle.sk_isa.specs.Objects.{signature_at, invoked}
use Rattle.sk_isa.specs.declared.object.Object.{Object}
use Rattle.sk_isa.specs.declared.object.Plan.{Plan}
use Rattle.sk_main_code.specs.MainSoundness.{calls_fit}
use Rattle.sk_call_shapes.specs.CallShapes.{fits_statement}
use Rattle.sk_main_code.specs.MainSteps.{linked_plan}
use Rattle.sk_main_run.specs.MainNames.{Meant, Scope}
use Rattle.sk_main_run.specs.MainNames as tree
use Rattle.sk_main_scheme.specs.MainScheme.{Named, Number, Whole, Called, Made, operands_of}
use Rattle.sk_meaning.specs.Evaluation.{Callable, Callables, Value, value_of, kind_type}
use Rattle.sk_names.specs.Bindings.{bound_to}
use Rattle.sk_scheme.specs.Scheme.{Known}
use Rattle.sk_tree.specs.declared.declared.Declared.{Declared}
use Rattle.sk_tree.specs.declared.tree.ParamKind.{ParamKind}
use Rattle.sk_world.specs.Calls.{Instance, operand_count, call_of}
use Rattle.sk_world.specs.World.{Container, World, Over}

-- A container is one that the object declares, with a shape and cells of its type. One that is not there has no elements,
-- and so may have another type.
pub record IsHeld (object : Object) (container : Container) : Type 0 where
  pub declared : Declared
  pub there : slice_get object.containers container.number ≡ Some declared
  pub ty : (container.ty ≡ declared.ty) ⊎ (container.sizes ≡ 0 ∷ [])
  pub shape : IsShape container.sizes
  pub cells : All (InRange declared.ty) container.cells

-- each container is
pub record IsTidy (object : Object) (world : World) : Type 0 where
  pub each : All (IsHeld object) world.containers

-- values in the types of parameters
abbrev pub fitted : List ParamKind → List ℤ → List ℤ
fitted [] values = []
fitted (kind ∷ kinds) [] = []
fitted (kind ∷ kinds) (value ∷ values) = wrapped (kind_type kind) value ∷ fitted kinds values

-- A function that may be called, as the object has it and as the tree has it: its value for arguments that were converted is
-- that of its source, and of its type.
pub record IsFunction (object : Object) (known : Known) (callable : Callable) : Type 0 where
  pub ret : callable.ret ≡ known.ret
  pub kinds : callable.kinds ≡ known.kinds
  pub takes : length (signature_at object known.number).params ≡ length known.kinds
  pub call : (values : List ℤ) → length values ≡ length known.kinds
      → invoked object known.number (map Value (fitted known.kinds values)) ≡ value_of callable (map Value values)
  pub gives : (values : List ℤ) → length values ≡ length known.kinds → IfOk (value_of callable (map Value values)) (λ value. InRange known.ret value)

-- a name is that of a function for both, or for none of them
abbrev pub AreFunction : Object → Option Known → Option Callable → Type 0
AreFunction object None None = Unit {0}
AreFunction object (Some known) (Some callable) = IsFunction object known callable
AreFunction object None (Some callable) = ⊥
AreFunction object (Some known) None = ⊥

pub record FunctionsAgree (object : Object) (functions : List (List ℕ × Known)) (callables : Callables) : Type 0 where
  pub each : (name : List ℕ) → AreFunction object (bound_to name functions) (bound_to name callables)

-- a scalar: its slot is one of those so far, and holds its value
pub record IsNumber (slot : ℕ) (ty other : Ty) (value : ℤ) (slots : List ℤ) (bound : ℕ) : Type 0 where
  pub ty_is : other ≡ ty
  pub below : slot < bound
  pub held : slice_get slots slot ≡ Some value
  pub fits : InRange ty value

-- a container, of which the object declares the type
pub record IsWhole (object : Object) (container : ℕ) (ty : Ty) (number : ℕ) (other : Ty) : Type 0 where
  pub number_is : number ≡ container
  pub ty_is : other ≡ ty
  pub declared : Declared
  pub there : slice_get object.containers container ≡ Some declared
  pub declared_ty : declared.ty ≡ ty

-- what a call leaves: a tidy world, and no more statements
abbrev pub IsLeft : Object → World → Result (ℤ × World) Over → Type 0
IsLeft object world (Ok done) = IsTidy object done.1 × (done.1.statements_left ≤ world.statements_left)
IsLeft object world (Err over) = Unit {0}

-- An instance, whose statements do the same in both, where their containers fit, and leave a tidy world.
pub record IsInstance (object : Object) (made : Made) (instance : Instance) : Type 0 where
  pub number : instance.number ≡ made.number
  pub operands : operand_count instance ≡ operands_of made
  pub uniforms : uniforms_taken instance.skeleton instance.elements instance.kinds ≡ uniforms_taken made.skeleton made.elements made.kinds
  pub plan : Plan
  pub there : slice_get object.instances made.number ≡ Some plan
  pub same : (result : ℕ) (operands : List ℕ) (values : List ℤ) (world : World) → IsTidy object world
      → calls_fit object made.number (result ∷ operands) (length values) fits_statement ≡ true
      → call_of (linked_plan object made.number plan) (Some result) operands values world ≡ call_of instance (Some result) operands values world
  pub leaves : (result : ℕ) (operands : List ℕ) (values : List ℤ) (world : World) → IsTidy object world
      → calls_fit object made.number (result ∷ operands) (length values) fits_statement ≡ true
      → IsLeft object world (call_of instance (Some result) operands values world)

-- a name stands for the same thing in both, its slot below a bound
abbrev pub IsNamed : Object → Named → Meant → List ℤ → ℕ → Type 0
IsNamed object (Number slot ty) (tree.Scalar other value) slots bound = IsNumber slot ty other value slots bound
IsNamed object (Whole container ty) (tree.Whole number other) slots bound = IsWhole object container ty number other
IsNamed object (Called made) (tree.Called instance) slots bound = IsInstance object made instance
IsNamed object named meant slots bound = ⊥

-- the bound of the names before one
abbrev pub below_it : Named → ℕ → ℕ
below_it (Number slot ty) bound = slot
below_it (Whole container ty) bound = bound
below_it (Called made) bound = bound

-- the same names in the same order, and later scalars in higher slots
abbrev pub Agree : Object → List (List ℕ × Named) → Scope → List ℤ → ℕ → Type 0
Agree object [] [] slots bound = Unit {0}
Agree object (one ∷ scope) (other ∷ values) slots bound =
    (one.0 ≡ other.0) × IsNamed object one.1 other.1 slots bound × Agree object scope values slots (below_it one.1 bound)
Agree object scope values slots bound = ⊥

-- a name that is looked up is the same in both
abbrev pub AreNamed : Object → Option Named → Option Meant → List ℤ → ℕ → Type 0
AreNamed object None None slots bound = Unit {0}
AreNamed object (Some named) (Some meant) slots bound = IsNamed object named meant slots bound
AreNamed object named meant slots bound = ⊥
