-- Which calls main makes, and what they leave.
use Rattle.std.specs.Prelude.{◌≡◌, ℕ, Bool, true, List, [], ◌∷◌, length, reverse, take, All, ℤ, Option, Some, None, IfSome, Result, Ok, Err, slice_get}
use Rattle.sk_base.specs.Arithmetic.{InRange}
use Rattle.sk_base.specs.Shape.{IsShape, cells_of}
use Rattle.sk_base.specs.declared.number.Ty.{Ty}
use Rattle.sk_isa.specs.Objects.{function_at, signature_at}
use Rattle.sk_isa.specs.declared.object.Object.{Object}
use Rattle.sk_isa.specs.declared.object.Plan.{Plan}
use Rattle.sk_isa.specs.declared.object.Signature.{Signature}
use Rattle.sk_call_shapes.specs.CallShapes.{Container as Kinded, Wanted, fits, uniform_count, wanted_by_statement, wanted_by_value}
use Rattle.sk_main_code.specs.MainSoundness.{containers_of}
use Rattle.sk_main_code.specs.MainSteps.{MainPoint, linked_plan}
use Rattle.sk_main_laws.specs.FineWorlds.{IsFineWorld}
use Rattle.sk_world.specs.Calls.{call_of}
use Rattle.sk_world.specs.World.{Container, Over, World}

-- the containers that a call is given, the result first where it is a statement
abbrev pub given_to_call : (result : Option ℕ) → (operands : List ℕ) → List ℕ
given_to_call (Some result) operands = result ∷ operands
given_to_call None operands = operands

-- the containers that a call wants: in a statement where there is a result, and else for a value
abbrev pub wanted_by_call : (result : Option ℕ) → Plan → Signature → List Kinded → Option (List Wanted)
wanted_by_call (Some result) = wanted_by_statement
wanted_by_call None = wanted_by_value

-- the function whose signature the calls of an instance go by
abbrev pub first_of : Object → Plan → Signature
first_of object plan = signature_at object (function_at plan 0)

-- an instance is called for live containers of the kinds and types that it wants, and as many uniform arguments
pub record IsCalled (object : Object) (number : ℕ) (plan : Plan) (result : Option ℕ) (operands : List ℕ) (uniforms : List ℤ) (live : ℕ → Bool) : Type 0 where
  pub there : slice_get object.instances number ≡ Some plan
  pub given : List Kinded
  pub given_are : containers_of object (given_to_call result operands) ≡ Some given
  pub fits : fits (wanted_by_call result plan (first_of object plan) given) given ≡ true
  pub count : length uniforms ≡ uniform_count plan (first_of object plan)
  pub live_are : All (λ container. live container ≡ true) (given_to_call result operands)

-- an instruction makes a call, whose uniform arguments are on the stack
pub record MakesCall (object : Object) (number : ℕ) (result : Option ℕ) (containers : List ℕ) (uniforms : ℕ) (live : ℕ → Bool) (point : MainPoint) : Type 0 where
  pub plan : Plan
  pub operands : List ℕ
  pub containers_are : containers ≡ given_to_call result operands
  pub called : IsCalled object number plan result operands (reverse (take uniforms point.stack)) live

-- a container that is as a call wants it
pub record IsAsWanted (wanted : Wanted) (container : Container) : Type 0 where
  pub ty : container.ty ≡ wanted.ty
  pub kind : IfSome wanted.kind (λ kind. length container.sizes ≡ kind)
  pub shape : IsShape container.sizes
  pub count : length container.cells ≡ cells_of container.sizes
  pub cells : All (InRange wanted.ty) container.cells

abbrev pub AreAsWanted : List Wanted → List Container → Type 0
AreAsWanted [] [] = Unit {0}
AreAsWanted [] (container ∷ containers) = ⊥
AreAsWanted (wanted ∷ more) [] = ⊥
AreAsWanted (wanted ∷ more) (container ∷ containers) = IsAsWanted wanted container × AreAsWanted more containers

-- A call gives a value of a type and a world that is fine for the same live containers, with as many statements left; or it
-- leaves such a world where it ends the run.
abbrev pub IsFineCall : Object → (live : ℕ → Bool) → (statements : ℕ) → Ty → Result (ℤ × World) Over → Type 0
IsFineCall object live statements ty (Ok done) =
    InRange ty done.0 × IsFineWorld object live done.1 × (done.1.statements_left ≡ statements)
IsFineCall object live statements ty (Err over) = IsFineWorld object live over.world

-- each call that main may make from a fine world leaves one
abbrev pub HasFineCalls : Object → Type 0
HasFineCalls object =
    (number : ℕ) (plan : Plan) (result : Option ℕ) (operands : List ℕ) (uniforms : List ℤ) (live : ℕ → Bool) (world : World)
    → IsCalled object number plan result operands uniforms live → IsFineWorld object live world
    → IsFineCall object live world.statements_left (first_of object plan).ret (call_of (linked_plan object number plan) result operands uniforms world)
