-- What an instruction of main finds at a fine point.
use Rattle.std.specs.Prelude.{◌≡◌, ℕ, ◌<◌, ◌≤◌, false, List, ◌∷◌, length, map, reverse, take, All, ℤ, Option, Some, None, IsSome, IsSomeAnd, slice_get}
use Rattle.sk_base.specs.Arithmetic.{InRange, is_shift}
use Rattle.sk_isa.specs.Configurations.{Goes}
use Rattle.sk_isa.specs.Objects.{signature_at}
use Rattle.sk_isa.specs.Soundness.{SuitParams}
use Rattle.sk_isa.specs.declared.code.Instr.{Instr}
use Rattle.sk_isa.specs.declared.code.Instr.TheVariants.{Pop, Load, Store, Neg, Inv, Not, Wrap, Binary, Zero, Call, Set, Do, Get}
use Rattle.sk_isa.specs.declared.object.Object.{Object}
use Rattle.sk_main_code.specs.MainSoundness.{made_by, taken_in_main, used_by}
use Rattle.sk_main_code.specs.MainSteps.{MainPoint, next_in_main}
use Rattle.sk_main_laws.specs.FineWorlds.{IsAsDeclared}
use Rattle.sk_meaning.specs.Evaluation.{Value}
use Rattle.sk_world.specs.World.{Container, World, container_in}

-- how many values an instruction takes from the stack
abbrev pub values_taken : Object → Instr → ℕ
values_taken object Pop = 1
values_taken object (Store slot) = 1
values_taken object (Neg ty) = 1
values_taken object (Inv ty) = 1
values_taken object Not = 1
values_taken object Wrap = 1
values_taken object (Binary op ty) = 2
values_taken object (Zero to) = 1
values_taken object (Call function) = length (signature_at object function).params
values_taken object instr = taken_in_main instr

-- the slot, the instance and the function that an instruction names
abbrev pub slot_named : Instr → Option ℕ
slot_named (Load slot) = Some slot
slot_named (Store slot) = Some slot
slot_named instr = None

abbrev pub instance_named : Instr → Option ℕ
instance_named (Set instance word values) = Some instance
instance_named (Do instance containers uniforms) = Some instance
instance_named (Get instance containers uniforms) = Some instance
instance_named instr = None

abbrev pub function_named : Instr → Option ℕ
function_named (Call function) = Some function
function_named instr = None

-- the topmost values are of the type in which an operator takes them; the count of a shift may be of either
abbrev pub AreOperands : Instr → (stack : List ℤ) → Type 0
AreOperands (Neg ty) (a ∷ rest) = InRange ty a
AreOperands (Inv ty) (a ∷ rest) = InRange ty a
AreOperands (Binary op ty) (b ∷ a ∷ rest) = InRange ty a × (is_shift op ≡ false → InRange ty b)
AreOperands instr stack = Unit {0}

-- a declared container is in the world, as it is declared
pub record IsThere (object : Object) (world : World) (number : ℕ) : Type 0 where
  pub container : Container
  pub found : container_in world number ≡ Some container
  pub number_is : container.number ≡ number
  pub as_declared : IsSomeAnd (slice_get object.containers number) (λ declared. IsAsDeclared declared container)

-- An instruction finds its values on the stack, which is no higher than the code says, before it and behind it, and what it
-- names is there; what it makes is declared, and not there yet.
pub record Finds (object : Object) (instr : Instr) (point : MainPoint) : Type 0 where
  pub values : values_taken object instr ≤ length point.stack
  pub depth : length point.stack ≤ object.main.depth
  pub room : (behind : MainPoint) → next_in_main object instr point ≡ Goes behind → length behind.stack ≤ object.main.depth
  pub operands : AreOperands instr point.stack
  pub slots : length point.slots ≡ object.main.slots
  pub slot : (slot : ℕ) → slot_named instr ≡ Some slot → slot < object.main.slots
  pub used : All (IsThere object point.kept) (used_by instr)
  pub made : (number : ℕ) → made_by instr ≡ Some number
      → IsSome (slice_get object.containers number) × (container_in point.kept number ≡ None)
  pub instance : (instance : ℕ) → instance_named instr ≡ Some instance → IsSome (slice_get object.instances instance)
  pub function : (function : ℕ) → function_named instr ≡ Some function → function < length object.functions
  pub arguments : (function : ℕ) → function_named instr ≡ Some function
      → SuitParams (signature_at object function).params (map Value (reverse (take (length (signature_at object function).params) point.stack)))
