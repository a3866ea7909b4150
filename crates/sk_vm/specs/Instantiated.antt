-- Instances as kernels.
use Rattle.std.specs.Prelude.{◌≡◌, ℕ, ◌<◌, Some, IsSomeAnd, length, slice_get}
use Rattle.sk_isa.specs.Objects.{function_at}
use Rattle.sk_kernel.specs.Instances.{instance_meaning, reading_of}
use Rattle.sk_tree.specs.InstanceSettings.{default_settings}
use Rattle.sk_tree.specs.Skeletons.{operator_place}
use Rattle.sk_kernel.specs.Kernels.{Meaning, DependsOnReads, NeverTraps, NeverTrapsJoining}
use Rattle.sk_isa.specs.SoundObjects.{HasSoundFunctions, IsSoundPlan}
use Rattle.sk_isa.specs.declared.object.Object.{Object}
use Rattle.sk_isa.specs.declared.object.Plan.{Plan}
use Rattle.sk_vm.specs.Frames.{Framed, HasRoom, Holds}
use Rattle.sk_vm.specs.Places.{TakesPlaces}
use Rattle.sk_vm.specs.Rooms.{room_of}

-- Neither the function nor the operator ever traps where the meaning is safe, and the function depends on nothing but what
-- the meaning says that it reads.
pub record IsLawful (meaning : Meaning) : Type 0 where
  pub never_traps : NeverTraps meaning
  pub never_traps_joining : NeverTrapsJoining meaning
  pub depends : DependsOnReads meaning

-- an instance of a compiled program, with the settings of one that sets none
pub record Instantiated : Type 0 where
  pub object : Object
  pub plan : Plan
  pub lawful : IsLawful (instance_meaning object plan default_settings)

abbrev pub meaning_of : Instantiated → Meaning
meaning_of instance = instance_meaning instance.object instance.plan default_settings

-- a frame has room for each function of an instance
pub record Serves (instance : Instantiated) (frame : Framed) : Type 0 where
  pub room : (place : ℕ) → place < length instance.plan.functions
      → Holds (room_of instance.object.functions (function_at instance.plan place)) frame

-- an instance of a sound program whose parameters stand in order
pub record IsInstance (object : Object) (plan : Plan) : Type 0 where
  pub sound : HasSoundFunctions object
  pub parameters : TakesPlaces object
  pub fits : IsSoundPlan object plan

-- a frame is turned to the first function of an instance, which reads its parameters as the instance says
pub record IsAtFirst (instance : Instantiated) (frame : Framed) : Type 0 where
  pub room : HasRoom instance.object frame
  pub function : frame.function ≡ function_at instance.plan 0
  pub reading : frame.reading ≡ reading_of instance.plan default_settings

-- a frame is turned to the operator of an instance
pub record IsAtOperator (instance : Instantiated) (frame : Framed) : Type 0 where
  pub room : HasRoom instance.object frame
  pub function : IsSomeAnd (operator_place instance.plan.skeleton) (λ place. frame.function ≡ function_at instance.plan place)

-- the instance of this number
pub record IsOf (object : Object) (number : ℕ) (instance : Instantiated) : Type 0 where
  pub of_object : instance.object ≡ object
  pub of_plan : slice_get object.instances number ≡ Some instance.plan
