-- Laws of sound objects' main.
use Rattle.std.specs.Prelude.{◌≡◌, ℕ, ◌^◌, ◌<◌, ◌≤◌, Bool, List, length, All, ℤ, Option, Some, None, Result, Err, IsSomeAnd, slice_get}
use Rattle.sk_arguments.specs.Arguments.{Given}
use Rattle.sk_functions.specs.Functions.{functions_by}
use Rattle.sk_isa.specs.Coded.{step_limit}
use Rattle.sk_isa.specs.Configurations.{Ended, Outcome, run_of}
use Rattle.sk_isa.specs.SoundObjects.{HasSoundFunctions}
use Rattle.sk_isa.specs.Soundness.{leads_to}
use Rattle.sk_isa.specs.declared.code.Instr.{Instr}
use Rattle.sk_isa.specs.declared.code.Instr.TheVariants.{Count, Do, Get}
use Rattle.sk_isa.specs.declared.object.Object.{Object}
use Rattle.sk_isa.specs.declared.object.Plan.{Plan}
use Rattle.sk_kernel.specs.Instances.{instance_meaning}
use Rattle.sk_main_code.specs.MainSoundness.{IsSoundMain}
use Rattle.sk_main_code.specs.MainSteps.{MainPoint, coded_of, linked_plan, main_start, next_in_main}
use Rattle.sk_main_code.specs.Sound.{IsSound}
use Rattle.sk_main_laws.specs.Calls.{AreAsWanted, HasFineCalls, IsCalled, MakesCall, first_of, given_to_call, wanted_by_call}
use Rattle.sk_main_laws.specs.FinePoints.{IsFineEnd, IsFineNext, IsFinePoint, IsFineStep}
use Rattle.sk_main_code.specs.Inputs.{AnswerAll}
use Rattle.sk_main_laws.specs.FineWorlds.{IsFineWorld}
use Rattle.sk_main_laws.specs.Finds.{Finds}
use Rattle.sk_main_laws.specs.Ranks.{main_rank, measure_of}
use Rattle.sk_tree.specs.declared.settings.Settings.{Settings}
use Rattle.sk_world.specs.Calls.{functions_of, operands_in}
use Rattle.sk_world.specs.Runs.{run_over}
use Rattle.sk_world.specs.World.{Input, Over, World}

-- a fine point of a sound object's main
abbrev pub IsFineIn : (object : Object) → IsSoundMain object → MainPoint → Type 0
IsFineIn object main = IsFinePoint object main.types.chosen main.lives.chosen

-- The rank of an address falls with each step that counts no statement, has a bound, and is 0 outside the code.
pub record RanksFall (instrs : List Instr) : Type 0 where
  pub falls : (at : ℕ) (instr : Instr) → slice_get instrs at ≡ Some instr → ((line : ℕ) → instr ≡ Count line → ⊥)
      → All (λ to. main_rank instrs to < main_rank instrs at) (leads_to instr at)
  pub bounded : (at : ℕ) → main_rank instrs at < 2 ^ length instrs
  pub outside : (at : ℕ) → slice_get instrs at ≡ None → main_rank instrs at ≡ 0

-- the measure falls with each step that goes on from one fine point to another
abbrev pub MeasureFalls : Type 0
MeasureFalls =
    (object : Object) (main : IsSoundMain object) (instr : Instr) (before behind : MainPoint) → slice_get object.main.instrs before.at ≡ Some instr
    → IsFineStep object main.types.chosen main.lives.chosen instr before behind
    → measure_of object.main.instrs behind < measure_of object.main.instrs before

-- the run begins at a fine point
abbrev pub MainBeginsFine : Type 0
MainBeginsFine =
    (object : Object) → (sound : IsSound object) → (inputs : List Input) → AnswerAll object.inputs inputs → (bound : ℕ)
    → IsFineIn object sound.main (main_start object inputs bound)

-- from a fine point the run goes on to such points alone, or is over
abbrev pub StepsAreFine : (object : Object) → IsSoundMain object → Type 0
StepsAreFine object main =
    (point : MainPoint) → IsFineIn object main point
    → IsSomeAnd (slice_get object.main.instrs point.at) (λ instr.
    IsFineNext object main.types.chosen main.lives.chosen instr point (next_in_main object instr point))

-- a call statement of main, and a call that is a value, are calls of an instance
abbrev pub CallsAreMade : Type 0
CallsAreMade =
    (object : Object) → (sound : IsSound object) → (point : MainPoint) → (fine : IsFineIn object sound.main point)
    → (number : ℕ) (containers : List ℕ) (uniforms : ℕ)
    → (slice_get object.main.instrs point.at ≡ Some (Do number containers uniforms)
    → (result : ℕ) × MakesCall object number (Some result) containers uniforms fine.live point)
    × (slice_get object.main.instrs point.at ≡ Some (Get number containers uniforms) → MakesCall object number None containers uniforms fine.live point)

-- the containers of a call, the result first, are as it wants them
abbrev pub CallsAreGiven : Type 0
CallsAreGiven =
    (object : Object) (number : ℕ) (plan : Plan) (result : Option ℕ) (operands : List ℕ) (uniforms : List ℤ) (live : ℕ → Bool) (world : World)
    → (called : IsCalled object number plan result operands uniforms live) → IsFineWorld object live world
    → IsSomeAnd (wanted_by_call result plan (first_of object plan) called.given) (λ wanted.
    AreAsWanted wanted (operands_in world (given_to_call result operands)))

-- the calls of sound instances leave fine worlds
abbrev pub CallsAreFine : Type 0
CallsAreFine = (object : Object) → HasSoundFunctions object → HasFineCalls object

-- sound main is never stuck
abbrev pub MainIsNeverStuck : Type 0
MainIsNeverStuck = (object : Object) → (sound : IsSound object) → StepsAreFine object sound.main

-- each instruction finds what it needs
abbrev pub MainFinds : Type 0
MainFinds =
    (object : Object) → (sound : IsSound object) → (point : MainPoint) → IsFineIn object sound.main point
    → IsSomeAnd (slice_get object.main.instrs point.at) (λ instr. Finds object instr point)

-- the outcome of main after at most that many instructions
abbrev pub main_outcome : Object → (steps : ℕ) → MainPoint → Outcome World Over
main_outcome object = run_of (next_in_main object) object.main.instrs

-- Main's run is over within its limit, as is each run with at least as many steps, and never in another way. So the meaning of
-- the object is the run that is over so.
pub record RunEnds (object : Object) (inputs : List Input) (bound : ℕ) : Type 0 where
  pub over : Over
  pub ends : (steps : ℕ) → step_limit object.main.instrs bound ≤ steps → main_outcome object steps (main_start object inputs bound) ≡ Ended (Err over)
  pub alone : (steps : ℕ) (result : Result (ℤ × World) Over) → main_outcome object steps (main_start object inputs bound) ≡ Ended result
      → Err over ≡ result
  pub fine : IsFineEnd object over
  pub coded : (dump : Bool) → coded_of object inputs bound dump ≡ run_over dump over

-- main's run ends
abbrev pub MainEnds : Type 0
MainEnds =
    (object : Object) → IsSound object → (inputs : List Input) → AnswerAll object.inputs inputs → (bound : ℕ)
    → RunEnds object inputs bound

-- The functions with which main's run computes a call of an instance are those of the instance's meaning.
abbrev pub InstancesComputeByTheirMeaning : Type 0
InstancesComputeByTheirMeaning =
    (object : Object) (number : ℕ) (plan : Plan) (settings : Settings) (given : Given)
    → functions_of (linked_plan object number plan) settings given ≡ functions_by (instance_meaning object plan settings) given
