-- Laws of the machine's code.
use Rattle.std.specs.Prelude.{◌≡◌, ℕ, ◌^◌, ◌<◌, ◌≤◌, List, length, All, ℤ, Some, None, Result, IsSomeAnd, slice_get}
use Rattle.sk_base.specs.declared.number.Trap.{Trap}
use Rattle.sk_meaning.specs.Evaluation.{Argument}
use Rattle.sk_isa.specs.declared.code.Code.{Code}
use Rattle.sk_isa.specs.declared.code.Instr.{Instr}
use Rattle.sk_isa.specs.declared.code.Instr.TheVariants.{Turn}
use Rattle.sk_isa.specs.declared.object.Object.{Object}
use Rattle.sk_isa.specs.declared.object.Signature.{Signature}
use Rattle.sk_isa.specs.Coded.{Callee, Point, Routine, callee_of, callees_below, code_value, function_of, next_of, outcome_of, routine_of, start_of, step_limit}
use Rattle.sk_isa.specs.Configurations.{Ended}
use Rattle.sk_isa_laws.specs.Ranks.{rank}
use Rattle.sk_isa.specs.Soundness.{IsSoundCode, SuitParams, Types, leads_to}
use Rattle.sk_isa_laws.specs.Steps.{AreSoundCallees, IsFineNext, IsFinePoint, IsGiven}

-- The rank of an address falls with each step that is no turn, has a bound, and is 0 outside the code.
pub record RanksFall (instrs : List Instr) : Type 0 where
  pub falls : (at : ℕ) (instr : Instr) → slice_get instrs at ≡ Some instr → (instr ≡ Turn → ⊥)
      → All (λ to. rank instrs to < rank instrs at) (leads_to instr at)
  pub bounded : (at : ℕ) → rank instrs at < 2 ^ length instrs
  pub outside : (at : ℕ) → slice_get instrs at ≡ None → rank instrs at ≡ 0

-- a function's code with functions that it may call and arguments, all of them sound
pub record IsReady (signatures : List Signature) (function : ℕ) (own : Signature) (code : Code) (callees : List Callee) (arguments : List Argument) : Type 0 where
  pub sound : IsSoundCode signatures function own code
  pub can_call : AreSoundCallees signatures function callees
  pub suits : SuitParams own.params arguments

-- from a point with the chosen types the run goes on to such points alone, or ends with a value of the function's type
abbrev pub StepsAreFine : Signature → Code → List Callee → List Argument → Types → Type 0
StepsAreFine own code callees arguments chosen =
    (point : Point) → IsFinePoint own chosen point
    → IsSomeAnd (slice_get code.instrs point.at) (λ instr. IsFineNext own chosen instr point (next_of (routine_of callees code arguments) instr point))

-- A run ends with this value within the limit, as does each run with at least as many steps; and no run ends with another.
pub record RunEnds (own : Signature) (routine : Routine) (start : Point) (limit turns : ℕ) (value : Result (ℤ × ℕ) Trap) : Type 0 where
  pub ends : (steps : ℕ) → limit ≤ steps → outcome_of routine steps start ≡ Ended value
  pub given : IsGiven own.ret turns value
  pub alone : (steps : ℕ) (result : Result (ℤ × ℕ) Trap) → outcome_of routine steps start ≡ Ended result → value ≡ result

-- The functions of an object below a number are as many, each is the function of its number, and they are sound. The value
-- of each is that with which the run of its code ends.
pub record FunctionsHaveValues (object : Object) : Type 0 where
  pub count : (below : ℕ) → below ≤ length object.functions → length (callees_below object.signatures object.functions below) ≡ below
  pub each : (below function : ℕ) (own : Signature) (code : Code) → function < below → below ≤ length object.functions
      → slice_get object.signatures function ≡ Some own → slice_get object.functions function ≡ Some code
      → slice_get (callees_below object.signatures object.functions below) function
      ≡ Some (callee_of (callees_below object.signatures object.functions function) own code)
  pub sound : (below : ℕ) → below ≤ length object.functions
      → AreSoundCallees object.signatures below (callees_below object.signatures object.functions below)
  pub values : (function : ℕ) (own : Signature) (code : Code) (arguments : List Argument) (turns : ℕ)
      → slice_get object.signatures function ≡ Some own → slice_get object.functions function ≡ Some code → SuitParams own.params arguments
      → RunEnds own (routine_of (callees_below object.signatures object.functions function) code arguments)
      (start_of code arguments turns) (step_limit code.instrs turns) turns (function_of object function arguments turns)

-- sound code is never stuck
abbrev pub SoundCodeIsNeverStuck : Type 0
SoundCodeIsNeverStuck =
    (signatures : List Signature) (function : ℕ) (own : Signature) (code : Code) (callees : List Callee) (arguments : List Argument)
    → (ready : IsReady signatures function own code callees arguments) → StepsAreFine own code callees arguments ready.sound.types.chosen

-- the run of sound code ends with the code's value
abbrev pub SoundCodeEnds : Type 0
SoundCodeEnds =
    (signatures : List Signature) (function : ℕ) (own : Signature) (code : Code) (callees : List Callee) (arguments : List Argument) (turns : ℕ)
    → IsReady signatures function own code callees arguments
    → RunEnds own (routine_of callees code arguments) (start_of code arguments turns) (step_limit code.instrs turns) turns
    (code_value callees code arguments turns)
