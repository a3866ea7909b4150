-- Where main's run stands in the middle.
use Rattle.std.specs.Prelude.{◌≡◌, ℕ, ◌<◌, Bool, List, Ok, Err, IsSomeAnd, slice_get}
use Rattle.sk_isa.specs.Configurations.{Ended, Ends, Goes, Stuck}
use Rattle.sk_isa.specs.declared.object.Object.{Object}
use Rattle.sk_main_code.specs.MainSteps.{MainNext, MainPoint, coded_of, main_start, next_in_main}
use Rattle.sk_main_code.specs.Sound.{IsSound}
use Rattle.sk_main_laws.specs.FinePoints.{IsFineEnd}
use Rattle.sk_main_code.specs.Inputs.{AnswerAll}
use Rattle.sk_main_laws.specs.Laws.{IsFineIn, main_outcome}
use Rattle.sk_main_laws.specs.Ranks.{measure_of}
use Rattle.sk_world.specs.Runs.{run_over}
use Rattle.sk_world.specs.World.{Input, Over}

-- the meaning of an object is the run that is over so
abbrev pub IsMeaning : Object → List Input → (bound : ℕ) → Over → Type 0
IsMeaning object inputs bound over = (dump : Bool) → coded_of object inputs bound dump ≡ run_over dump over

-- The run stands at a fine point, and in whatever way it is over from there is the meaning of the object.
pub record IsRunning (object : Object) (sound : IsSound object) (inputs : List Input) (bound : ℕ) (point : MainPoint) : Type 0 where
  pub fine : IsFineIn object sound.main point
  pub comes_to : (steps : ℕ) (over : Over) → main_outcome object steps point ≡ Ended (Err over) → IsMeaning object inputs bound over

-- The run goes on so, and less is left of it; or it is over, and that is the meaning of the object.
abbrev pub IsRunningNext : (object : Object) → IsSound object → List Input → (bound : ℕ) → (before : MainPoint) → MainNext → Type 0
IsRunningNext object sound inputs bound before (Goes behind) =
    IsRunning object sound inputs bound behind × (measure_of object.main.instrs behind < measure_of object.main.instrs before)
IsRunningNext object sound inputs bound before (Ends (Ok done)) = ⊥
IsRunningNext object sound inputs bound before (Ends (Err over)) = IsFineEnd object over × IsMeaning object inputs bound over
IsRunningNext object sound inputs bound before Stuck = ⊥

-- the whole of a run, from its start on
pub record RunsOn (object : Object) (sound : IsSound object) (inputs : List Input) (bound : ℕ) : Type 0 where
  pub begins : AnswerAll object.inputs inputs → IsRunning object sound inputs bound (main_start object inputs bound)
  pub goes_on : (point : MainPoint) → IsRunning object sound inputs bound point
      → IsSomeAnd (slice_get object.main.instrs point.at) (λ instr. IsRunningNext object sound inputs bound point (next_in_main object instr point))

-- sound main runs to its meaning
abbrev pub MainRuns : Type 0
MainRuns = (object : Object) (sound : IsSound object) (inputs : List Input) (bound : ℕ) → RunsOn object sound inputs bound
