-- What one instruction of main does to a run that prints to a sink.
use Rattle.std.specs.Prelude.{◌≡◌, ◌⊎◌, ℕ, List, [], ◌∷◌, ◌++◌, ℤ, Option, Some, None, Result, Ok, Err}
use Rattle.std.specs.Io.KnownBytes.{Appends}
use Rattle.sk_host.specs.Outcomes.{told_as}
use Rattle.sk_host.specs.Points.{point_at}
use Rattle.sk_host.specs.Stores.{Kept, Mirrors}
use Rattle.sk_host.specs.declared.machine.State.{State}
use Rattle.sk_host.specs.declared.outcome.Outcome.{Outcome}
use Rattle.sk_host.specs.declared.outcome.Outcome.TheVariants.{Memory, SinkFault}
use Rattle.sk_isa.specs.Configurations.{Goes, Ends}
use Rattle.sk_isa.specs.declared.code.Instr.{Instr}
use Rattle.sk_isa.specs.declared.code.Instr.TheVariants.{Endl, Text}
use Rattle.sk_isa.specs.declared.object.Object.{Object}
use Rattle.sk_main_code.specs.MainSteps.{MainNext, MainPoint, next_in_main}
use Rattle.sk_outside.specs.Faults.{Rose}
use Rattle.sk_outside.specs.Holding.{AppendsPrefix, SinkHolding}
use Rattle.sk_world.specs.World.{Over, World}

-- the text that an instruction prints
abbrev pub text_of : Instr → Option (List ℕ)
text_of (Text text) = Some text
text_of Endl = Some (10 ∷ [])
text_of instr = None

-- The run goes on to a world that the store mirrors, and the sink took what was printed there.
pub record GoesOn (next : MainNext) (kept : World) (state : State) (stack slots : List ℤ) (store : List (Option Kept)) (before now : SinkHolding) : Type 0 where
  pub world : World
  pub leads : next ≡ Goes (point_at state.stand stack slots world)
  pub mirrors : Mirrors store world
  pub settings : world.settings ≡ kept.settings
  pub left : world.statements_left ≡ state.left
  pub line : world.line ≡ state.line
  pub bytes : List ℕ
  pub printed : world.printed ≡ kept.printed ++ bytes
  pub taken : Appends before.taken now.taken bytes
  pub faults : now.faults ≡ before.faults

-- the run goes on to a point where these bytes are printed behind
abbrev pub Prints : MainNext → World → List ℕ → Type 0
Prints (Goes behind) kept bytes = behind.kept.printed ≡ kept.printed ++ bytes
Prints next kept bytes = ⊥

-- The run was cut off: the sink took nothing, or a prefix of what the instruction prints.
pub record IsCutOff (next : MainNext) (kept : World) (before now : SinkHolding) : Type 0 where
  pub bytes : List ℕ
  pub prints : (bytes ≡ []) ⊎ Prints next kept bytes
  pub taken : AppendsPrefix before.taken now.taken bytes

-- the run is over, and the sink took nothing
pub record IsOver (next : MainNext) (kept : World) (outcome : Outcome) (before now : SinkHolding) : Type 0 where
  pub over : Over
  pub leads : next ≡ Ends (Err over)
  pub ending : outcome ≡ told_as over.ending
  pub printed : over.world.printed ≡ kept.printed
  pub taken : now ≡ before

-- Where an instruction leads from a point: the run goes on, is over, or was cut off.
abbrev pub Turns : Object → Instr → MainPoint → Result State Outcome → (stack slots : List ℤ) → List (Option Kept) → (before now : SinkHolding) → Type 0
Turns object instr point (Ok state) stack slots store before now =
    GoesOn (next_in_main object instr point) point.kept state stack slots store before now
Turns object instr point (Err SinkFault) stack slots store before now =
    Rose before.faults now.faults × IsCutOff (next_in_main object instr point) point.kept before now
Turns object instr point (Err Memory) stack slots store before now =
    (now.faults ≡ before.faults) × IsCutOff (next_in_main object instr point) point.kept before now
Turns object instr point (Err outcome) stack slots store before now =
    IsOver (next_in_main object instr point) point.kept outcome before now
