-- What is told of a run, and what the sink has then taken.
use Rattle.std.specs.Prelude.{◌≡◌}
use Rattle.std.specs.Io.KnownBytes.{Appends}
use Rattle.sk_host.specs.declared.outcome.Outcome.{Outcome}
use Rattle.sk_host.specs.declared.outcome.Outcome.TheVariants as outcome
use Rattle.sk_outside.specs.Faults.{Rose}
use Rattle.sk_outside.specs.Holding.{SinkHolding, AppendsPrefix}
use Rattle.sk_world.specs.Runs.{ProgramRun}
use Rattle.sk_world.specs.World.{Ending, End, Trapped, Bound}

-- the outcome of a run that ends so
abbrev pub told_as : Ending → Outcome
told_as End = outcome.End
told_as (Trapped trap line element) = outcome.Trapped trap line element
told_as Bound = outcome.Bound

-- the run ended as it does, the sink took all that it prints, and no fault was counted
pub record HasEnded (run : ProgramRun) (given : Outcome) (before now : SinkHolding) : Type 0 where
  pub ending : given ≡ told_as run.ending
  pub printed : Appends before.taken now.taken run.printed
  pub faults : now.faults ≡ before.faults

-- What is told of a run. A fault of the sink is told where a put failed in this call, and nowhere else; there, and where memory
-- was wanting, the sink took a prefix of what the run prints.
abbrev pub IsOutcome : ProgramRun → (before now : SinkHolding) → Outcome → Type 0
IsOutcome run before now outcome.SinkFault = Rose before.faults now.faults × AppendsPrefix before.taken now.taken run.printed
IsOutcome run before now outcome.Memory = (now.faults ≡ before.faults) × AppendsPrefix before.taken now.taken run.printed
IsOutcome run before now given = HasEnded run given before now
