-- Whole runs: where they begin, and what they leave.
use Rattle.std.specs.Prelude.{ℕ, Bool, if◌then◌else◌, List, []}
use Rattle.sk_world.specs.Events.{Event, Dumped}
use Rattle.sk_world.specs.World.{Container, Input, World, Ending, Over, told}

-- what a run prints, the containers in scope where it ends, how it ends, and its events
pub record ProgramRun : Type 0 where
  pub printed : List ℕ
  pub containers : List Container
  pub ending : Ending
  pub events : List Event

-- the run that is over so, where a dump may be wanted
abbrev pub run_over : (dump : Bool) → Over → ProgramRun
run_over dump over = record {
  printed = over.world.printed;
  containers = over.world.containers;
  ending = over.ending;
  events = (if dump then told Dumped over.world else over.world).events;
}

-- the world before a run that is given these inputs and may execute so many statements
abbrev pub world_before : List Input → (bound : ℕ) → World
world_before inputs bound =
    record { containers = []; settings = []; inputs = inputs; printed = []; statements_left = bound; line = 0; events = [] }
