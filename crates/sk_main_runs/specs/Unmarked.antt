-- Objects that lack marks run as those that have them, but for what they tell.
use Rattle.std.specs.Prelude.{◌≡◌, ℕ, Bool, true, List, Option, Some, None, slice_get}
use Rattle.std.specs.List.{list_all}
use Rattle.sk_isa.specs.declared.object.Object.{Object}
use Rattle.sk_isa.specs.declared.object.Plan.{Plan}
use Rattle.sk_main_code.specs.MainSoundness.{names_in_main}
use Rattle.sk_main_code.specs.MainSteps.{coded_of}
use Rattle.sk_main_fits.specs.Vectors.{IsOfVectors}
use Rattle.sk_main_means.specs.MainMeans.{IsSameRun}
use Rattle.sk_main_run.specs.MainRun.{run_of_program}
use Rattle.sk_main_runs.specs.RunsAlike.{IsOver}
use Rattle.sk_main_scheme.specs.Objects.{StandsFor, object_of}
use Rattle.sk_plain.specs.Means.{MeansSource}
use Rattle.sk_scheme.specs.Plans.{functions_object}
use Rattle.sk_tree.specs.declared.tree.Program.{Program}
use Rattle.sk_world.specs.World.{Input}

-- the same instance, with other variants
abbrev pub ArePlans : Option Plan → Option Plan → Type 0
ArePlans (Some plan) (Some other) = record plan { variants = other.variants } ≡ other
ArePlans None None = Unit {0}
ArePlans (Some plan) None = ⊥
ArePlans None (Some other) = ⊥

-- an object that differs in marks, operators and variants alone
pub record IsUnmarked (object all : Object) : Type 0 where
  pub same : record object { safe = all.safe; operators = all.operators; instances = all.instances } ≡ all
  pub plans : (number : ℕ) → ArePlans (slice_get object.instances number) (slice_get all.instances number)

-- Such an object prints the same, leaves the same containers and ends alike.
abbrev pub UnmarkedRunAlike : Type 0
UnmarkedRunAlike = (object all : Object) → IsUnmarked object all → (inputs : List Input) (bound : ℕ) (dump : Bool)
    → IsSameRun (coded_of object inputs bound dump) (coded_of all inputs bound dump)

-- Each object that stands for a program of vectors prints the same, leaves the same containers and ends as the program, if the
-- program's functions mean what their sources mean, what main's code names is there, and the run is over within its steps.
abbrev pub StandingVectorsRunAsSource : Type 0
StandingVectorsRunAsSource = (program : Program) → IsOfVectors program → MeansSource program (functions_object program)
    → list_all (names_in_main (object_of program)) (object_of program).main.instrs ≡ true
    → (object : Object) → StandsFor object program → (inputs : List Input) (bound : ℕ) (dump : Bool) → IsOver (object_of program) inputs bound
    → IsSameRun (coded_of object inputs bound dump) (run_of_program program inputs bound dump)

-- And so it does, since what main's code names is there.
abbrev pub VectorsRun : Type 0
VectorsRun = (program : Program) → IsOfVectors program → MeansSource program (functions_object program)
    → (object : Object) → StandsFor object program → (inputs : List Input) (bound : ℕ) (dump : Bool) → IsOver (object_of program) inputs bound
    → IsSameRun (coded_of object inputs bound dump) (run_of_program program inputs bound dump)

-- The run of a program's object is over wherever that of one is that stands for the program.
abbrev pub StandingEndsAlike : Type 0
StandingEndsAlike = (program : Program) (object : Object) → StandsFor object program → (inputs : List Input) (bound : ℕ)
    → IsOver object inputs bound → IsOver (object_of program) inputs bound
