-- When the run of a compiled program is that of its source.
use Rattle.std.specs.Prelude.{◌≡◌, ℕ, Bool, List}
use Rattle.sk_grammar.specs.Limits.{IsFromTextWithin}
use Rattle.sk_isa.specs.declared.object.Object.{Object}
use Rattle.sk_main_code.specs.Inputs.{AnswerAll}
use Rattle.sk_main_code.specs.MainSteps.{coded_of}
use Rattle.sk_main_run.specs.MainRun.{run_of_program}
use Rattle.sk_main_scheme.specs.Objects.{StandsFor, object_of}
use Rattle.sk_plain.specs.Means.{MeansSource}
use Rattle.sk_tree.specs.declared.tree.Program.{Program}
use Rattle.sk_typing.specs.Typing.{IsTyped}
use Rattle.sk_world.specs.Runs.{ProgramRun}
use Rattle.sk_world.specs.World.{Input}

-- two runs print the same, leave the same containers, and end alike
pub record IsSameRun (one other : ProgramRun) : Type 0 where
  pub printed : one.printed ≡ other.printed
  pub containers : one.containers ≡ other.containers
  pub ending : one.ending ≡ other.ending

-- the run of an object is that of a program, whatever it is given
abbrev pub RunsAs : Object → Program → Type 0
RunsAs object program =
    (inputs : List Input) → AnswerAll object.inputs inputs → (bound : ℕ) (dump : Bool)
    → IsSameRun (coded_of object inputs bound dump) (run_of_program program inputs bound dump)

-- a text has the program within the limits, and it keeps the rules of names and types
pub record IsProgram (program : Program) : Type 0 where
  pub from_text : IsFromTextWithin program
  pub typed : IsTyped program

-- each object that stands for a program runs as the program
abbrev pub ObjectsRunAsSource : Type 0
ObjectsRunAsSource = (program : Program) (object : Object) → IsProgram program → StandsFor object program → RunsAs object program

-- and its functions have the values of their source
abbrev pub ObjectsMeanSource : Type 0
ObjectsMeanSource = (program : Program) (object : Object) → IsProgram program → StandsFor object program → MeansSource program object

-- the object of a program tells the same events too
abbrev pub ObjectsTellAsSource : Type 0
ObjectsTellAsSource =
    (program : Program) → IsProgram program → (inputs : List Input) → AnswerAll (object_of program).inputs inputs → (bound : ℕ) (dump : Bool)
    → (coded_of (object_of program) inputs bound dump).events ≡ (run_of_program program inputs bound dump).events
