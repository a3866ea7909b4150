-- When the run of a compiled program is that of its source: what is asked of the program and the object.
use Rattle.std.specs.Prelude.{◌≡◌, ℕ, Bool, true, List, [], length, map, ℤ, Some, Result, slice_get}
use Rattle.std.specs.List.{list_all}
use Rattle.sk_isa.specs.Coded.{step_limit}
use Rattle.sk_isa.specs.Configurations.{Ended, run_of}
use Rattle.sk_isa.specs.declared.object.Object.{Object}
use Rattle.sk_main_code.specs.MainSoundness.{names_in_main}
use Rattle.sk_main_code.specs.MainSteps.{coded_of, main_start, next_in_main}
use Rattle.sk_main_fits.specs.Mains.{known_in, main_body, main_of}
use Rattle.sk_main_fits.specs.StatementFits.{judged_of, sequence_fits, start_standing}
use Rattle.sk_main_run.specs.MainRun.{linked, run_of_program}
use Rattle.sk_main_runs.specs.SameMeaning.{FunctionsAgree, IsInstance}
use Rattle.sk_main_scheme.specs.MainScheme.{made_of}
use Rattle.sk_meaning.specs.Evaluation.{Callables, callables_of}
use Rattle.sk_safety.specs.Safety.{Judgements, judgements_after}
use Rattle.sk_scheme.specs.Plans.{functions_before_main}
use Rattle.sk_tree.specs.declared.tree.Instance as instances
use Rattle.sk_tree.specs.declared.tree.Program.{Program}
use Rattle.sk_world.specs.World.{Input, World, Over}

abbrev pub judgements_in : Program → Judgements
judgements_in program = judgements_after [] (functions_before_main program)

-- The object has main's code, and what it names; main's statements fit the names in scope; and functions and instances of the
-- object mean what they mean in the tree.
pub record IsAlike (object : Object) (program : Program) : Type 0 where
  pub code : object.main.instrs ≡ (main_of program).code
  pub slots : object.main.slots ≡ length (main_of program).behind.slots
  pub containers : object.containers ≡ (main_of program).behind.containers
  pub names : list_all (names_in_main object) object.main.instrs ≡ true
  pub fits : sequence_fits (map judged_of (main_body program)) (known_in program) start_standing ≡ true
  pub functions : FunctionsAgree object (known_in program) (callables_of (functions_before_main program))
  pub instances : (number : ℕ) (instance : instances.Instance) → slice_get (main_of program).behind.instances number ≡ Some instance
      → (callables : Callables) → FunctionsAgree object (known_in program) callables
      → IsInstance object (made_of (known_in program) number instance) (linked (judgements_in program) callables number instance)

-- the run of the object's main is over within its steps
abbrev pub IsOver : Object → List Input → ℕ → Type 0
IsOver object inputs bound =
    (result : Result (ℤ × World) Over) × (run_of (next_in_main object) object.main.instrs (step_limit object.main.instrs bound) (main_start object inputs bound) ≡ Ended result)

-- The run of the object is that of the program, events included, wherever it is over.
abbrev pub MainRunsAlike : Type 0
MainRunsAlike = (program : Program) (object : Object) → IsAlike object program → (inputs : List Input) (bound : ℕ) (dump : Bool)
    → IsOver object inputs bound → coded_of object inputs bound dump ≡ run_of_program program inputs bound dump
